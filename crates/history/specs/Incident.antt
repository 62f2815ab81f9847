-- THE INCIDENT CANNOT HAPPEN: a set replaced while an approval is half read. No record of a ticket ever names a tag of another edition.
use Rattle.std.specs.Prelude.{◌<◌, ◌≤◌, ℕ, Bool, cond, false, true, ◌⊎◌, ◌≡◌, refl, eqb, length, take}
use mathlib.Core.List.Memᴰ
use mathlib.Core.List.{List, Memᴰ, [], ◌∷◌}
use Rattle.std.proofs.Common.{inl, inr, ◌∙◌, ap, subst, sym}
use Rattle.std.proofs.Math.Dec.{eqb_refl}
use Rattle.desk.specs.Rooms.{edition_of, serial_of}
use Rattle.desk.specs.Shared.{record_of, records_for, records_of}
use Rattle.desk.specs.declared.Edition.{Edition}
use Rattle.desk.specs.declared.Record.{Record}
use Rattle.desk.specs.declared.Serial.{Serial}
use Rattle.history.specs.Demand3.{first_part}
use Rattle.history.specs.History.{Account, account_at, AllBytes, AsLeft, records_due, run, start, stream}
use Rattle.matching.specs.Laws.Bools.{is_true}
use Rattle.matching.specs.Occurrence.{Occurrence}
use Rattle.desk.specs.Reached.{Call}
use Rattle.desk.specs.Layout.{Kind}
use Rattle.matching.specs.Tags.{found_in, tag_count, tag_ends}
use Rattle.matching.specs.Laws.Tags.{ends-among, tag-found_iff}

-- what a record of a ticket says: its edition is the ticket's, its number is one of that edition's tags, and that tag's bytes end there
pub record Truthful (a : Account) (r : Record) : Type 0 where
  pub edition : r.edition.0 ≡ a.edition
  pub tag : r.tag.0 < tag_count a.tags
  pub ending : tag_ends a.tags r.tag.0 (take r.end a.bytes) ≡ true
  pub later : 0 < r.end
  pub inside : r.end ≤ length a.bytes

-- a record of a serial is among the records of that serial
among-own : (n : ℕ) (rs : List Record) (r : Record) → Memᴰ r rs → r.serial.0 ≡ n → Memᴰ r (records_for n rs)
unfolding records_for
among-own n [] r m e = absurd (Memᴰ.not-nil m)
among-own n (x ∷ rs) r m e = go (Memᴰ.cases_cons m) (λ k. among-own n rs r k e)
  where
    put : (b : Bool) → Memᴰ r (records_for n rs) → Memᴰ r (cond b (x ∷ records_for n rs) (records_for n rs))
    put true k = Memᴰ.tail k
    put false k = k

    go : (r ≡ x) ⊎ Memᴰ r rs → (Memᴰ r rs → Memᴰ r (records_for n rs))
        → Memᴰ r (cond (eqb x.serial.0 n) (x ∷ records_for n rs) (records_for n rs))
    go (inl q) f =
        let h : x.serial.0 ≡ n = ap (λ (y : Record). y.serial.0) (sym q) ∙ e in
        rw (is_true (eqb x.serial.0 n) (rw h (eqb_refl n))) (Memᴰ.head q)
    go (inr k) f = put (eqb x.serial.0 n) (f k)

-- a record that is made of occurrences is made of one of them
made_of : (s : Serial) (e : Edition) (os : List Occurrence) (r : Record) → Memᴰ r (records_of s e os)
    → (o : Occurrence) × Memᴰ o os × (r ≡ record_of s e o)
made_of s e [] r m = absurd (Memᴰ.not-nil m)
made_of s e (o ∷ os) r m = go (Memᴰ.cases_cons m) (made_of s e os r)
  where
    go : (r ≡ record_of s e o) ⊎ Memᴰ r (records_of s e os) → (Memᴰ r (records_of s e os) → (p : Occurrence) × Memᴰ p os × (r ≡ record_of s e p))
        → (p : Occurrence) × Memᴰ p (o ∷ os) × (r ≡ record_of s e p)
    go (inl q) f = (o, Memᴰ.head refl, q)
    go (inr k) f = let z = f k in (z.0, Memᴰ.tail z.1, z.2)

-- after any history, of every record taken out or held
pub old-tags_only : (kind : Kind) (calls : List Call) → AllBytes calls → AsLeft (start kind) calls → (k : ℕ) → k < length (run (start kind) calls).accounts
    → (r : Record) → Memᴰ r (stream (run (start kind) calls))
    → r.serial.0 ≡ (account_at (run (start kind) calls) k).serial → Truthful (account_at (run (start kind) calls) k) r
old-tags_only kind calls b left k h r m e = record {
  edition = ap (λ (x : Record). x.edition.0) z.2;
  tag = subst (λ (x : Record). x.tag.0 < tag_count a.tags) (sym z.2) (ends-among a.tags z.0.tag (take z.0.end a.bytes) f.2);
  ending = subst (λ (x : Record). tag_ends a.tags x.tag.0 (take x.end a.bytes) ≡ true) (sym z.2) f.2;
  later = subst (λ (x : Record). 0 < x.end) (sym z.2) f.0;
  inside = subst (λ (x : Record). x.end ≤ length a.bytes) (sym z.2) f.1;
}
  where
    a : Account
    a = account_at (run (start kind) calls) k

    due : Memᴰ r (records_due a)
    due = subst (λ (l : List Record). Memᴰ r l) (first_part kind calls b left k h) (among-own a.serial (stream (run (start kind) calls)) r m e)

    z : (o : Occurrence) × Memᴰ o (found_in a.tags a.bytes) × (r ≡ record_of (serial_of a.serial) (edition_of a.edition) o)
    z = made_of (serial_of a.serial) (edition_of a.edition) (found_in a.tags a.bytes) r due

    f : (0 < z.0.end) × (z.0.end ≤ length a.bytes) × (tag_ends a.tags z.0.tag (take z.0.end a.bytes) ≡ true)
    f = (tag-found_iff a.tags a.bytes z.0.end z.0.tag).0 z.1
