-- WHAT THE BENCH PROGRAM WRITES. Under a set that is accepted, with one ticket and the list emptied whenever a feed stops, the lines of
-- records are the occurrences of the set's tags in the bytes taken, in order, however the input is cut into pieces.
use Rattle.desk.specs.Given.{Replacing, replaced_as}
use Rattle.std.specs.Prelude.{ℕ, ◌<◌, Bool, true, false, cond, List, [], ◌∷◌, ◌++◌, ◌≡◌, refl, eqb, get_or, length, Ok}
use Rattle.std.proofs.Common.{append-nil, ◌∙◌, sym, ap, arith, eq-eqb}
use Rattle.std.proofs.lemmas.Bool.{eqb-false}
use Rattle.desk.specs.Calls.{new_desk, open_of}
use Rattle.desk.specs.Laws.Shared.{held-length}
use Rattle.desk.specs.Laws.Views.{Replaces, replace_done, replace_edition-end, replace_fault, replace_table, replaces}
use Rattle.desk.specs.Reached.{Call, call_open, call_replace, Reached}
use Rattle.desk.specs.Replace.{replace_of, replaced_run}
use Rattle.desk.specs.Rooms.{edition_of, first_room, serial_of}
use Rattle.desk.specs.Shared.{held, records_for, records_of}
use Rattle.desk.specs.declared.Desk.{Desk}
use Rattle.desk.specs.declared.Edition.{Edition}
use Rattle.desk.specs.declared.Record.{Record}
use Rattle.history.specs.Demand3.{first_part, no-others, numbered}
use Rattle.history.specs.History.{Account, account_at, grown, no_account, on_serial, Proper, records_due, replacing, run, start, step, stream, World}
use Rattle.matching.specs.Words.{AllBelow, Below, Word}
use Rattle.tagset.specs.Grammar.{good_set}
use Rattle.benchlines.specs.Laws.Acts.{Comes, all_comes}
use Rattle.serving.specs.Lines.{lines_of}
use Rattle.serving.specs.Serving.{ServedAll}
use Rattle.desk.specs.Layout.{by_set, desk_set, Lent, one_bit, sizes_of}
use Rattle.history.specs.Laws.Becomes.{proper_append, proper-one}
use Rattle.matching.specs.Tags.{Tags, found_in}
use Rattle.desk.specs.Laws.Layout.{order-set}

-- records of one serial alone
only_one : (n : ℕ) (rs : List Record) → ((m : ℕ) → (m ≡ n → ⊥) → records_for m rs ≡ []) → records_for n rs ≡ rs
unfolding records_for
only_one n [] f = refl
only_one n (r ∷ rs) f = go (eqb r.serial.0 n) refl (only_one n rs (λ m other. rest m (eqb r.serial.0 m) (f m other)))
  where
    rest : (m : ℕ) (t : Bool) → cond t (r ∷ records_for m rs) (records_for m rs) ≡ [] → records_for m rs ≡ []
    rest m true none = absurd (let z : ◌≡◌ {A = ℕ} 0 1 = cc in omega arith)
    rest m false none = none

    go : (t : Bool) → eqb r.serial.0 n ≡ t → records_for n rs ≡ rs → cond t (r ∷ records_for n rs) (records_for n rs) ≡ (r ∷ rs)
    go true e ih = ap (λ (l : List Record). r ∷ l) ih
    go false e ih =
        let own : eqb r.serial.0 r.serial.0 ≡ true = eq-eqb r.serial.0 r.serial.0 refl in
        let none : (r ∷ records_for r.serial.0 rs) ≡ [] = rw own at (f r.serial.0 (eqb-false r.serial.0 n e)) in
        absurd (let z : ◌≡◌ {A = ℕ} 0 1 = cc in omega arith)

abbrev pub account_of : Tags → Word → Account
account_of ts bytes = record { serial = 1; edition = 1; tags = ts; bytes = bytes; closed = false }

-- the set replaced and the ticket opened: what the history then says
pub record Begun (ts : Tags) (w : World) (d : Desk) (table : Lent) : Type 0 where
  pub desk-is : w.desk ≡ d
  pub table_is : w.table ≡ table
  pub out-is : w.out ≡ []
  pub accounts_are : w.accounts ≡ account_of ts [] ∷ []
  pub edition-is : w.edition ≡ 1
  pub empty : w.desk.records.count ≡ 0

pub begun : (set : List ℕ) (lent : Lent) (ts : Tags) (edition : Edition) (count : ℕ) → desk_set set ≡ good_set ts
    → (replace_of (new_desk one_bit) (by_set set) (sizes_of lent)).answer ≡ Ok (replaced_as edition count)
    → Begun ts (step (step (start one_bit) (call_replace (by_set set) lent)) call_open)
    (open_of (replace_of (new_desk one_bit) (by_set set) (sizes_of lent)).desk).desk (replaced_run (new_desk one_bit) (by_set set) lent)
unfolding open_of first_room
begun set lent ts edition count tags accepted = go _ (replaces (new_desk one_bit) (by_set set) (sizes_of lent)) accepted
  where
    go : (r : Replacing) → Replaces (new_desk one_bit) (by_set set) (sizes_of lent) r → r.answer ≡ Ok (replaced_as edition count)
        → Begun ts (step (replacing (start one_bit) (by_set set) lent r.desk r.answer) call_open) (open_of r.desk).desk
        (replaced_run (new_desk one_bit) (by_set set) lent)
    go r (replace_fault fault p) q = absurd (let z : ◌≡◌ {A = ℕ} 0 1 = cc in omega arith)
    go r (replace_table machine needs p) q = absurd (let z : ◌≡◌ {A = ℕ} 0 1 = cc in omega arith)
    go r (replace_edition-end n p f) q = absurd (let z : ◌≡◌ {A = ℕ} 0 1 = cc in omega arith)
    go r (replace_done n p f) q = record {
      desk-is = refl;
      table_is = refl;
      out-is = refl;
      edition-is = refl;
      accounts_are = ap (λ (x : Tags). record { serial = 1; edition = 1; tags = x; bytes = []; closed = false } ∷ []) (order-set set ts tags);
      empty = refl;
    }

none-held : (d : Desk) → d.records.count ≡ 0 → held d.records ≡ []
none-held d e = length_none (held d.records) (held-length d.records ∙ e)
  where
    length_none : (l : List Record) → length l ≡ 0 → l ≡ []
    length_none [] h = refl
    length_none (r ∷ l) h = absurd (omega arith)

pub writes_the_occurrences : (set : List ℕ) (lent : Lent) (ts : Tags) (edition : Edition) (count : ℕ) (pieces : List Word) (e : Desk) (lines : List ℕ)
    (bytes : Word)
    → Below 256 set → desk_set set ≡ good_set ts → (replace_of (new_desk one_bit) (by_set set) (sizes_of lent)).answer ≡ Ok (replaced_as edition count) → AllBelow 256 pieces
    → ServedAll (serial_of 1) (replaced_run (new_desk one_bit) (by_set set) lent)
    (open_of (replace_of (new_desk one_bit) (by_set set) (sizes_of lent)).desk).desk pieces e lines bytes
    → lines ≡ lines_of (records_of (serial_of 1) (edition_of 1) (found_in ts bytes))
unfolding run on_serial
writes_the_occurrences set lent ts edition count pieces e lines bytes below tags accepted small served = c.lines_are ∙ ap lines_of same
  where
    first : World
    first = step (step (start one_bit) (call_replace (by_set set) lent)) call_open

    b : Begun ts first (open_of (replace_of (new_desk one_bit) (by_set set) (sizes_of lent)).desk).desk (replaced_run (new_desk one_bit) (by_set set) lent)
    b = begun set lent ts edition count tags accepted

    c : Comes first (serial_of 1) bytes e lines
    c = all_comes (serial_of 1) first b.desk-is b.table_is small served

    calls : List Call
    calls = call_replace (by_set set) lent ∷ call_open ∷ c.calls

    all : Proper (start one_bit) calls
    all = proper_append (start one_bit) (call_replace (by_set set) lent ∷ []) (call_open ∷ c.calls)
        (proper-one (start one_bit) (call_replace (by_set set) lent) below tt)
        (proper_append (step (start one_bit) (call_replace (by_set set) lent)) (call_open ∷ []) c.calls
        (proper-one (step (start one_bit) (call_replace (by_set set) lent)) call_open tt tt) c.proper)

    accounts : (run (start one_bit) calls).accounts ≡ account_of ts bytes ∷ []
    accounts = c.accounts_are ∙ ap (λ (l : List Account). on_serial 1 (grown bytes) l) b.accounts_are

    reached : Reached first.desk
    reached = (numbered one_bit (call_replace (by_set set) lent ∷ call_open ∷ []) (below, (tt, tt))).reached

    stream-is : stream (run (start one_bit) calls) ≡ c.records
    stream-is =
        ap (λ (d : Desk). (run (start one_bit) calls).out ++ held d.records) c.desk-is
        ∙ ap (λ (l : List Record). (run (start one_bit) calls).out ++ l) (none-held e (c.empty reached b.empty))
        ∙ append-nil (run (start one_bit) calls).out
        ∙ c.out-is
        ∙ ap (λ (l : List Record). l ++ c.records) b.out-is

    account : account_at (run (start one_bit) calls) 0 ≡ account_of ts bytes
    account = ap (λ (l : List Account). get_or l 0 no_account) accounts

    alone : (m : ℕ) → (m ≡ 1 → ⊥) → records_for m (stream (run (start one_bit) calls)) ≡ []
    alone m other = no-others one_bit calls all.0 m none
      where
        none : (k : ℕ) → k < length (run (start one_bit) calls).accounts → (account_at (run (start one_bit) calls) k).serial ≡ m → ⊥
        none k few own =
            let first_only : k ≡ 0 = omega (arith, few, ap (λ (l : List Account). length l) accounts) in
            other (sym own ∙ ap (λ (i : ℕ). (account_at (run (start one_bit) calls) i).serial) first_only ∙ ap (λ (a : Account). a.serial) account)

    same : c.records ≡ records_of (serial_of 1) (edition_of 1) (found_in ts bytes)
    same =
        sym stream-is
        ∙ sym (only_one 1 (stream (run (start one_bit) calls)) alone)
        ∙ ap (λ (a : Account). records_for a.serial (stream (run (start one_bit) calls))) (sym account)
        ∙ first_part one_bit calls all.0 all.1 0 (rw accounts (omega arith))
        ∙ ap records_due account
