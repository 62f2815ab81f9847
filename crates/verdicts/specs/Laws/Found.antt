-- Over tables as left: the tags kept for an approval are those that end in the bytes handed in, and it is whole exactly while they are not too
-- many.
use Rattle.std.specs.Prelude.{ℕ, zero, suc, ◌/◌, ◌<◌, ◌≤◌, ◌%◌, ◌^◌, Bool, false, true, ◌↔◌, ◌⊎◌, ◌≡◌, refl, length}
use mathlib.Core.List.{List, Memᴰ, ◌++◌, append-nil}
use Rattle.std.proofs.Common.{inl, inr, ◌∙◌, sym, ap, subst, mod-eq_of_lt, arith, pow_pos}
use Rattle.std.proofs.Math.Nat.{div-eq_of_lt}
use Rattle.desk.specs.Rooms.{edition_of, room_of, serial_of}
use Rattle.desk.specs.Shared.{record_of, records_for}
use Rattle.desk.specs.declared.Record.{Record}
use Rattle.desk.specs.declared.Serial.{Serial}
use Rattle.gate.specs.Noting.{seen_in}
use Rattle.gate.specs.declared.Seen.{Seen}
use Rattle.history.specs.History.{account_at, OpenTicket, Proper, run, start, stream, World}
use Rattle.history.specs.Laws.Feeding.{agrees, live}
use Rattle.history.specs.Laws.Invariant.{Inv}
use Rattle.history.specs.Laws.LedgerSteps.{sound-left}
use Rattle.history.specs.Verdict.{EndsAt, record_has_tag, tag_has_record}
use Rattle.matching.specs.Laws.Tags.{ends-among, lawful-few}
use Rattle.matching.specs.Tags.{tag_count, Tags}
use Rattle.matching.specs.Words.{Word}
use Rattle.verdicts.specs.GateHistory.{Approval, GateWorld, Readable, approval_at}
use Rattle.verdicts.specs.Laws.Bits.{low_bit, masked_from, masked_in, masked_lt, none-held, own-among}
use Rattle.verdicts.specs.Laws.Came.{Came, Match, gate_of}
use Rattle.verdicts.specs.Laws.Deciding.{Seated, mask_in, seated}
use Rattle.verdicts.specs.Laws.Each.{Each, each_at, each-length}
use Rattle.verdicts.specs.Laws.Mask.{mask_bit, number_lt, same_bits}
use Rattle.gate.specs.Bits.{with_bits}
use Rattle.verdicts.specs.Laws.Onward.{Joined}
use Rattle.verdicts.specs.Laws.Standing.{Standing}
use Rattle.verdicts.specs.Mask.{carried, mask_of}
use Rattle.desk.specs.Reached.{Call}
use Rattle.desk.specs.Layout.{Kind}
use Rattle.matching.specs.Limits.{largest, most_tags}

-- two bits that are 1 together are one
bits_agree : (a b : ℕ) → a ≤ 1 → b ≤ 1 → (a ≡ 1 → b ≡ 1) → (b ≡ 1 → a ≡ 1) → a ≡ b
bits_agree zero zero x y f g = refl
bits_agree zero (suc b) x y f g = absurd (let z : suc b ≡ 1 = omega (arith, y) in omega (arith, g z))
bits_agree (suc a) b x y f g = let z : suc a ≡ 1 = omega (arith, x) in z ∙ sym (f z)

module _ (kind : Kind) (calls : List Call) (b : Proper (start kind) calls) (accepted : ℕ) (seen : List Seen) (approvals : List Approval)
    (j : Joined seen (run (start kind) calls))
    (m : Each Match approvals (run (start kind) calls).accounts) where
  abbrev w : World
  w = run (start kind) calls

  abbrev g : GateWorld
  g = gate_of (run (start kind) calls) accepted seen approvals

  v : Inv (Unit {0}) w
  v = (sound-left kind calls b.0 b.1).inv

  out_only : stream w ≡ w.out
  out_only = ap (λ (l : List Record). w.out ++ l) (none-held w.desk j.empty) ∙ append-nil w.out

  module _ (stands : Standing g) (s : Serial) (k : ℕ) (r : Readable g s k) where
    abbrev bytes : Word
    bytes = (approval_at g k).handed

    abbrev rs : List Record
    rs = records_for s.0 (run (start kind) calls).out

    abbrev mask : ℕ
    mask = (seen_in seen (room_of (run (start kind) calls).desk.tickets s)).mask

    hk : k < length w.accounts
    hk = subst (λ (n : ℕ). k < n) (each-length m) r.waits.inside

    x : Match (approval_at g k) (account_at w k)
    x = each_at m k hk

    serial-is : (account_at w k).serial ≡ s.0
    serial-is = x.serial ∙ r.waits.serial

    is : s.0 ≡ suc k
    is = sym serial-is ∙ v.numbered k hk

    seat : Seated g s k
    seat = seated g stands s k r.waits

    ticket : OpenTicket w s k
    ticket = (
      record { inside = hk; serial = serial-is; not-closed = live w v s k hk is seat.room },
      sym (agrees w v s k hk is seat.room).edition ∙ seat.kept.edition ∙ r.current ∙ sym stands.editions ∙ sym v.edition,
    )

    bytes_are : (account_at w k).bytes ≡ bytes
    bytes_are = x.all r.whole

    tags_are : (account_at w k).tags ≡ w.tags
    tags_are = (v.kept k hk).current ticket.1

    few-tags : tag_count w.tags ≤ most_tags
    few-tags = subst (λ (tags : Tags). tag_count tags ≤ most_tags) tags_are (lawful-few (account_at w k).tags (v.kept k hk).lawful)

    ends_at : (y : Record) → Memᴰ y rs → EndsAt w.tags bytes y.tag.0 y.end
    ends_at y h =
        let z = own-among s.0 w.out y h in
        subst (λ (c : Word). EndsAt w.tags c y.tag.0 y.end) bytes_are
        (record_has_tag kind calls b.0 b.1 s k ticket y (subst (λ (l : List Record). Memᴰ y l) (sym out_only) z.0) z.1).1

    mask_is : mask ≡ with_bits 0 rs
    mask_is = j.masks s seat.room

    there : (n : ℕ) → mask / 2 ^ n % 2 ≡ 1 → (e : ℕ) × EndsAt w.tags bytes n e
    there n h = go (masked_from n 0 rs (ap (λ (y : ℕ). y / 2 ^ n % 2) (sym mask_is) ∙ h))
      where
        go : (0 / 2 ^ n % 2 ≡ 1) ⊎ ((y : Record) × Memᴰ y rs × (y.tag.0 % 64 ≡ n)) → (e : ℕ) × EndsAt w.tags bytes n e
        go (inl q) = absurd (omega (arith, q, ap (λ (y : ℕ). y % 2) (div-eq_of_lt (pow_pos n))))
        go (inr z) =
            let e = ends_at z.0 z.1 in
            let small : z.0.tag.0 < 64 = omega (arith, ends-among w.tags z.0.tag.0 _ e.ending, few-tags) in
            let t : z.0.tag.0 ≡ n = sym (mod-eq_of_lt small) ∙ z.2 in
            (z.0.end, subst (λ (y : ℕ). EndsAt w.tags bytes y z.0.end) t e)

    back : (n : ℕ) → n < 64 → (e : ℕ) × EndsAt w.tags bytes n e → mask / 2 ^ n % 2 ≡ 1
    back n small z =
        let e : EndsAt (account_at w k).tags (account_at w k).bytes n z.0 =
        subst (λ (c : Word). EndsAt (account_at w k).tags c n z.0) (sym bytes_are)
        (subst (λ (tags : Tags). EndsAt tags bytes n z.0) (sym tags_are) z.1) in
        let y = record_of (serial_of (account_at w k).serial) (edition_of (account_at w k).edition) (record { end = z.0; tag = n }) in
        let h : Memᴰ y rs =
        subst (λ (l : List Record). Memᴰ y (records_for s.0 l)) out_only
        (subst (λ (n : ℕ). Memᴰ y (records_for n (stream w))) serial-is (tag_has_record kind calls b.0 b.1 k hk n z.0 e)) in
        ap (λ (y : ℕ). y / 2 ^ n % 2) mask_is ∙ masked_in n 0 rs y h (mod-eq_of_lt small)

    mask_in_lem : mask ≡ mask_of w.tags bytes
    mask_in_lem =
        same_bits 64 mask (mask_of w.tags bytes) (subst (λ (y : ℕ). y < 2 ^ 64) (sym mask_is) (masked_lt 0 rs (pow_pos 64)))
        (number_lt 64 (carried w.tags bytes))
        (λ n h. bits_agree (mask / 2 ^ n % 2) (mask_of w.tags bytes / 2 ^ n % 2) (low_bit mask n) (low_bit (mask_of w.tags bytes) n)
        (λ q. (mask_bit w.tags bytes n h).1 (there n q)) (λ q. back n h ((mask_bit w.tags bytes n h).0 q)))

  whole_in : (k : ℕ) → k < length approvals → ((approval_at g k).whole ≡ true) ↔ (length (approval_at g k).handed ≤ largest)
  whole_in k h =
      let hk : k < length w.accounts = subst (λ (n : ℕ). k < n) (each-length m) h in
      let x : Match (approval_at g k) (account_at w k) = each_at m k hk in (
        λ t. subst (λ (c : Word). length c ≤ largest) (x.all t) (v.kept k hk).small,
        λ z. go (approval_at g k).whole refl z x.part,
      )
    where
      go : (t : Bool) → (approval_at g k).whole ≡ t → length (approval_at g k).handed ≤ largest
          → ((approval_at g k).whole ≡ false → largest < length (approval_at g k).handed) → (approval_at g k).whole ≡ true
      go true e z f = e
      go false e z f = absurd (omega (arith, z, f e))

-- what is kept, and that no more tags than a set may have are in force
pub record Found (g : GateWorld) (s : Serial) (k : ℕ) : Type 0 where
  pub mask : mask_in g s ≡ mask_of g.tags (approval_at g k).handed
  pub few : tag_count g.tags ≤ most_tags

pub found : (g : GateWorld) → Came g → Standing g → (s : Serial) (k : ℕ) → Readable g s k → Found g s k
found g c =
    subst (λ (x : GateWorld). Standing x → (s : Serial) (k : ℕ) → Readable x s k → Found x s k) c.same
    (λ v s k r. record {
      mask = mask_in_lem c.kind c.calls c.bytes c.accepted c.seen c.approvals c.joined c.each v s k r;
      few = few-tags c.kind c.calls c.bytes c.accepted c.seen c.approvals c.joined c.each v s k r;
    })

pub whole_iff : (g : GateWorld) → Came g → (k : ℕ) → k < length g.approvals → ((approval_at g k).whole ≡ true) ↔ (length (approval_at g k).handed ≤ largest)
whole_iff g c =
    subst (λ (x : GateWorld). (k : ℕ) → k < length x.approvals → ((approval_at x k).whole ≡ true) ↔ (length (approval_at x k).handed ≤ largest)) c.same
    (whole_in c.kind c.calls c.bytes c.accepted c.seen c.approvals c.joined c.each)
