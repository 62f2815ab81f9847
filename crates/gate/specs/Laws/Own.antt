-- What noting records leaves for each room.
use Prim.Native.Nat.{ℕ, zero, suc, ◌-◌, ◌<◌, ◌≤◌, ◌%◌}
use Rattle.std.specs.Prelude.{Bool, cond, false, true, ◌≡◌, eqb, get_or, length, set}
use mathlib.Core.List.{List, [], ◌++◌, ◌∷◌}
use Rattle.std.proofs.Common.{◌∙◌, sym, ap, subst, arith, length-set, get_or-set_other, get_or-set_same, eqb-true}
use Rattle.std.proofs.Math.Path.{refl}
use Rattle.std.proofs.Math.Decide.{dec_lt, ℕ_discrete}
use Rattle.std.proofs.Math.Nat.{min-eq_left, sub-zero}
use Rattle.std.proofs.Math.Seq.{set_out}
use Rattle.std.proofs.lemmas.Bool.{eqb-false}
use Rattle.desk.specs.Laws.Rooms.{first_room-found, first_room-holds, for_held, held_for, held-inside}
use Rattle.desk.specs.Laws.Shared.{held-popped}
use Rattle.desk.specs.Rooms.{Apart, is_for, is_held, room_of, serial_of, ticket_in}
use Rattle.desk.specs.Shared.{held, no_record, popped, records_for, round}
use Rattle.desk.specs.TakeMany.{many_of, oldest, take_many_of, without}
use Rattle.desk.specs.declared.Desk.{Desk}
use Rattle.desk.specs.declared.Record.{Record}
use Rattle.desk.specs.declared.Records.{Records}
use Rattle.desk.specs.declared.Serial.{Serial}
use Rattle.desk.specs.declared.Ticket.{Ticket}
use Rattle.gate.specs.Bits.{with_bits}
use Rattle.gate.specs.Feeding.{emptied_of}
use Rattle.gate.specs.Noting.{marked, noted, noted_one, seen_in}
use Rattle.gate.specs.declared.Gate.{Gate}
use Rattle.gate.specs.declared.Seen.{Seen}
use Rattle.matching.specs.Laws.Bools.{not-both}
use Rattle.desk.specs.Limits.{most_records, most_tickets}

abbrev nothing_seen : Seen
nothing_seen = record { mask = 0; unread = 1 }

pub noted-length : (rooms : List Ticket) (seen : List Seen) (rs : List Record) → length (noted rooms seen rs) ≡ length seen
unfolding noted
noted-length rooms seen [] = refl
noted-length rooms seen (r ∷ rs) =
    noted-length rooms (noted_one rooms seen r.serial.0 r.tag.0) rs ∙ length-set seen (room_of rooms (serial_of r.serial.0)) _

pub noted-unread : (rooms : List Ticket) (seen : List Seen) (rs : List Record) (j : ℕ) → (seen_in (noted rooms seen rs) j).unread ≡ (seen_in seen j).unread
unfolding noted
noted-unread rooms seen [] j = refl
noted-unread rooms seen (r ∷ rs) j = noted-unread rooms (noted_one rooms seen r.serial.0 r.tag.0) rs j ∙ go (ℕ_discrete j i)
  where
    i : ℕ
    i = room_of rooms (serial_of r.serial.0)

    x : Seen
    x = marked (seen_in seen i) r.tag.0

    inside : Dec (i < length seen) → (seen_in (set seen i x) i).unread ≡ (seen_in seen i).unread
    inside (yes h) = ap (λ (y : Seen). y.unread) (get_or-set_same seen i x nothing_seen h)
    inside (no h) = ap (λ (l : List Seen). (seen_in l i).unread) (set_out seen i x (omega (arith, h)))

    go : Dec (j ≡ i) → (seen_in (set seen i x) j).unread ≡ (seen_in seen j).unread
    go (yes e) = subst (λ (k : ℕ). (seen_in (set seen i x) k).unread ≡ (seen_in seen k).unread) (sym e) (inside (dec_lt i (length seen)))
    go (no n) = ap (λ (y : Seen). y.unread) (get_or-set_other seen i j x nothing_seen n)

-- a record without a room
one-nowhere : (rooms : List Ticket) (seen : List Seen) (serial tag : ℕ) → length seen ≡ most_tickets → most_tickets ≤ room_of rooms (serial_of serial)
    → noted_one rooms seen serial tag ≡ seen
one-nowhere rooms seen serial tag w h = set_out seen (room_of rooms (serial_of serial)) _ (omega (arith, w, h))

pub noted-nowhere : (rooms : List Ticket) (seen : List Seen) (before : List Record) (r : Record) (after : List Record) → length seen ≡ most_tickets
    → most_tickets ≤ room_of rooms (serial_of r.serial.0) → noted rooms seen (before ++ r ∷ after) ≡ noted rooms seen (before ++ after)
unfolding noted
noted-nowhere rooms seen [] r after w h = ap (λ (l : List Seen). noted rooms l after) (one-nowhere rooms seen r.serial.0 r.tag.0 w h)
noted-nowhere rooms seen (x ∷ before) r after w h =
    noted-nowhere rooms (noted_one rooms seen x.serial.0 x.tag.0) before r after (length-set seen (room_of rooms (serial_of x.serial.0)) _ ∙ w) h

module _ (rooms : List Ticket) (wide : length rooms ≡ most_tickets) where
  -- the ticket of a serial that has a room
  has_room : (s : Serial) → room_of rooms s < most_tickets → (is_held (ticket_in rooms (room_of rooms s)) ≡ true) ×
      ((ticket_in rooms (room_of rooms s)).serial.0 ≡ s.0)
  has_room s h = for_held s (ticket_in rooms (room_of rooms s)) (first_room-holds (is_for s) rooms (omega (arith, wide, h)))

  -- a record leaves every room but that of its serial
  one-other : (seen : List Seen) (serial tag i : ℕ) → length seen ≡ most_tickets
      → (room_of rooms (serial_of serial) < most_tickets → i ≡ room_of rooms (serial_of serial) → ⊥)
      → seen_in (noted_one rooms seen serial tag) i ≡ seen_in seen i
  one-other seen serial tag i w n = go (dec_lt (room_of rooms (serial_of serial)) most_tickets)
    where
      go : Dec (room_of rooms (serial_of serial) < most_tickets) → seen_in (noted_one rooms seen serial tag) i ≡ seen_in seen i
      go (yes h) = get_or-set_other seen (room_of rooms (serial_of serial)) i _ nothing_seen (n h)
      go (no h) = ap (λ (l : List Seen). seen_in l i) (one-nowhere rooms seen serial tag w (omega (arith, h)))

  pub noted-free : (seen : List Seen) (rs : List Record) → length seen ≡ most_tickets → (i : ℕ) → is_held (ticket_in rooms i) ≡ false
      → seen_in (noted rooms seen rs) i ≡ seen_in seen i
  unfolding noted
  noted-free seen [] w i f = refl
  noted-free seen (r ∷ rs) w i f =
      noted-free (noted_one rooms seen r.serial.0 r.tag.0) rs (length-set seen (room_of rooms (serial_of r.serial.0)) _ ∙ w) i f
      ∙ one-other seen r.serial.0 r.tag.0 i w
      (λ h e. not-both (subst (λ (k : ℕ). is_held (ticket_in rooms k) ≡ true) (sym e) (has_room (serial_of r.serial.0) h).0) f)

  -- a room that is held is that of its serial
  its-room : Apart rooms → (i : ℕ) → is_held (ticket_in rooms i) ≡ true → room_of rooms (serial_of (ticket_in rooms i).serial.0) ≡ i
  its-room apart i h =
      let s = serial_of (ticket_in rooms i).serial.0 in
      let most = first_room-found (is_for s) rooms i (held_for s (ticket_in rooms i) h refl) in
      let k = has_room s (omega (arith, most, wide, held-inside rooms i h)) in
      apart (room_of rooms s) i k.0 h k.1

  pub noted-own : Apart rooms → (seen : List Seen) (rs : List Record) → length seen ≡ most_tickets → (i : ℕ) → is_held (ticket_in rooms i) ≡ true
      → (seen_in (noted rooms seen rs) i).mask ≡ with_bits (seen_in seen i).mask (records_for (ticket_in rooms i).serial.0 rs)
  unfolding noted with_bits records_for
  noted-own apart seen [] w i h = refl
  noted-own apart seen (r ∷ rs) w i h = noted-own apart next rs (length-set seen (room_of rooms (serial_of r.serial.0)) _ ∙ w) i h
      ∙ go (eqb r.serial.0 n) refl
    where
      n : ℕ
      n = (ticket_in rooms i).serial.0

      next : List Seen
      next = noted_one rooms seen r.serial.0 r.tag.0

      go : (t : Bool) → eqb r.serial.0 n ≡ t
          → with_bits (seen_in next i).mask (records_for n rs) ≡ with_bits (seen_in seen i).mask (cond t (r ∷ records_for n rs) (records_for n rs))
      go true e =
          let at : room_of rooms (serial_of r.serial.0) ≡ i =
          ap (λ (m : ℕ). room_of rooms (serial_of m)) (eqb-true r.serial.0 n e) ∙ its-room apart i h in
          let here : seen_in next i ≡ marked (seen_in seen i) r.tag.0 =
          ap (λ (k : ℕ). get_or (set seen k (marked (seen_in seen k) r.tag.0)) i nothing_seen) at
          ∙ get_or-set_same seen i _ nothing_seen (omega (arith, w, wide, held-inside rooms i h)) in
          ap (λ (x : Seen). with_bits x.mask (records_for n rs)) here
      go false e =
          ap (λ (x : Seen). with_bits x.mask (records_for n rs))
          (one-other seen r.serial.0 r.tag.0 i w
          (λ k q. eqb-false r.serial.0 n e (sym (has_room (serial_of r.serial.0) k).1 ∙ ap (λ (m : ℕ). (ticket_in rooms m).serial.0) (sym q))))

-- as many of the oldest as are held are all that are held
oldest-held : (n : ℕ) (q : Records) → n ≡ q.count → oldest n q ≡ held q
unfolding oldest round
oldest-held zero q e = ap (λ (k : ℕ). round q.ring q.first k) e
oldest-held (suc n) q e =
    ap {B = List Record} (λ (l : List Record). get_or q.ring (q.first % 256) no_record ∷ l) (oldest-held n (popped q) (omega (arith, e)))
    ∙ sym (held-popped q (omega (arith, e)))

all-many : (d : Desk) → d.records.count ≤ most_records → many_of d 1024 ≡ d.records.count
all-many d h = min-eq_left h

pub all-oldest : (d : Desk) → d.records.count ≤ most_records → oldest (many_of d 1024) d.records ≡ held d.records
all-oldest d h = oldest-held (many_of d 1024) d.records (all-many d h)

without-count : (n : ℕ) (q : Records) → (without n q).count ≡ q.count - n
unfolding without
without-count zero q = sym (sub-zero q.count)
without-count (suc n) q = without-count n (popped q) ∙ omega arith

pub none-held : (g : Gate) (d : Desk) → d.records.count ≤ most_records
    → (held (emptied_of g d).desk.records ≡ []) × ((emptied_of g d).desk.tickets ≡ d.tickets)
unfolding take_many_of round
none-held g d h =
    let left = without (many_of d 1024) d.records in
    let z : left.count ≡ 0 = without-count (many_of d 1024) d.records ∙ omega (arith, all-many d h) in
    (ap (λ (k : ℕ). round left.ring left.first k) z, refl)
