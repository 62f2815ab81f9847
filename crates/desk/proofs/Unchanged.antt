-- A refused call changes nothing at all, and neither does a feed that stops with no byte taken.
use Rattle.desk.specs.Given.{Opening, Feeding, Closing}
use Rattle.std.specs.Prelude.{◌+◌, ◌-◌, suc, zero, ℕ, List, [], ◌∷◌, ◌≡◌, refl, set, Ok}
use Rattle.std.proofs.Common.{◌∙◌, ap, ap₂, arith}
use Rattle.desk.specs.Calls.{close_of, open_of, with_records, with_tickets}
use Rattle.desk.specs.Feed.{advance, fed_by, feed_of, read_for, read_on, taken_by}
use Rattle.desk.specs.Laws.Views.{Closes, Feeds, Opens, close_done, close_no-ticket, closes, feed_long, feed_no-place, feed_no-ticket}
use Rattle.desk.specs.Laws.Views.{feed_other-slots, feed_read, feed_stale, open_done, open_no-room, open_no-set, open_serial-end, opens}
use Rattle.desk.proofs.Laws.Views.{feeds}
use Rattle.desk.specs.Numbers.{close_number, feed_number, open_number}
use Rattle.desk.specs.Rooms.{room_of, ticket_in}
use Rattle.desk.specs.Shared.{push_all, records_of}
use Rattle.desk.specs.declared.Desk.{Desk}
use Rattle.desk.specs.declared.Serial.{Serial}
use Rattle.desk.specs.declared.Ticket.{Ticket}
use Rattle.matching.specs.Occurrence.{Occurrence}
use Rattle.matching.specs.Reading.{Outcome}
use Rattle.matching.specs.Words.{Word}
use Rattle.matching.specs.declared.Stop.{Stop}
use Rattle.desk.specs.Layout.{Lent}
use Rattle.desk.specs.Laws.Layout.{desk-kept}
use Rattle.desk.specs.Limits.{most_records}

pub open_refused : (d : Desk) → (open_number (open_of d).answer ≡ 0 → ⊥) → (open_of d).desk ≡ d
open_refused d = go _ (opens d)
  where
    go : (r : Opening) → Opens d r → (open_number r.answer ≡ 0 → ⊥) → r.desk ≡ d
    go r (open_no-set a) n = refl
    go r (open_serial-end a b) n = refl
    go r (open_no-room a b c) n = refl
    go r (open_done a b i e h) n = absurd (n refl)

pub close_refused : (d : Desk) (s : Serial) → (close_number (close_of d s).answer ≡ 0 → ⊥) → (close_of d s).desk ≡ d
close_refused d s = go _ (closes d s)
  where
    go : (r : Closing) → Closes d s r → (close_number r.answer ≡ 0 → ⊥) → r.desk ≡ d
    go r (close_no-ticket h) n = refl
    go r (close_done i e h) n = absurd (n refl)

pub feed_refused : (d : Desk) (s : Serial) (table : Lent) (piece : Word) → (feed_number (feed_of d s table piece).answer ≡ 0 → ⊥)
    → (feed_of d s table piece).desk ≡ d
feed_refused d s table piece = go _ (feeds d s table piece)
  where
    go : (r : Feeding) → Feeds d (room_of d.tickets s) table piece r → (feed_number r.answer ≡ 0 → ⊥) → r.desk ≡ d
    go r (feed_no-ticket h) n = refl
    go r (feed_stale h e) n = refl
    go r (feed_other-slots h e l) n = refl
    go r (feed_long h e l m) n = refl
    go r (feed_no-place h e l m x) n = refl
    go r (feed_read h e l m) n = absurd (n refl)

-- a stop with no byte taken changes nothing either, over any table
pub feed_idle : (d : Desk) (s : Serial) (table : Lent) (piece : Word) → (records : ℕ) (stop : Stop)
    → (feed_of d s table piece).answer ≡ Ok (advance 0 records stop) → (feed_of d s table piece).desk ≡ d
unfolding push_all
feed_idle d s table piece records stop q = go _ (feeds d s table piece) q
  where
    i : ℕ
    i = room_of d.tickets s

    t : Ticket
    t = ticket_in d.tickets i

    same : (r : Outcome) → r.taken ≡ 0 → (r.place ≡ t.place) × (r.found ≡ []) → (fed_by d i t r).desk ≡ d
    same r z k =
        let n : t.taken + r.taken ≡ t.taken = omega (arith, z) in
        let same-ticket : read_on t r ≡ t = λ x. record { serial = t.serial; edition = t.edition; taken = n x; place = k.0 x } in
        ap₂ (λ (l : List Ticket) (os : List Occurrence). with_records (with_tickets d l) (push_all d.records (records_of t.serial t.edition os)))
        (ap (set d.tickets i) same-ticket ∙ set_back d.tickets i) k.1
      where
        set_back : (l : List Ticket) (j : ℕ) → set l j (ticket_in l j) ≡ l
        set_back [] j = refl
        set_back (x ∷ l) zero = refl
        set_back (x ∷ l) (suc j) = ap {B = List Ticket} (λ (y : List Ticket). x ∷ y) (set_back l j)

    go : (r : Feeding) → Feeds d i table piece r → r.answer ≡ Ok (advance 0 records stop) → r.desk ≡ d
    go r (feed_no-ticket h) e = refl
    go r (feed_stale h x) e = refl
    go r (feed_other-slots h x l) e = refl
    go r (feed_long h x l m) e = refl
    go r (feed_no-place h x l m y) e = refl
    go r (feed_read h x l m) e =
        let z : (read_for d t table piece).taken ≡ 0 = ap taken_by e in
        same (read_for d t table piece) z ((desk-kept d.slots table t.place t.taken (most_records - d.records.count) piece).idle z)
