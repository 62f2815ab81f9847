-- What holds of every desk that calls have made, whatever tables its feeds were lent.
use Rattle.desk.specs.Given.{Opening, Feeding, Closing, Taking, Replacing}
use Rattle.std.specs.Prelude.{◌+◌, ◌<◌, suc, zero, ℕ, false, true, ◌≡◌, refl, replicate}
use Rattle.std.proofs.lemmas.Bool.{false≢true}
use Rattle.std.proofs.Common.{arith, length-set}
use Rattle.desk.specs.Calls.{new_desk}
use Rattle.desk.specs.Laws.Rooms.{for_held}
use Rattle.desk.specs.Laws.Views.{Closes, Feeds, Opens, Replaces, Takes, close_done, close_no-ticket, closes, feed_long, feed_no-place, feed_no-ticket}
use Rattle.desk.specs.Laws.Views.{feed_other-slots, feed_read, feed_stale, open_done, open_no-room, open_no-set, open_serial-end, opens}
use Rattle.desk.proofs.Laws.Views.{feeds}
use Rattle.desk.specs.Laws.Views.{replace_done, replace_edition-end, replace_fault, replace_table, replaces, take-nothing, take-oldest, takes}
use Rattle.desk.specs.Reached.{Call, Reached, after_call, by_call, call_close, call_feed, call_open, call_replace, call_take, from_new}
use Rattle.desk.specs.Rooms.{free_ticket, is_held, new_ticket, room_of, serial_of, ticket_in}
use Rattle.desk.specs.declared.Desk.{Desk}
use Rattle.desk.specs.declared.Serial.{Serial}
use Rattle.matching.specs.Laws.Bools.{not-both}
use Rattle.matching.specs.Words.{Word}
use Rattle.desk.specs.Layout.{Kind, Lent, Order, Sizes, sizes_of}
use Rattle.desk.specs.Laws.Layout.{slots-some, start-place, start-wide}
use Rattle.desk.specs.Limits.{most_tickets}
use Rattle.desk.specs.Laws.Good.{Placed, GoodDesk, set_places, good-fed, room-held}

none-held : (n i : ℕ) → is_held (ticket_in (replicate n free_ticket) i) ≡ false
none-held zero i = refl
none-held (suc n) zero = refl
none-held (suc n) (suc i) = none-held n i

good_new : (kind : Kind) → GoodDesk (new_desk kind)
good_new kind = record {
  rooms = refl;
  ring = refl;
  first = omega arith;
  count = omega arith;
  slots = λ h. absurd (omega arith);
  places = λ i h. absurd (not-both h (none-held most_tickets i));
}

good_opens : (d : Desk) (r : Opening) → Opens d r → GoodDesk d → GoodDesk r.desk
good_opens d r (open_no-set a) g = g
good_opens d r (open_serial-end a b) g = g
good_opens d r (open_no-room a b c) g = g
good_opens d r (open_done a b i e h) g = record {
  rooms = simp length-set g.rooms;
  ring = g.ring;
  first = g.first;
  count = g.count;
  slots = g.slots;
  places = set_places (Placed d.edition.0 d.slots) d.tickets i (new_ticket (serial_of (d.serial.0 + 1)) d.edition) g.places (λ k. new);
}
  where
    some : (n : ℕ) → (n ≡ 0 → ⊥) → 0 < n
    some zero f = absurd (f refl)
    some (suc n) f = omega arith

    new : Placed d.edition.0 d.slots (new_ticket (serial_of (d.serial.0 + 1)) d.edition)
    new = record { of = omega arith; below = λ k. start-place d.slots (g.slots (some d.edition.0 a)); width = start-wide }

good_closes : (d : Desk) (s : Serial) (r : Closing) → Closes d s r → GoodDesk d → GoodDesk r.desk
good_closes d s r (close_no-ticket h) g = g
good_closes d s r (close_done i e h) g = record {
  rooms = simp length-set g.rooms;
  ring = g.ring;
  first = g.first;
  count = g.count;
  slots = g.slots;
  places = set_places (Placed d.edition.0 d.slots) d.tickets i free_ticket g.places (λ k. absurd (false≢true k));
}

good_takes : (d : Desk) (r : Taking) → Takes d r → GoodDesk d → GoodDesk r.desk
good_takes d r (take-nothing e) g = g
good_takes d r (take-oldest h) g =
    record { rooms = g.rooms; ring = g.ring; first = omega arith; count = omega (arith, g.count); slots = g.slots; places = g.places }

good_replaces : (d : Desk) (order : Order) (len : Sizes) (r : Replacing) → Replaces d order len r → GoodDesk d → GoodDesk r.desk
good_replaces d order len r (replace_fault fault e) g = g
good_replaces d order len r (replace_table machine needs e) g = g
good_replaces d order len r (replace_edition-end count e l) g = g
good_replaces d order len r (replace_done count e l) g = record {
  rooms = g.rooms;
  ring = g.ring;
  first = g.first;
  count = g.count;
  slots = λ h. slots-some order len count e;
  places = λ i h. let p = g.places i h in record { of = omega (arith, p.of); below = λ q. absurd (omega (arith, p.of)); width = p.width };
}

good_feeds : (d : Desk) (i : ℕ) (table : Lent) (piece : Word) (r : Feeding) → (i < most_tickets → is_held (ticket_in d.tickets i) ≡ true)
    → Feeds d i table piece r → GoodDesk d → GoodDesk r.desk
good_feeds d i table piece r f (feed_no-ticket a) g = g
good_feeds d i table piece r f (feed_stale a b) g = g
good_feeds d i table piece r f (feed_other-slots a b c) g = g
good_feeds d i table piece r f (feed_long a b c l) g = g
good_feeds d i table piece r f (feed_no-place a b c l n) g = g
good_feeds d i table piece r f (feed_read a b c l) g = good-fed d i (ticket_in d.tickets i) table piece g (f a) (g.places i (f a)) b c

pub good-after : (d : Desk) (c : Call) → GoodDesk d → GoodDesk (after_call d c)
good-after d (call_replace order run) g = good_replaces d order (sizes_of run) _ (replaces d order (sizes_of run)) g
good-after d call_open g = good_opens d _ (opens d) g
good-after d (call_feed s table piece) g =
    good_feeds d (room_of d.tickets s) table piece _ (λ h. (for_held s (ticket_in d.tickets (room_of d.tickets s)) (room-held d s g h)).0)
    (feeds d s table piece) g
good-after d (call_close s) g = good_closes d s _ (closes d s) g
good-after d call_take g = good_takes d _ (takes d) g

-- EVERY DESK that comes from a new desk and the calls is good
pub good : {d : Desk} → Reached d → GoodDesk d
good (from_new kind) = good_new kind
good (by_call r c) = good-after _ c (good r)
