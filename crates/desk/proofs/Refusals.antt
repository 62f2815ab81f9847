-- The refusals of the desk's calls but `replace`, whose rows `replace_exact` has, in their order: the number that a call gives is that of the first ground
-- that holds, which `first_of_iff`
-- (matching) says in full.
use Rattle.desk.specs.Given.{Opening, Feeding, Closing}
use Rattle.std.specs.Prelude.{suc, ◌≡◌, length}
use Rattle.std.proofs.Common.{ap, sym, le_of_eq, le_trans, arith, eq-eqb, ne_eqb, lt-ltb, le-ltb}
use Rattle.desk.specs.Calls.{close_of, open_of}
use Rattle.desk.specs.Conditions.{close_grounds, feed_grounds, open_grounds}
use Rattle.desk.specs.Feed.{feed_of}
use Rattle.desk.proofs.Laws.Good.{good}
use Rattle.desk.specs.Laws.Rooms.{all-held_iff}
use Rattle.desk.specs.Laws.Views.{Closes, Feeds, Opens, close_done, close_no-ticket, closes, feed_long, feed_no-place, feed_no-ticket}
use Rattle.desk.specs.Laws.Views.{feed_other-slots, feed_read, feed_stale, open_done, open_no-room, open_no-set, open_serial-end, opens}
use Rattle.desk.proofs.Laws.Views.{feeds}
use Rattle.desk.specs.Numbers.{close_number, feed_number, open_number}
use Rattle.desk.specs.Reached.{Reached}
use Rattle.desk.specs.Rooms.{room_of, tickets_held}
use Rattle.desk.specs.declared.Desk.{Desk}
use Rattle.desk.specs.declared.Serial.{Serial}
use Rattle.matching.specs.Refusal.{first_of}
use Rattle.matching.specs.Words.{Word}
use Rattle.desk.specs.Layout.{Lent}
use Rattle.desk.specs.Laws.Layout.{is-fit, not-fit}
use Rattle.desk.specs.Limits.{most_tickets}

-- OPEN: no set, the largest serial given, 16 tickets open or stale
pub open_refusals : (d : Desk) → length d.tickets ≡ most_tickets → open_number (open_of d).answer ≡ first_of (open_grounds d)
unfolding first_of
open_refusals d wide = go _ (opens d)
  where
    go : (r : Opening) → Opens d r → open_number r.answer ≡ first_of (open_grounds d)
    go r (open_no-set a) = rw (eq-eqb _ _ a)
    go r (open_serial-end a b) = rw (ne_eqb _ _ a, eq-eqb _ _ b)
    go r (open_no-room a b c) = rw (ne_eqb _ _ a, ne_eqb _ _ b, eq-eqb _ _ ((all-held_iff d.tickets wide).0 c))
    go r (open_done a b i e h) = rw
        (ne_eqb _ _ a, ne_eqb _ _ b, ne_eqb (tickets_held d.tickets) most_tickets (λ q. omega (arith, e, h, (all-held_iff d.tickets wide).1 q)))

-- so of every desk that comes from a new desk and the calls
pub open_refusals_reached : (d : Desk) → Reached d → open_number (open_of d).answer ≡ first_of (open_grounds d)
open_refusals_reached d r = open_refusals d (good r).rooms

-- CLOSE: no ticket that is open or stale has the serial
pub close_refusals : (d : Desk) (s : Serial) → close_number (close_of d s).answer ≡ first_of (close_grounds d s)
unfolding first_of
close_refusals d s = go _ (closes d s)
  where
    go : (r : Closing) → Closes d s r → close_number r.answer ≡ first_of (close_grounds d s)
    go r (close_no-ticket h) = rw (le-ltb _ _ h)
    go r (close_done i e h) = rw (lt-ltb _ _ (le_trans (le_of_eq (ap suc (sym e))) h))

-- FEED: no ticket; an older edition; a run of another slot count; too long
pub feed_refusals : (d : Desk) (s : Serial) (table : Lent) (piece : Word)
    → feed_number (feed_of d s table piece).answer ≡ first_of (feed_grounds d s table piece)
unfolding first_of
feed_refusals d s table piece = go _ (feeds d s table piece)
  where
    go : (r : Feeding) → Feeds d (room_of d.tickets s) table piece r → feed_number r.answer ≡ first_of (feed_grounds d s table piece)
    go r (feed_no-ticket h) = rw (le-ltb _ _ h)
    go r (feed_stale h e) = rw (lt-ltb _ _ h, ne_eqb _ _ e)
    go r (feed_other-slots h e l) = rw (lt-ltb _ _ h, eq-eqb _ _ e, not-fit _ _ l)
    go r (feed_long h e l m) = rw (lt-ltb _ _ h, eq-eqb _ _ e, is-fit _ _ l, lt-ltb _ _ m)
    go r (feed_no-place h e l m n) = rw (lt-ltb _ _ h, eq-eqb _ _ e, is-fit _ _ l, le-ltb _ _ m)
    go r (feed_read h e l m) = rw (lt-ltb _ _ h, eq-eqb _ _ e, is-fit _ _ l, le-ltb _ _ m)
