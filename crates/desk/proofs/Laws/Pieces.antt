-- Feeding a piece to its end: a feed takes no more than it is given, and a list of 1,024 numbers has room for all records.
use Rattle.desk.specs.Given.{Feeding}
use Rattle.std.specs.Prelude.{ℕ, ◌≤◌, length}
use Rattle.std.proofs.Common.{arith}
use Rattle.desk.specs.Feed.{feed_of, taken_by}
use Rattle.desk.specs.Laws.Layout.{desk-kept}
use Rattle.desk.specs.Laws.Views.{Feeds, feed_no-ticket, feed_stale, feed_other-slots, feed_long, feed_no-place, feed_read}
use Rattle.desk.proofs.Laws.Views.{feeds}
use Rattle.desk.specs.Layout.{Lent}
use Rattle.desk.specs.Rooms.{ticket_in, room_of}
use Rattle.desk.specs.declared.Desk.{Desk}
use Rattle.desk.specs.declared.Serial.{Serial}
use Rattle.matching.specs.Words.{Word}

pub fed-at-most : (d : Desk) (s : Serial) (table : Lent) (piece : Word) → taken_by (feed_of d s table piece).answer ≤ length piece
fed-at-most d s table piece = go (room_of d.tickets s) _ (feeds d s table piece)
  where
    go : (i : ℕ) (r : Feeding) → Feeds d i table piece r → taken_by r.answer ≤ length piece
    go i r (feed_no-ticket a) = omega arith
    go i r (feed_stale a b) = omega arith
    go i r (feed_other-slots a b e) = omega arith
    go i r (feed_long a b e f) = omega arith
    go i r (feed_no-place a b e f g) = omega arith
    go i r (feed_read a b e f) = (desk-kept d.slots table (ticket_in d.tickets i).place (ticket_in d.tickets i).taken _ piece).part
