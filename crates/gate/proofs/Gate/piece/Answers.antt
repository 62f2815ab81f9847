use borrow.Author.Rules.{rules}
use Rattle.std.specs.Prelude.{None, Some, refl}
use Rattle.desk.specs.Laws.Rooms.{found_by}
use Rattle.desk.specs.Layout.{lent}
use Rattle.desk.specs.Rooms.{is_for, room_of}
use Rattle.gate.specs.Laws.Calls.{piece-none, piece-stale, piece-fed}
use Rattle.gate.proofs.Gate.piece.Goals as goal

pub returns-in_default : goal.returns-in_default
returns-in_default c =
    let a = c.args in
    let rooms = a.self.desk.tickets in
    piece-none a.self a.serial (room_of rooms a.serial) refl (lent a.first.now a.second.now) a.piece.now
    (found_by (is_for a.serial) rooms None (search rules) c.in_default.ensures)

pub returns-then-its-edition : goal.returns-then-its-edition
returns-then-its-edition c =
    let a = c.args in
    let room = found_by (is_for a.serial) a.self.desk.tickets (Some c.in-Some.i) (search rules) c.in-Some.ensures in
    piece-stale a.self a.serial c.in-Some.i room.0 (lent a.first.now a.second.now) a.piece.now room.1 c.if-its-edition.true

pub returns : goal.returns
returns c =
    let a = c.args in
    let room = found_by (is_for a.serial) a.self.desk.tickets (Some c.in-Some.i) (search rules) c.in-Some.ensures in
    piece-fed a.self a.serial c.in-Some.i room.0 (lent a.first.now a.second.now) a.piece.now
    c.feed_on-fed.result c.ended.result room.1 c.if-its-edition.false c.feed_on-fed.ensures c.ended.ensures
