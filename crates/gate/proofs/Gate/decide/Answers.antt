use borrow.Author.Rules.{rules}
use Rattle.std.specs.Prelude.{None, Some, refl}
use Rattle.desk.specs.Laws.Rooms.{found_by}
use Rattle.desk.specs.Rooms.{is_for, room_of}
use Rattle.gate.specs.Laws.Calls.{decide_none, decide_some}
use Rattle.gate.specs.Laws.Noting.{kept_in}
use Rattle.gate.proofs.Gate.decide.Goals as goal

pub returns-in_default : goal.returns-in_default
returns-in_default c =
    let a = c.args in
    let rooms = a.self.desk.tickets in
    decide_none a.self a.serial (room_of rooms a.serial) refl (found_by (is_for a.serial) rooms None (search rules) c.in_default.ensures)

pub returns : goal.returns
returns c =
    let a = c.args in
    let room = found_by (is_for a.serial) a.self.desk.tickets (Some c.in-Some.i) (search rules) c.in-Some.ensures in
    decide_some a.self a.serial c.in-Some.i room.0 _ c.verdict_of-verdict.result c.close-closing.result room.1
    (kept_in a.self.seen c.in-Some.i _ (search rules)) c.verdict_of-verdict.ensures c.close-closing.ensures
