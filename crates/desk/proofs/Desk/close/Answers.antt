use borrow.Author.Rules.{rules}
use borrow.Author.Tests.{lt-ltb, le-ltb}
use Rattle.std.specs.Prelude.{None, Some}
use Rattle.desk.specs.Calls.{close_of}
use Rattle.desk.specs.Laws.Rooms.{found_by}
use Rattle.desk.specs.Rooms.{is_for}
use Rattle.desk.proofs.Desk.close.Goals as goal

pub returns-in_default : goal.returns-in_default
unfolding close_of
returns-in_default c = simp (le-ltb _ _ (found_by (is_for c.args.serial) c.args.self.tickets None (search rules) c.in_default.ensures))

pub returns : goal.returns
unfolding close_of
returns c =
    let room = found_by (is_for c.args.serial) c.args.self.tickets (Some c.in-Some.i) (search rules) c.in-Some.ensures in
    simp (← room.0, lt-ltb _ _ room.1, c.new_ticket-freed.ensures)
