-- `Desk::state` meets its contract: a serial without a room, and one with.
use borrow.Author.Rules.{rules}
use borrow.Author.Tests.{le-ltb, lt-ltb}
use mathlib.Core.Path.{◌∙◌}
use Rattle.std.specs.Prelude.{None, Some}
use Rattle.desk.specs.Laws.Rooms.{found_by}
use Rattle.desk.specs.Rooms.{is_for}
use Rattle.desk.specs.State.{state_of}
use Rattle.desk.proofs.Desk.state.Goals as goal

pub returns-in_default : goal.returns-in_default
unfolding state_of
returns-in_default c =
    let none = found_by (is_for c.args.serial) c.args.self.tickets None (search rules) c.in_default.ensures in
    c.gone.ensures ∙ simp (le-ltb _ _ none)

pub returns : goal.returns
unfolding state_of
returns c =
    let room = found_by (is_for c.args.serial) c.args.self.tickets (Some c.in-Some.i) (search rules) c.in-Some.ensures in
    c.held.ensures ∙ simp (← room.0, lt-ltb _ _ room.1)
