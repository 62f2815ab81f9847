use borrow.Author.Rules.{rules}
use borrow.Author.Tests.{eq-eqb, ne_eqb, lt-ltb, le-ltb}
use Rattle.std.specs.Prelude.{None, Some}
use Rattle.desk.specs.Calls.{open_of}
use Rattle.desk.specs.Laws.Rooms.{found_by}
use Rattle.desk.specs.Rooms.{is_free}
use Rattle.desk.proofs.Desk.open.Goals as goal

pub returns-then-edition-eq0 : goal.returns-then-edition-eq0
unfolding open_of
returns-then-edition-eq0 c = simp (eq-eqb _ _ c.if-edition-eq0.true)

pub returns-then-last : goal.returns-then-last
unfolding open_of
returns-then-last c = simp (ne_eqb _ _ c.if-edition-eq0.false, eq-eqb _ _ c.if-last.true)

pub returns-in_default : goal.returns-in_default
unfolding open_of
returns-in_default c =
    let none = found_by is_free c.args.self.tickets None (search rules) c.in_default.ensures in
    simp (ne_eqb _ _ c.if-edition-eq0.false, ne_eqb _ _ c.if-last.false, le-ltb _ _ none)

pub returns : goal.returns
unfolding open_of
returns c =
    let room = found_by is_free c.args.self.tickets (Some c.in-Some.i) (search rules) c.in-Some.ensures in
    simp (ne_eqb _ _ c.if-edition-eq0.false, ne_eqb _ _ c.if-last.false, ← room.0, lt-ltb _ _ room.1, c.new_ticket.ensures)
