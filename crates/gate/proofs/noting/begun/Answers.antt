use Rattle.std.specs.Prelude.{ℕ, None, Some, set}
use Rattle.std.proofs.Common.{ap, arith, sym}
use Rattle.std.proofs.lemmas.List.{set_past}
use Rattle.desk.specs.Laws.Rooms.{found_by}
use Rattle.desk.specs.Rooms.{is_for, room_of}
use Rattle.gate.specs.Noting.{unseen}
use Rattle.gate.proofs.noting.begun.Goals as goal

pub returns-in-Some : goal.returns-in-Some
returns-in-Some c =
    let a = c.args in
    ap (λ (i : ℕ). set a.seen.now i unseen) (found_by (is_for a.serial) a.tickets.now (Some c.in-Some.i) c.told-tickets c.in-Some.ensures).0

pub returns-in_default : goal.returns-in_default
returns-in_default c =
    let a = c.args in
    let none = found_by (is_for a.serial) a.tickets.now None c.told-tickets c.in_default.ensures in
    sym (set_past a.seen.now (room_of a.tickets.now a.serial) unseen (omega (arith, none, c.told-seen)))
