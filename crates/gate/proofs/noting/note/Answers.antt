use Rattle.std.specs.Prelude.{None, Some}
use Rattle.std.proofs.Common.{◌∙◌, ap, arith}
use Rattle.desk.specs.Laws.Rooms.{found_by}
use Rattle.desk.specs.Rooms.{is_for, serial_of}
use Rattle.gate.specs.Laws.Noting.{kept_in, noted_here, noted_nowhere}
use Rattle.gate.specs.Noting.{marked}
use Rattle.gate.specs.declared.Seen.{Seen}
use Rattle.gate.proofs.noting.note.Goals as goal

pub returns-in-Some : goal.returns-in-Some
returns-in-Some c =
    let a = c.args in
    let room = found_by (is_for (serial_of a.serial)) a.tickets.now (Some c.in-Some.i) c.told-tickets c.in-Some.ensures in
    noted_here a.tickets.now a.seen.now a.serial a.tag c.in-Some.i _ room.0
    (c.mark.ensures ∙ ap (λ (x : Seen). marked x a.tag) (kept_in a.seen.now c.in-Some.i _ (omega (arith, room.1, c.told-seen))))

pub returns-in_default : goal.returns-in_default
returns-in_default c =
    let a = c.args in
    let none = found_by (is_for (serial_of a.serial)) a.tickets.now None c.told-tickets c.in_default.ensures in
    noted_nowhere a.tickets.now a.seen.now a.serial a.tag (omega (arith, none, c.told-seen))
