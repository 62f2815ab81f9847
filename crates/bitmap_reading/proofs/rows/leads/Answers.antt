-- From state 0 there is no move.
use native.Mathlib.Omega.{arith}
use Rattle.bitmap.specs.Laws.Steps.{sound}
use Rattle.bitmap_reading.specs.Laws.Rows.{leads_to}
use Rattle.bitmap_reading.proofs.rows.leads.Goals as goal

pub overflow_cast-result : goal.overflow_cast-result
overflow_cast-result c =
    let fine =
    sound c.args.table.now.states c.args.table.now.numbers.now 0 c.args.c _ _ c.requires c.in_ok-to.ensures
    in
    omega (arith, fine.0, c.args.table.now.few)

pub returns : goal.returns
returns c =
    leads_to c.args.table.now.states c.args.table.now.numbers.now c.args.c _ _ c.requires
    c.in_ok-to.ensures
