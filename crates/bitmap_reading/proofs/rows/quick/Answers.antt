-- By the row, or by the step itself.
use Rattle.std.specs.Prelude.{None, Some}
use Rattle.bitmap.specs.Steps.{To}
use mathlib.Core.Path.{◌∙◌, ◌≡◌, ap₂, sym}
use native.Mathlib.Omega.{arith}
use lib.ListN.{get_or}
use Rattle.bitmap_reading.specs.Laws.Rows.{quick_row}
use Rattle.bitmap_reading.proofs.rows.quick.Goals as goal

pub returns : goal.returns
returns c = λ n m e.
    let a = c.args in
    let said : get_or a.row.now a.c None ≡ Some c.in_ok-n.n = rw c.from.ensures at c.in_ok-n.was in
    quick_row a.table.now.states a.table.now.numbers.now a.q a.c c.in_ok-n.n (c.requires.1 a.c (omega arith) c.in_ok-n.n said) (c.is_deep.ensures c.if-is_deep.false)
    ∙ ap₂ To (sym c.from-2.ensures) (sym c.moves_from.ensures) ∙ e
