-- The row is made as far as the loop has come.
use mathlib.Core.Path.{◌∙◌, sym}
use native.Mathlib.Omega.{arith}
use Rattle.bitmap_reading.specs.Laws.Rows.{row_begun, row_over}
use Rattle.bitmap_reading.proofs.rows.row_for.Goals as goal
use Rattle.bitmap_reading.proofs.rows.row_for.Goals.{else-number-ne0, then-number-ne0}

pub loop-j-init : goal.loop-j-init
loop-j-init c = row_begun c.args.table.now.states c.args.table.now.numbers.now

pub loop-j-preserved : goal.loop-j-preserved
loop-j-preserved c =
    let t = c.args.table.now in
    let l = c.loop-j in
    elim c.if-number-ne0.branch [
      | then-number-ne0 w ↦ rw w.row-is w.lead_word.ensures
      | else-number-ne0 w ↦
          rw w.row-is (row_over t.states t.numbers.now l.row l.j l.invariant c.requires (omega arith) (sym c.number.ensures ∙ w.if-number-ne0.false))
    ]
