-- The row is made as far as the loop has come.
use Prim.Native.Nat.{◌+◌, ◌*◌}
use mathlib.Core.Path.{◌∙◌, sym}
use lib.ListN.{length-set}
use native.Mathlib.Omega.{arith}
use Rattle.bitmap_reading.specs.Laws.Rows.{row_led, row_stays}
use Rattle.bitmap_reading.proofs.rows.lead_word.Goals as goal
use Rattle.bitmap_reading.proofs.rows.lead_word.Goals.{else-has, then-has}

pub loop-k-preserved : goal.loop-k-preserved
loop-k-preserved c =
    let t = c.args.table.now in
    let l = c.loop-k in
    elim c.if-has.branch [
      | then-has w ↦ rw w.row-is (
        row_led t.states t.numbers.now l.row (16 * c.args.j + l.k) (16 * c.args.j + (l.k + 1)) w.leads.result (omega arith) l.invariant.0 (omega (arith, l.invariant.1)) w.leads.ensures,
        length-set l.row (16 * c.args.j + l.k) w.leads.result ∙ l.invariant.1,
      )
      | else-has w ↦ rw w.row-is (
        row_stays t.states t.numbers.now l.row (16 * c.args.j + l.k) (16 * c.args.j + (l.k + 1)) (omega arith) l.invariant.0 c.requires.j_in_bounds.0 (omega arith) (sym c.has.ensures ∙ w.if-has.false),
        l.invariant.1,
      )
    ]
