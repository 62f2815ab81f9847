-- The row is made as far as the loop has come.
use Prim.Native.Nat.{◌*◌}
use Rattle.bitmap_reading.specs.Rows.{Making}
use Rattle.bitmap_reading.proofs.rows.row_for.Given as goal

abbrev pub invariant-loop-j : goal.invariant-loop-j
invariant-loop-j l = Making l.table.states l.table.numbers.now l.row (16 * l.j)
