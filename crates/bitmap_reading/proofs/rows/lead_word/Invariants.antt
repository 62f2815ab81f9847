-- The row is made as far as the loop has come.
use Prim.Native.Nat.{◌+◌, ◌*◌}
use mathlib.Core.Path.{◌≡◌}
use lib.ListN.{length}
use Rattle.bitmap_reading.specs.Rows.{Making}
use Rattle.bitmap_reading.proofs.rows.lead_word.Given as goal

abbrev pub invariant-loop-k : goal.invariant-loop-k
invariant-loop-k l = (Making l.table.states l.table.numbers.now l.row (16 * l.j + l.k)) × (length l.row ≡ 256)
