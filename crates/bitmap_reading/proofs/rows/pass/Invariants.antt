-- All bytes so far are quiet.
use mathlib.Core.Path.{◌≡◌}
use Rattle.bitmap_reading.specs.Rows.{PassedTo}
use Rattle.bitmap_reading.proofs.rows.pass.Given as goal

abbrev pub invariant-loop-i : goal.invariant-loop-i
invariant-loop-i l = (l.came.at ≡ l.i) × PassedTo l.table.states l.table.numbers.now l.piece l.fn.from.state l.fn.from.at l.fn.from.moves l.came
