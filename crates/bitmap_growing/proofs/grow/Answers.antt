-- The states below q are settled, and their children placed.
use native.Mathlib.Omega.{arith}
use Rattle.bitmap_growing.specs.Laws.Settling.{all_grown}
use Rattle.bitmap_growing.proofs.grow.Goals as goal

pub returns : goal.returns
returns c = all_grown c.loop-q.invariant (omega arith)
