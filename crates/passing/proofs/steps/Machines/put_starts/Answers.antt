-- The first x rows are made.
use Rattle.passing.specs.Laws.Starts.{listing_done}
use native.Mathlib.Nat.{mul-le-mul_right}
use Rattle.passing.proofs.steps.Machines.put_starts.Goals as goal

pub returns : goal.returns
returns g c = listing_done _ _ _ _ c.loop-x.invariant (mul-le-mul_right _ c.loop-x-test.false)
