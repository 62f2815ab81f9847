-- The first x rows are made.
use Prim.Native.Nat.{◌*◌, ◌/◌}
use Rattle.passing.specs.Steps.{Listing}
use Rattle.passing.proofs.steps.Machines.put_starts.Given as goal

abbrev pub invariant-loop-x : goal.invariant-loop-x
invariant-loop-x g l = Listing g.row.BITS l.self.slots l.out (l.x * (4 / g.row.BITS))
