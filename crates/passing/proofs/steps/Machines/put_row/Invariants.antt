-- The first j entries of the row are made, behind those before.
use Prim.Native.Nat.{◌*◌, ◌+◌, ◌/◌, ◌≤◌}
use Rattle.passing.specs.Steps.{Listing}
use Rattle.passing.proofs.steps.Machines.put_row.Given as goal

abbrev pub invariant-loop-j : goal.invariant-loop-j
invariant-loop-j g l = (l.j ≤ 4 / g.row.BITS) × Listing g.row.BITS l.self.slots l.out (l.x * (4 / g.row.BITS) + l.j)
