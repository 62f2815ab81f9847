-- The state is one of the table's; nothing else is claimed of it.
use Prim.Native.Nat.{◌<◌}
use Rattle.passing.proofs.whole.WholeTable.guess.Given as goal

abbrev pub invariant-loop-c : goal.invariant-loop-c
invariant-loop-c l = l.q < l.self.states
