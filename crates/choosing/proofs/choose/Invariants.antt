-- `choosing::choose` meets its contract.
use Rattle.choosing.specs.Choosing.{Choosing}
use Rattle.choosing.proofs.choose.Given as goal

abbrev pub invariant-loop-i : goal.invariant-loop-i
invariant-loop-i l = Choosing l.kind l.tags l.i l.own
