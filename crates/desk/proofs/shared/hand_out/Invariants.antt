use Rattle.desk.proofs.HandingOut.{HandingOut}
use Rattle.desk.proofs.shared.hand_out.Given as goal

abbrev pub invariant-loop-j : goal.invariant-loop-j
invariant-loop-j l = HandingOut l.initial.records l.n l.initial.list l.records l.list l.j
