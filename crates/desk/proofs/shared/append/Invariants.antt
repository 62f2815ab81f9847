use Rattle.desk.proofs.Appending.{Appending}
use Rattle.desk.proofs.shared.append.Given as goal

abbrev pub invariant-loop-j : goal.invariant-loop-j
invariant-loop-j l = Appending l.serial l.edition l.list l.n l.initial.records l.records l.j
