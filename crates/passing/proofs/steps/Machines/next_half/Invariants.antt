-- The next numbers of the machines before are there, and those of the others are still to come.
use Rattle.passing.specs.Laws.Nexts.{Halving}
use Rattle.passing.proofs.steps.Machines.next_half.Given as goal

abbrev pub invariant-loop-j : goal.invariant-loop-j
invariant-loop-j g l = Halving g.row.BITS l.self.slots l.self.numbers.now l.starts l.place l.c l.h l.at l.j
