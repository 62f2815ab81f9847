-- The AND of all is the AND so far with those that are left.
use Rattle.passing.specs.Laws.Vectors.{Anding}
use Rattle.passing.proofs.steps.Machines.vectors.Given as goal

abbrev pub invariant-loop-m : goal.invariant-loop-m
invariant-loop-m g l = Anding g.row.BITS l.self.slots l.self.numbers.now l.from l.to l.place l.v l.r l.m
