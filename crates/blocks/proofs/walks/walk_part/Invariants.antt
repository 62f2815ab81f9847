-- The bytes up to i are walked, and what their vectors came to is noted.
use Rattle.blocks.specs.Laws.Walking.{Going}
use Rattle.blocks.proofs.walks.walk_part.Given as goal

abbrev pub invariant-loop-i : goal.invariant-loop-i
invariant-loop-i l = Going l.machines.slots l.machines.numbers.now l.bytes l.start l.to l.initial.hits l.hits l.place l.loud l.i
