-- The step from the first state is that from where failing came to, so many moves before it.
use Rattle.bitmap.specs.Laws.Loops.{Followed}
use Rattle.bitmap.proofs.steps.next_state.Given as goal

abbrev pub invariant-fails : goal.invariant-fails
invariant-fails l = Followed l.s l.table l.q l.c l.at l.moves

abbrev pub decreases-fails : goal.decreases-fails
decreases-fails l = l.at
