-- Each run is quiet up to its byte; the second counts from the state that it was begun at.
use Rattle.passing.specs.Laws.Runs.{Paired}
use Rattle.passing.proofs.whole.WholeTable.pair.Given as goal

abbrev pub invariant-loop-i : goal.invariant-loop-i
invariant-loop-i l = Paired l.self.states l.self.numbers.now l.piece l.initial.a l.from l.h l.begun l.a l.b l.i
