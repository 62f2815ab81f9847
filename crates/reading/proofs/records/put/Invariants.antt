-- What is still to be written, written where it belongs, gives the whole.
use Rattle.reading.specs.Laws.Records.{Putting}
use Rattle.reading.proofs.records.put.Given as goal

abbrev pub invariant-loop-tag : goal.invariant-loop-tag
invariant-loop-tag l = Putting l.initial.list l.from l.end l.hits l.list l.w l.rest l.tag
