-- Each run is quiet up to its byte; the second counts from the state that it was begun at.
use Rattle.passing.specs.Laws.Runs.{paired_met, paired-more, paired-start, passed_to}
use Rattle.passing.proofs.whole.WholeTable.pair.Goals as goal

pub loop-i-init : goal.loop-i-init
loop-i-init c = paired-start _ _ _ _ _ _ _ c.requires.1 c.requires.0 c.guess-begun.ensures

pub next-requires : goal.next-requires
next-requires c = passed_to _ _ _ _ _ _ _ c.loop-i.invariant.first

pub next-requires-in-loop-i : goal.next-requires-in-loop-i
next-requires-in-loop-i c = passed_to _ _ _ _ _ _ _ c.loop-i.invariant.second

pub loop-i-preserved : goal.loop-i-preserved
loop-i-preserved c =
    let m = c.in-Some.ensures in
    let n = c.in-Some-next.ensures in
    paired-more _ _ _ _ _ _ _ _ _ _ c.loop-i.invariant c.loop-i-test.true c.requires.1 _ _ m.0 n.0 m.1 n.1 _ _ c.vector.ensures
    c.vector-in-loop-i.ensures c.if-vector-ne0.false

pub returns-then-a-begun : goal.returns-then-a-begun
returns-then-a-begun c = paired_met _ _ _ _ _ _ _ _ _ _ c.loop-i.invariant c.loop-i-test.false c.if-a-begun.true
