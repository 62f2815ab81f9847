-- The ones of the words so far, and then of the own word masked.
use Rattle.bitmap.specs.Laws.Loops.{counted-all, counted-more}
use Rattle.bitmap.proofs.slots.Slot.ones_below.Goals as goal

pub loop-j-preserved : goal.loop-j-preserved
loop-j-preserved c =
    let l = c.loop-j in
    counted-more _ _ _ l.sum l.j l.invariant c.loop-j-test.true _ _ c.number.ensures c.ones_of-sum.ensures.0
    c.ones_of-sum.ensures.1

pub returns : goal.returns
returns c =
    let l = c.loop-j in
    let a = c.args.self.now in
    counted-all a.table.now a.state c.args.c c.from-x.result l.sum l.j _ _ _ c.from-x.ensures l.invariant c.loop-j-test.false
    c.number-2.ensures c.low.ensures c.ones_of.ensures.0 c.ones_of.ensures.1
