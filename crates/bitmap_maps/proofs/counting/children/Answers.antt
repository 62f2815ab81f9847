-- The ones of the words before j are in the sum.
use Rattle.bitmap_maps.specs.Laws.Counting.{summed_all, summed_more}
use Rattle.bitmap_maps.proofs.counting.children.Goals as goal

pub loop-j-preserved : goal.loop-j-preserved
loop-j-preserved c =
    let slot = c.args.slot.now in
    let l = c.loop-j in
    let found = c.ones_of-sum in
    summed_more slot.table.now slot.state l.sum l.j l.invariant c.loop-j-test.true c.number.result found.result c.number.ensures found.ensures.0
    found.ensures.1

pub returns : goal.returns
returns c =
    let slot = c.args.slot.now in
    summed_all slot.table.now slot.state c.loop-j.sum c.loop-j.j c.loop-j.invariant c.loop-j-test.false
