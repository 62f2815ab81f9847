-- The machines before m stay.
use Rattle.blocks.specs.Laws.Sleep.{staying_all, staying_inside}
use Rattle.blocks.proofs.sleep.all_stay.Goals as goal

pub stays-requires : goal.stays-requires
stays-requires c = staying_inside _ _ _ c.requires c.loop-m.m c.loop-m-test.true

pub returns : goal.returns
returns c = λ e. staying_all _ _ _ c.requires c.loop-m.m c.loop-m.invariant.1 c.loop-m-test.false
