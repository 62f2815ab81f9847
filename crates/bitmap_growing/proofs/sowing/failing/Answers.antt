-- By whether the parent is the start state; the step is never wrong over settled slots.
use Rattle.bitmap_growing.specs.Laws.Sowing.{fail-first, fail-never, fail-there}
use Rattle.bitmap_growing.proofs.sowing.failing.Goals as goal

pub returns-then-q-eq0 : goal.returns-then-q-eq0
returns-then-q-eq0 c =
    fail-first c.args.q _ c.if-q-eq0.true

pub returns-in-None : goal.returns-in-None
returns-in-None c = fail-never c.args.q _ c.in-None.ensures

pub returns-in-Some : goal.returns-in-Some
returns-in-Some c = fail-there c.args.q _ c.if-q-eq0.false _ _ c.in-Some.ensures
