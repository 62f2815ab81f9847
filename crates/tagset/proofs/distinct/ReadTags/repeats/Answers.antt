-- `tagset::distinct::ReadTags::repeats` meets its contract. The tag is among the earlier ones exactly if it is among those not compared yet.
use native.Mathlib.Omega.{arith}
use Rattle.tagset.proofs.Parts.{comparing_end, comparing_hit, comparing_on, comparing_start, tags-long}
use Rattle.tagset.proofs.distinct.ReadTags.repeats.Goals as goal

pub offset_bounds-self-t : goal.offset_bounds-self-t
offset_bounds-self-t c =
    let a = c.args in
    omega (arith, a.self.now.lying.cut.kinded, tags-long a.self.now.set.now a.self.now.from.now a.self.now.to.now a.self.now.kinds.now a.self.now.lying.cut, c.requires)

pub bounds-self-t : goal.bounds-self-t
bounds-self-t c =
    let a = c.args in
    omega (arith, a.self.now.lying.cut.kinded, tags-long a.self.now.set.now a.self.now.from.now a.self.now.to.now a.self.now.kinds.now a.self.now.lying.cut, c.requires)

pub loop-i-init : goal.loop-i-init
loop-i-init c =
    let a = c.args in
    comparing_start a.self.now.set.now a.self.now.from.now a.self.now.to.now a.self.now.kinds.now a.self.now.lying.cut a.t c.requires c.tag-tag.result.now c.tag-tag.ensures

pub returns-then-equals : goal.returns-then-equals
returns-then-equals c =
    comparing_hit _ _ _ _ _ _ _ _ c.loop-i.invariant c.loop-i-test.true c.equals.result
    c.equals.ensures c.if-equals.true

pub loop-i-preserved : goal.loop-i-preserved
loop-i-preserved c =
    comparing_on _ _ _ _ _ _ _ _ c.loop-i.invariant c.loop-i-test.true c.equals.result
    c.equals.ensures c.if-equals.false

pub returns : goal.returns
returns c = comparing_end _ _ _ _ _ _ _ _ c.loop-i.invariant (omega (arith, c.loop-i-test.false))
