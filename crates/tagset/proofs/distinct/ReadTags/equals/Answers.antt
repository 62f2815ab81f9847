-- `tagset::distinct::ReadTags::equals` meets its contract. Tags of other kinds are other tags; those of the kind are compared as it reads them.
use Prim.Native.Nat.{◌<◌}
use mathlib.Core.Path.{◌∙◌}
use native.Mathlib.Omega.{arith}
use lib.ListN.{length}
use Rattle.tagset.proofs.Parts.{other-kind, own-kind, same_bytes, tags-long}
use Rattle.tagset.proofs.distinct.ReadTags.equals.Goals as goal

pub offset_bounds-self-i : goal.offset_bounds-self-i
offset_bounds-self-i c =
    let a = c.args in
    omega (arith, a.self.now.lying.cut.kinded, tags-long a.self.now.set.now a.self.now.from.now a.self.now.to.now a.self.now.kinds.now a.self.now.lying.cut, c.requires)

pub bounds-self-i : goal.bounds-self-i
bounds-self-i c =
    let a = c.args in
    omega (arith, a.self.now.lying.cut.kinded, tags-long a.self.now.set.now a.self.now.from.now a.self.now.to.now a.self.now.kinds.now a.self.now.lying.cut, c.requires)

pub returns-then-self-i : goal.returns-then-self-i
returns-then-self-i c =
    let a = c.args in
    let l = a.self.now.lying.cut in
    let h : a.i < length a.self.now.from.now = omega (arith, tags-long a.self.now.set.now a.self.now.from.now a.self.now.to.now a.self.now.kinds.now l, c.requires) in
    other-kind a.self.now.set.now a.self.now.from.now a.self.now.to.now a.self.now.kinds.now l a.i h a.kind a.tag.now c.if-self-i.true

pub returns : goal.returns
returns c =
    let a = c.args in
    let l = a.self.now.lying.cut in
    let h : a.i < length a.self.now.from.now = omega (arith, tags-long a.self.now.set.now a.self.now.from.now a.self.now.to.now a.self.now.kinds.now l, c.requires) in
    own-kind a.self.now.set.now a.self.now.from.now a.self.now.to.now a.self.now.kinds.now l a.i h a.kind a.tag.now c.if-self-i.false
    c.tag-earlier.result.now c.tag-earlier.ensures _ (c.eq.ensures ∙ same_bytes a.tag.now c.tag-earlier.result.now)
