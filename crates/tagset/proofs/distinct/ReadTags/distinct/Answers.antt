-- `tagset::distinct::ReadTags::distinct` meets its contract. No tag before `t` repeats: the test goes on with the tags that are left.
use mathlib.Core.Path.{◌∙◌, ap, refl, sym}
use native.Mathlib.Numerals.{add-one}
use native.Mathlib.Omega.{arith}
use Rattle.tagset.proofs.Parts.{tags-long}
use Rattle.tagset.specs.Answer.{verdict_of}
use Rattle.tagset.specs.Laws.Distinct.{distinct-end, distinct_hit, distinct_miss}
use Rattle.tagset.proofs.distinct.ReadTags.distinct.Goals as goal

pub loop-t-init : goal.loop-t-init
loop-t-init c =
    let a = c.args in
    (omega arith, tags-long a.self.now.set.now a.self.now.from.now a.self.now.to.now a.self.now.kinds.now a.self.now.lying.cut, refl)

pub returns-then-repeats : goal.returns-then-repeats
returns-then-repeats c =
    let l = c.loop-t in
    sym (ap verdict_of (l.invariant.2
    ∙ distinct_hit _ l.t (omega (arith, l.invariant.1, c.loop-t-test.true)) (sym c.repeats.ensures ∙ c.if-repeats.true)))

pub loop-t-preserved : goal.loop-t-preserved
loop-t-preserved c =
    let l = c.loop-t in (
      omega arith,
      l.invariant.1,
      l.invariant.2 ∙ rw (add-one l.t) (distinct_miss _ l.t (omega (arith, l.invariant.1, c.loop-t-test.true))
          (sym c.repeats.ensures ∙ c.if-repeats.false)),
    )

pub returns : goal.returns
returns c =
    let l = c.loop-t in
    sym (ap verdict_of (l.invariant.2 ∙ distinct-end _ l.t (omega (arith, l.invariant.1, c.loop-t-test.false))))
