-- `choosing::choose` meets its contract.
use mathlib.Core.Path.{◌∙◌, subst, sym}
use native.Mathlib.Omega.{arith}
use Prim.Native.Nat.{◌+◌}
use Rattle.choosing.specs.Choosing.{Choosing}
use Rattle.choosing.specs.Laws.Choosing.{choosing_all, choosing_hit, choosing_miss, choosing_start}
use Rattle.choosing.proofs.choose.Goals as goal
use Rattle.choosing.proofs.choose.Goals.{then-tags-i, else-tags-i}

pub loop-i-init : goal.loop-i-init
loop-i-init c = choosing_start c.args.kind c.args.tags

pub returns : goal.returns
returns c =
    let a = c.args in
    let l = c.loop-i in
    choosing_all a.kind a.tags l.i l.own c.requires (omega (arith, c.loop-i-test.false)) (omega arith) l.invariant

pub loop-i-preserved : goal.loop-i-preserved
loop-i-preserved c =
    let a = c.args in
    let l = c.loop-i in
    elim c.if-tags-i.branch [
      | then-tags-i w ↦ subst (Choosing a.kind a.tags (l.i + 1)) (sym (w.own-is ∙ w.push.ensures))
          (choosing_hit a.kind a.tags c.requires l.i c.loop-i-test.true l.own l.invariant w.if-tags-i.true)
      | else-tags-i w ↦ subst (Choosing a.kind a.tags (l.i + 1)) (sym w.own-is)
          (choosing_miss a.kind a.tags c.requires l.i c.loop-i-test.true l.own l.invariant w.if-tags-i.false)
    ]
