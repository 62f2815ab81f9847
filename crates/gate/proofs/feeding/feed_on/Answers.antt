use borrow.Author.Rules.{rules}
use native.Mathlib.Omega.{arith}
use Rattle.gate.specs.Laws.Feeding.{far_none, far_all, far_within, far_idle, far_more}
use Rattle.gate.proofs.feeding.feed_on.Goals as goal

pub loop-from-init : goal.loop-from-init
loop-from-init c = (far_none _ _ _ _, search rules)

pub returns-then-fed-eq0 : goal.returns-then-fed-eq0
returns-then-fed-eq0 c =
    let f = c.feed_rest-fed in
    let l = c.loop-from in
    far_idle _ _ _ _ l.now l.from l.invariant.0 (search rules) f.result f.ensures c.if-fed-eq0.true

pub overflow_add-from : goal.overflow_add-from
overflow_add-from c =
    let f = c.feed_rest-fed in
    let l = c.loop-from in
    omega (arith, far_within _ _ _ _ l.now l.from l.invariant.0 (search rules) f.result f.ensures)

pub loop-from-preserved : goal.loop-from-preserved
loop-from-preserved c =
    let f = c.feed_rest-fed in
    let l = c.loop-from in
    (far_more _ _ _ _ l.now l.from l.invariant.0 (search rules) f.result f.ensures (search rules), search rules)

pub returns : goal.returns
returns c = far_all _ _ _ _ c.loop-from.invariant.0 (search rules)
