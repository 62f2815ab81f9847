-- `serving::feed_piece` meets its contract.
use borrow.Author.Rules.{rules}
use native.Mathlib.Omega.{arith}
use Rattle.serving.specs.Laws.Serving.{fed-within, left-fed, so_far_all, so_far_idle, so_far_more, so_far_none}
use Rattle.serving.proofs.feed_piece.Goals as goal

pub loop-from-init : goal.loop-from-init
loop-from-init c = (so_far_none _ _ _ _ _, search rules)

pub returns-then-fed-eq0 : goal.returns-then-fed-eq0
returns-then-fed-eq0 c =
    let feed-rest = c.feed_rest-fed in
    let loop = c.loop-from in
    so_far_idle _ _ _ _ _ loop.invariant.0 (left-fed _ loop.from feed-rest.ensures) (search rules) c.if-fed-eq0.true

pub overflow_add-from : goal.overflow_add-from
overflow_add-from c =
    let feed-rest = c.feed_rest-fed in
    let loop = c.loop-from in
    omega (arith, fed-within _ _ _ _ _ loop.invariant.0 (left-fed _ loop.from feed-rest.ensures))

pub loop-from-preserved : goal.loop-from-preserved
loop-from-preserved c =
    let feed-rest = c.feed_rest-fed in
    let loop = c.loop-from in
    (so_far_more _ _ _ _ _ loop.invariant.0 (left-fed _ loop.from feed-rest.ensures) (search rules), search rules)

pub returns : goal.returns
returns c = so_far_all _ _ _ _ _ c.loop-from.invariant.0 (search rules)
