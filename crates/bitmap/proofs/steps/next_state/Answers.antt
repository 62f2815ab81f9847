-- The step from the first state is that from where failing came to, so many moves before it.
use mathlib.Core.Path.{◌∙◌, sym}
use Rattle.bitmap.specs.Laws.Loops.{followed_bad, followed_far, followed-on, followed_stay, followed-there}
use Rattle.bitmap.proofs.steps.next_state.Goals as goal

pub returns-then-at-eq0 : goal.returns-then-at-eq0
returns-then-at-eq0 c =
    let l = c.fails in
    followed_stay _ _ _ _ l.at l.moves l.invariant (sym c.has.ensures ∙ c.if-has.false) c.if-at-eq0.true

pub returns-then-at-f : goal.returns-then-at-f
returns-then-at-f c =
    let l = c.fails in
    followed_bad _ _ _ _ l.at l.moves l.invariant (sym c.has.ensures ∙ c.if-has.false) c.if-at-eq0.false _ c.fail-f.ensures c.if-at-f.true

pub fails-preserved : goal.fails-preserved
fails-preserved c =
    let l = c.fails in
    followed-on _ _ _ _ l.at l.moves l.invariant (sym c.has.ensures ∙ c.if-has.false) c.if-at-eq0.false _ c.fail-f.ensures c.if-at-f.false

pub returns-then-s-n : goal.returns-then-s-n
returns-then-s-n c =
    let l = c.fails in
    followed_far _ _ _ _ l.at l.moves l.invariant (sym c.has.ensures ∙ c.if-has.true) _ c.child-n.ensures c.if-s-n.true

pub returns-then-has : goal.returns-then-has
returns-then-has c =
    let l = c.fails in
    followed-there _ _ _ _ l.at l.moves l.invariant (sym c.has.ensures ∙ c.if-has.true) _ c.child-n.ensures c.if-s-n.false
