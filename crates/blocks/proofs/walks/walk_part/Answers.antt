-- The bytes up to i are walked, and what their vectors came to is noted.
use Rattle.blocks.specs.Laws.Walking.{going_more, going_start, going-wrong}
use mathlib.Core.Path.{◌∙◌, sym}
use native.Mathlib.Omega.{arith}
use Rattle.blocks.proofs.walks.walk_part.Goals as goal

pub loop-i-init : goal.loop-i-init
loop-i-init c = going_start _ _ _ _ c.requires.0 _ _ c.requires.1.0 _

pub returns-then-not-all_below : goal.returns-then-not-all_below
returns-then-not-all_below c =
    let n = c.next_numbers-next in
    going-wrong _ _ _ _ c.requires.0 _ _ c.requires.1.0 _ _ _ _ _ c.loop-i.invariant (omega arith) n.result (omega arith) n.ensures
    (sym c.all_below.ensures ∙ c.if-not-all_below.true)

pub loop-i-preserved : goal.loop-i-preserved
loop-i-preserved c =
    going_more _ _ _ _ c.requires.0 _ _ c.requires.1.0 _ _ _ _ _ c.loop-i.invariant (omega arith) _ (omega arith) c.next_numbers-next.ensures
    (sym c.all_below.ensures ∙ c.if-not-all_below.false) _ c.hits_of-v.ensures _ c.note-loud.ensures.0 _ c.note-loud.ensures.1
