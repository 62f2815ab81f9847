-- The first part's states, then the second's.
use mathlib.Core.Path.{◌∙◌}
use Rattle.blocks.specs.Laws.Starting.{states_right, states-wrong}
use Rattle.blocks.proofs.start.all_states.Goals as goal

pub returns-else-all_below : goal.returns-else-all_below
returns-else-all_below c = c.if-all_below.false ∙ states-wrong _ _ c.part_of.result c.part_of.ensures _ c.all_below.ensures c.if-all_below.false

pub returns-then-all_below : goal.returns-then-all_below
returns-then-all_below c =
    states_right _ _ c.part_of.result c.part_of.ensures _ c.all_below.ensures c.if-all_below.true
    c.part_of-then-all_below.result c.part_of-then-all_below.ensures _ c.all_below-then-all_below.ensures
