-- By whether it is the start state.
use mathlib.Core.Path.{◌∙◌}
use Rattle.bitmap_growing.specs.Laws.Settling.{inherits-none, inherits-some}
use Rattle.bitmap_growing.proofs.settling.inherited.Goals as goal

pub returns-then-q-eq0 : goal.returns-then-q-eq0
returns-then-q-eq0 c =
    let slot = c.args.fails.now in inherits-none c.args.q slot.table.now slot.state c.if-q-eq0.true

pub returns-else-q-eq0 : goal.returns-else-q-eq0
returns-else-q-eq0 c =
    let slot = c.args.fails.now in c.vector.ensures ∙ inherits-some c.args.q slot.table.now slot.state c.if-q-eq0.false
