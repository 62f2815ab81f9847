-- One after the other.
use Rattle.matching.specs.Parts.{slots_over}
use mathlib.Core.Path.{refl}
use Rattle.blocks.proofs.start.slots_of.Goals as goal

pub returns : goal.returns
unfolding slots_over
returns c = rw (c.slots.ensures, c.slots-2.ensures) refl
