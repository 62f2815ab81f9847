-- By its bit.
use mathlib.Core.Path.{refl}
use Rattle.bitmap.specs.Steps.{in_map}
use Rattle.bitmap.proofs.slots.Slot.has.Goals as goal

pub returns : goal.returns
unfolding in_map
returns c = rw c.own_bit.ensures refl
