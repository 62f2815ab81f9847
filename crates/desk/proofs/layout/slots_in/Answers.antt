use Prim.Native.Nat.{ℕ}
use mathlib.Core.List.{[], ◌∷◌}
use mathlib.Core.Path.{ap₂}
use Rattle.matching.specs.Parts.{slots_over}
use Rattle.desk.proofs.layout.slots_in.Goals as goal

pub returns : goal.returns
unfolding slots_over
returns c = ap₂ (λ (x y : ℕ). x ∷ y ∷ []) c.slots.ensures c.slots-2.ensures
