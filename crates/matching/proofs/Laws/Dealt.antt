-- Bits dealt out: a vector over the tags of one kind made into one over the whole set, each bit given to its tag's number there.
use Prim.Native.Nat.{◌<◌, ◌^◌, ◌≤◌, ℕ}
use Rattle.std.specs.Prelude.{Bool, ◌≡◌}
use mathlib.Core.List.{List, ◌∷◌, map}
use Rattle.std.proofs.Common.{◌∙◌, sym, lt_of_lt_of_le, mod-eq_of_lt, pow_mono}
use Rattle.std.proofs.Math.Path.{ap}
use Rattle.std.proofs.lemmas.Nat.{and_comm, and_mask}
use Rattle.std.specs.Int.Bits.{bit_and}
use Rattle.std.proofs.Math.ListN.{length}
use Rattle.matching.specs.Slicing.{anded}
use Rattle.matching.specs.Laws.Dealt.{dealt, dealt_lt, anded-dealt}

module _ {A : Type 0} (ok : A → Bool) where
  within : (v : ℕ) → v < 2 ^ 16 → bit_and 65535 v ≡ v
  within v h = and_comm 65535 v ∙ and_mask v 16 ∙ mod-eq_of_lt h

  -- THE VECTORS OF SEVERAL MACHINES, dealt out and ANDed: the same as ANDed and dealt out
  pub dealt-anded : (xs : List A) (v : ℕ) (vs : List ℕ) → length xs ≤ 16 → v < 2 ^ 16
      → anded 65535 (map (dealt ok xs) (v ∷ vs)) ≡ dealt ok xs (anded 65535 (v ∷ vs))
  unfolding anded
  dealt-anded xs v vs few small =
      ap (λ (a : ℕ). anded a (map (dealt ok xs) vs)) (within (dealt ok xs v) (lt_of_lt_of_le (dealt_lt ok xs v) (pow_mono few)))
      ∙ anded-dealt ok xs v vs
      ∙ ap (λ (a : ℕ). dealt ok xs (anded a vs)) (sym (within v small))
