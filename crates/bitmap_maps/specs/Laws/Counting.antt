-- Counting the ones of a map, word by word.
use Prim.Native.Nat.{◌*◌, ◌+◌, ◌-◌, ◌<◌, ◌≤◌, suc, ℕ}
use Rattle.std.specs.Prelude.{List, ◌≡◌}
use Rattle.std.proofs.Common.{◌∙◌, sym, add-one}
use Rattle.std.proofs.Math.Path.{ap}
use native.Mathlib.Omega.{arith}
use Rattle.std.specs.Int.Count.{ones}
use Rattle.bitmap.specs.Steps.{number_at, ones_over}

-- after j words
pub record Summed (table : List ℕ) (q sum j : ℕ) : Type 0 where
  pub most : j ≤ 16
  pub few : sum ≤ j * 16
  pub is : ones_over table q 0 16 ≡ sum + ones_over table q j (16 - j)

module _ (table : List ℕ) (q : ℕ) where
  pub summed_none : Summed table q 0 0
  summed_none = record { most = omega arith; few = omega arith; is = omega arith }

  pub summed_more : (sum j : ℕ) → Summed table q sum j → j < 16 → (word n : ℕ) → word ≡ number_at table q j → n ≡ ones word → n ≤ 16
      → Summed table q (sum + n) (j + 1)
  unfolding ones_over
  summed_more sum j g h word n ew en few =
      let z : 16 - j ≡ suc (16 - (j + 1)) = omega arith in
      let first : ones_over table q j (16 - j) ≡ ones (number_at table q j) + ones_over table q (suc j) (16 - (j + 1)) = ap (ones_over table q j) z in
      let rest : ones_over table q (suc j) (16 - (j + 1)) ≡ ones_over table q (j + 1) (16 - (j + 1)) =
      ap (λ (x : ℕ). ones_over table q x (16 - (j + 1))) (sym (add-one j)) in
      record { most = omega arith; few = omega (arith, g.few); is = g.is ∙ omega (arith, first, rest, en ∙ ap ones ew) }

  pub summed_all : (sum j : ℕ) → Summed table q sum j → 16 ≤ j → (sum ≡ ones_over table q 0 16) × (sum ≤ 256)
  unfolding ones_over
  summed_all sum j g h =
      let z : 16 - j ≡ 0 = omega arith in
      let last : ones_over table q j (16 - j) ≡ 0 = ap (ones_over table q j) z in
      (omega (arith, g.is, last), omega (arith, g.few, g.most))
