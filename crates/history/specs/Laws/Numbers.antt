-- Small facts about numbers, and about things of different names.
use Rattle.std.specs.Prelude.{◌<◌, ◌≤◌, suc, ℕ, false, ◌≡◌, ltb}
use Rattle.std.proofs.Math.Decide.{dec_le}
use Rattle.std.proofs.Common.{arith, ltb→lt}
use Rattle.matching.specs.Laws.Bools.{is_false, to-T}

pub lower : (m n : ℕ) → m ≤ n → (m ≡ n → ⊥) → m < n
lower m n h f = go (dec_le (suc m) n)
  where
    go : Dec (suc m ≤ n) → m < n
    go (yes p) = p
    go (no p) = absurd (f (omega arith))

pub ltb_no : (m n : ℕ) → n ≤ m → ltb m n ≡ false
ltb_no m n h = is_false (ltb m n) (λ e. omega (arith, ltb→lt m n (to-T (ltb m n) e)))

-- what follows from two things of different names being one: anything
pub differ : {A : Type 0} → ◌≡◌ {A = ℕ} 0 1 → A
differ z = absurd (omega (arith, z))
