-- A slicing cuts a byte into k slices of n bits, n * k = 8, and gives each slice a machine.
-- The split table is n = 1, k = 8; the whole-byte table n = 8, k = 1.
use Rattle.std.specs.Prelude.{◌%◌, ◌*◌, ◌/◌, ◌<◌, ◌^◌, suc, zero, ℕ, List, [], ◌∷◌, map, ◌≡◌}
use Rattle.std.specs.Int.Bits.{bit_and}
use Rattle.matching.specs.Words.{Word}

-- slice m of a byte, the lowest first: of one bit, bit m
unfoldable pub slice : ℕ → ℕ → ℕ → ℕ
slice n m c = c / 2 ^ (m * n) % 2 ^ n

-- slices m, .., m + k - 1
unfoldable pub slices : ℕ → ℕ → ℕ → List (ℕ → ℕ)
slices n m zero = []
slices n m (suc k) = slice n m ∷ slices n (suc m) k

-- the tags with each byte replaced
unfoldable pub reduced : (ℕ → ℕ) → List Word → List Word
reduced f ts = map (map f) ts

-- v ANDed with each number of a list
unfoldable pub anded : ℕ → List ℕ → ℕ
anded v [] = v
anded v (x ∷ xs) = anded (bit_and v x) xs

-- n bits for each of k machines are the eight bits of a byte
pub record Slicing (n k : ℕ) : Type 0 where
  pub machines : 0 < k
  pub byte : k * n ≡ 8
