-- A number as decimal digits, the most significant first and no zero in front.
use Rattle.std.specs.Prelude.{ℕ, zero, suc, ◌+◌, ◌/◌, ◌%◌, cond, List, [], ◌∷◌, ◌++◌, ltb}

-- the digits of a number below 10 ^ places
unfoldable pub decimal_in : ℕ → ℕ → List ℕ
decimal_in zero n = []
decimal_in (suc places) n = cond (ltb n 10) ((48 + n) ∷ []) (decimal_in places (n / 10) ++ ((48 + n % 10) ∷ []))

-- 20 digits hold every 64-bit number
unfoldable pub decimal_of : ℕ → List ℕ
unfolding decimal_in
decimal_of n = decimal_in 20 n
