-- The fronts that tags share.
use Rattle.std.specs.Prelude.{max, suc, ℕ, false, true, List, [], ◌∷◌, eqb}
use Rattle.matching.specs.Words.{Word}

-- the letters that two words share at their fronts
unfoldable pub shared : Word → Word → ℕ
shared [] w = 0
shared (x ∷ v) [] = 0
shared (x ∷ v) (y ∷ w) = elim (eqb x y) [ true ↦ suc (shared v w) | false ↦ 0 ]

-- the most letters that w shares with one of some words
unfoldable pub known : List Word → Word → ℕ
known [] w = 0
known (t ∷ ts) w = max (shared w t) (known ts w)
