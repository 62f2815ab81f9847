-- Bytes walked one after another, by any way of stepping: where they lead, and the tags found at each.
use Rattle.std.specs.Prelude.{◌<◌, ◌≤◌, suc, ℕ, List, [], ◌++◌, ◌∷◌, ◌≡◌, get_or, length, take}
use Rattle.matching.specs.Occurrence.{Occurrence, occur_at}
use Rattle.matching.specs.Stepping.{Step, goes_to, is_damaged}
use Rattle.matching.specs.Words.{Word}

-- from a place, bytes lead to another place without damage; rows has the tags found at each
pub data Ran {P : Type 0} (step : Step P) : P → Word → P → List (List ℕ) → Type 0 where
  at_rest : (p : P) → Ran step p [] p []
  onward : (p : P) (c : ℕ) (to : P) (tags : List ℕ) (w : Word) (q : P) (rows : List (List ℕ)) → step p c ≡ goes_to to tags → Ran step to w q rows
      → Ran step p (c ∷ w) q (tags ∷ rows)

-- how far a walk came: to byte e, which is the end, with the place q there, or the first byte at which the step shows damage
pub record Came {P : Type 0} (step : Step P) (p : P) (w : Word) (e : ℕ) (q : P) (rows : List (List ℕ)) : Type 0 where
  pub most : e ≤ length w
  pub at : P
  pub ran : Ran step p (take e w) at rows
  pub there : e ≡ length w → q ≡ at
  pub wrong : e < length w → step at (get_or w e 0) ≡ is_damaged

-- the records of rows, counted from count on
unfoldable pub records_of : ℕ → List (List ℕ) → List Occurrence
records_of count [] = []
records_of count (tags ∷ rows) = occur_at (suc count) tags ++ records_of (suc count) rows
