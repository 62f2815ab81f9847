-- The code's table of kinds, each row as its numbers, beside the definition's.
use Prim.Native.Nat.{◌<◌, suc, zero, ℕ}
use mathlib.Core.List.{List, [], ◌∷◌}
use mathlib.Core.Path.{◌≡◌}
use native.Mathlib.Omega.{arith}
use lib.ListN.{get_or}
use Rattle.matching.specs.Kinds.{TagKind, kinds, no_kind}

-- Laws that the pages name, though no proof needs them any more.

unfoldable pub table : List (List ℕ)
table = (1 ∷ 1 ∷ 32 ∷ []) ∷ (2 ∷ 1 ∷ 32 ∷ []) ∷ []

-- number i of a row is what f says of its kind
pub in_row : (f : TagKind → ℕ) (i : ℕ) → get_or (get_or table 0 []) i 0 ≡ f (get_or kinds 0 no_kind) → get_or (get_or table 1 []) i 0 ≡ f (get_or kinds 1 no_kind)
    → (row : ℕ) → row < 2 → get_or (get_or table row []) i 0 ≡ f (get_or kinds row no_kind)
unfolding table
in_row f i a b zero h = a
in_row f i a b (suc zero) h = b
in_row f i a b (suc (suc row)) h = absurd (omega arith)
