-- The table that folding goes by.
use Rattle.std.specs.Prelude.{◌<◌, ℕ, List, ◌≡◌, get_or}
use Rattle.matching.specs.Kinds.{lower}

-- entry c is what byte c is taken to
abbrev pub Folds : List ℕ → Type 0
Folds fold = (c : ℕ) → c < 256 → get_or fold c 0 ≡ lower c
