-- Tags that lie at some places of the bytes of a set, as the code has them.
use Rattle.std.specs.Prelude.{◌≤◌, ℕ, List, ◌≡◌, length}
use Rattle.matching.specs.Kinds.{folded_kind}
use Rattle.matching.specs.Tags.{word_as}

-- as many places as there are tags, in a set of at most 16 * (4 + 32) bytes
pub record Cut (set from to kinds : List ℕ) : Type 0 where
  pub short : length set ≤ 576
  pub ends : length to ≡ length from
  pub kinded : length kinds ≡ length from

-- and the set folded
pub record Lying (set folded from to kinds : List ℕ) : Type 0 where
  pub cut : Cut set from to kinds
  pub folds : folded ≡ word_as folded_kind set
