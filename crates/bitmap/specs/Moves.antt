-- Failure moves, by the tags' prefixes alone: no table and no machine is spoken of (docs/RULES.md, 4).
use Rattle.std.specs.Prelude.{◌+◌, ℕ, cond, false, true, List, [], ◌++◌, ◌∷◌}
use Rattle.matching.specs.Words.{Word, among}
use Rattle.bitmap.specs.Levels.{forward}

-- the moves of byte c after the input v, where the states are the words ps: going from v to its shorter suffixes, up to the first from which c leads
-- forward or the empty one, each that is a state is one to move on from
unfoldable pub moves_on : List Word → Word → ℕ → ℕ
moves_on ps [] c = 0
moves_on ps (x ∷ v) c = elim (forward ps (x ∷ v) c) [ true ↦ 0 | false ↦ cond (among (x ∷ v) ps) 1 0 + moves_on ps v c ]

-- the moves of the bytes of w, where v is the input before w
unfoldable pub moves_in : List Word → Word → Word → ℕ
moves_in ps v [] = 0
moves_in ps v (c ∷ w) = moves_on ps v c + moves_in ps (v ++ c ∷ []) w
