-- The reading of a piece over ANY run of numbers, as its numbers say, with the failure moves of the bytes taken (docs/RULES.md, 4).
use Rattle.std.specs.Prelude.{◌+◌, ℕ, List, Some}
use Rattle.matching.specs.Reading.{ones_of}
use Rattle.matching.specs.Stepping.{OutcomeOf, Step, Stepped, goes_to, is_damaged, read_by}
use Rattle.matching.specs.Words.{Word}
use Rattle.bitmap.specs.Steps.{Wrong}
use Rattle.bitmap_reading.specs.declared.Standing.{Standing}
use Rattle.bitmap.specs.Steps as bitmap

-- where a byte leads, with the tags of the state that it comes to: the ones of its vector
abbrev pub landed : List ℕ → ℕ → bitmap.Step → Stepped Standing
landed table moves (Some t) = goes_to (record { state = t.state; moves = moves + t.moves }) (ones_of 0 16 (bitmap.vector_at table t.state))
landed table moves Wrong = is_damaged

unfoldable pub map_step : ℕ → List ℕ → Step Standing
map_step s table at c = landed table at.moves (bitmap.step s table at.state c)

-- a piece read from state q, with count bytes taken before, and room for so many records.
-- Before each byte: DAMAGED if a number on its way is wrong; else FULL if its matches don't all fit; else it is taken.
unfoldable pub read_map : ℕ → List ℕ → ℕ → ℕ → ℕ → Word → OutcomeOf Standing
read_map s table q count room w = read_by (map_step s table) (record { state = q; moves = 0 }) count room w
