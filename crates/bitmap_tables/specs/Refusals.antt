-- When building a bitmap table is refused, and when it is done, in the rules' words; Laws.Exact shows that it is exactly then, for a set of bytes.
use Rattle.std.specs.Prelude.{◌<◌, ◌≤◌, ℕ, List, ◌≡◌, length}
use Rattle.matching.specs.Machine.{states}
use Rattle.matching.specs.Tags.{exact}
use Rattle.matching.specs.Words.{Word}
use Rattle.tables.specs.Refusals.{AnswersBy, BuildExactBy}
use Rattle.tagset.specs.Refusals.{Accepted}
use Rattle.bitmap.specs.Slots.{slots_of}
use Rattle.bitmap_tables.specs.Building.{map_kinds}

-- TABLE: the set is good, its tags are the exact ones of these words, and they have more distinct prefixes than there are slots; the machine is named 253
pub record MapTooFewSlots (bytes : List ℕ) (len name needs : ℕ) : Type 0 where
  pub tags : List Word
  pub set : Accepted map_kinds bytes (exact tags)
  pub short : slots_of len < states tags
  pub named : name ≡ 253
  pub needed : needs ≡ states tags

-- done: the set is good, its tags are the exact ones of these words, and so many, and there is a slot for each distinct prefix
pub record MapBuilds (bytes : List ℕ) (len count : ℕ) : Type 0 where
  pub tags : List Word
  pub set : Accepted map_kinds bytes (exact tags)
  pub counted : count ≡ length tags
  pub enough : states tags ≤ slots_of len

-- the number and the values that building answers, by these two conditions: 1 to 6 where the set is at fault, then 7, TABLE, with the machine and
-- the states that it needs; 0 and the number of tags where it is done
abbrev pub MapAnswers : List ℕ → ℕ → ℕ → List ℕ → Type 0
MapAnswers bytes len number values = AnswersBy (MapBuilds bytes len) (MapTooFewSlots bytes len) map_kinds bytes number values

-- the same number by number, 0 to 7: each, with what is returned with it, exactly if its condition holds and none earlier does
abbrev pub MapBuildExact : List ℕ → ℕ → ℕ → List ℕ → Type 0
MapBuildExact bytes len number values = BuildExactBy (MapBuilds bytes len) (MapTooFewSlots bytes len) map_kinds bytes number values
