-- The reading of a piece, as the code has it and part of the way through it.
use Rattle.std.specs.Prelude.{◌<◌, ℕ, List, ◌≡◌}
use Rattle.matching.specs.Stepping.{OutcomeOf}
use Rattle.reading.specs.Walks.{GoingBy, list_of, went_by}
use Rattle.bitmap_reading.specs.Reading.{map_step}
use Rattle.bitmap_reading.specs.Rows.{Few}
use Rattle.bitmap_reading.specs.declared.Standing.{Standing}
use Rattle.reading.specs.declared.went.Went.{Went}

-- an outcome as the loop answers it
abbrev pub went_map_of : OutcomeOf Standing → Went Standing
went_map_of = went_by (λ p. p)

-- what the loop answers, and the list after it, by the outcome of the reading
pub record WalkedMap (s : ℕ) (r : Went Standing) (before after : List ℕ) (x : OutcomeOf Standing) : Type 0 where
  pub is : r ≡ went_map_of x
  pub list : after ≡ list_of before x
  pub below : r.place.state < s

-- i bytes are taken, w records written and so many failure moves made, and what is left is a reading from state q
pub record GoingMap (s : ℕ) (table : List ℕ) (count : ℕ) (piece l₀ : List ℕ) (start : ℕ) (l : List ℕ) (q w i moves : ℕ) : Type 0 where
  pub going : GoingBy (map_step s table) count piece l₀ (record { state = start; moves = 0 }) l (record { state = q; moves = moves }) w i
  pub below : q < s
  pub few : Few moves i
