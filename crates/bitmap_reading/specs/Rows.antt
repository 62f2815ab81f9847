-- What is known of a byte before its step is taken.
use Rattle.std.specs.Prelude.{None, Option, Some, ◌*◌, ◌<◌, ◌≤◌, suc, zero, ℕ, Bool, false, List, ◌⊎◌, ◌≡◌, get_or}
use Rattle.passing.specs.Quiet.{PassesBy}
use Rattle.bitmap.specs.Steps.{Step, To, fail_at, in_map, step}
use Rattle.bitmap_reading.specs.Reading.{map_step}
use Rattle.bitmap_reading.specs.declared.rows.Came.{Came}

-- where it says a state, the byte leads to it from state 0
abbrev pub Leads : ℕ → List ℕ → ℕ → Option ℕ → Type 0
Leads s table c r = (n : ℕ) → r ≡ Some n → step s table 0 c ≡ To n 0

-- so for each byte
abbrev pub Row : ℕ → List ℕ → List (Option ℕ) → Type 0
Row s table row = (c : ℕ) → c < 256 → Leads s table c (get_or row c None)

-- it is made for the bytes below i, and says of the others that they stay in state 0
pub record Making (s : ℕ) (table : List ℕ) (row : List (Option ℕ)) (i : ℕ) : Type 0 where
  pub made : (c : ℕ) → c < i → Leads s table c (get_or row c None)
  pub stay : (c : ℕ) → i ≤ c → c < 256 → get_or row c None ≡ Some 0

-- it is not deep: it is state 0, or the byte is not in its map and it fails to state 0
abbrev pub Shallow : List ℕ → ℕ → ℕ → Bool → Type 0
Shallow table q c deep = deep ≡ false → (q ≡ 0) ⊎ ((in_map table q c ≡ false) × (fail_at table q ≡ 0))

-- leaving a state for state 0 is a move, staying there is none
abbrev pub moves_from : ℕ → ℕ
moves_from zero = 0
moves_from (suc q) = 1

-- where it says a state and moves, these are the step's
abbrev pub Quick : ℕ → List ℕ → ℕ → ℕ → Step → Type 0
Quick s table q c r = (n m : ℕ) → r ≡ To n m → step s table q c ≡ To n m

-- so many moves for so many bytes: no byte makes more than its state's number
abbrev pub Few : ℕ → ℕ → Type 0
Few moves i = moves ≤ i * 513

-- over quiet bytes, to a state
pub record PassedTo (s : ℕ) (table piece : List ℕ) (start from moves : ℕ) (r : Came) : Type 0 where
  pub quiet : PassesBy (map_step s table) piece (record { state = start; moves = moves }) from (record { state = r.state; moves = r.moves }) r.at
  pub below : r.state < s
  pub few : Few r.moves r.at
