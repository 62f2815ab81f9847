-- The reading of a piece, as the code has it and part of the way through it.
use Rattle.std.specs.Prelude.{◌*◌, ◌+◌, ◌-◌, ◌/◌, ◌≤◌, ℕ, Bool, true, List, ◌++◌, ◌≡◌, drop, get_or, length}
use Rattle.std.proofs.lemmas.List.Edits.{sets}
use Rattle.matching.specs.Occurrence.{Occurrence, flat}
use Rattle.matching.specs.Parts.{Runs, split_layout, step_in}
use Rattle.matching.specs.Reading.{Outcome, all_below, table_step}
use Rattle.matching.specs.Stepping.{OutcomeOf, Step, read_by}
use Rattle.matching.specs.declared.Stop.TheVariants.{All}
use Rattle.passing.specs.Quiet.{ahead}
use Rattle.blocks.specs.Parts.{Fits, clean}
use Rattle.reading.specs.declared.went.Went.{Went}

-- an outcome as the loops answer it, their place `at` of its own
abbrev pub went_by : {P Q : Type 0} → (P → Q) → OutcomeOf P → Went Q
went_by at r = record { taken = r.taken; place = at r.place; records = length r.found; stop = r.stop }

abbrev pub went_of : Outcome → Went (List ℕ)
went_of = went_by (λ p. p)

abbrev pub went_one_of : Outcome → Went ℕ
went_one_of = went_by (λ p. get_or p 0 0)

-- the list after it: the records at its front, and the rest as it was
abbrev pub list_of : {P : Type 0} → List ℕ → OutcomeOf P → List ℕ
list_of l r = flat r.found ++ drop (length (flat r.found)) l

-- by any step: i bytes are taken and w records written, the list l₀ has become l, and what is left is a reading from a place
pub record GoingBy {P : Type 0} (step : Step P) (count : ℕ) (piece l₀ : List ℕ) (start : P) (l : List ℕ) (place : P) (w i : ℕ) : Type 0 where
  pub most : i ≤ length piece
  pub done : List Occurrence
  pub written : length done ≡ w
  pub fits : 2 * w ≤ length l₀
  pub list : l ≡ flat done ++ drop (length (flat done)) l₀
  pub is : read_by step start count (length l₀ / 2) piece ≡ ahead i done (read_by step place (count + i) (length l₀ / 2 - w) (drop i piece))

-- over a table, whose places are a state for each machine
pub record Going (n s : ℕ) (table : List ℕ) (count : ℕ) (piece l₀ start l place : List ℕ) (w i : ℕ) : Type 0 where
  pub going : GoingBy (table_step n s table) count piece l₀ start l place w i
  pub long : length place ≡ length start
  pub below : all_below s place ≡ true

-- over split tables, a block after another: the place is one at which the parts fit, and nothing is noted
pub record Blockwise (runs : Runs) (slots : List ℕ) (awake : List Bool) (starts : List ℕ) (count : ℕ) (piece l₀ start l hits place : List ℕ)
    (w i : ℕ) : Type 0 where
  pub going : GoingBy (step_in split_layout runs) count piece l₀ start l place w i
  pub fits : Fits split_layout runs slots awake starts place
  pub forgets : hits ≡ clean

-- what the reading of a block answers, behind the first `from` records of the list l₀, which became l, by its outcome
abbrev pub BlockTells : Went (List ℕ) → (from : ℕ) (l₀ l : List ℕ) → Outcome → Type 0
BlockTells r from l₀ l o =
    (r ≡ record { taken = o.taken; place = o.place; records = from + length o.found; stop = o.stop }) × (l ≡ sets l₀ (2 * from) (flat o.found))

-- and while all is taken, nothing stays noted
pub record BlockRead (r : Went (List ℕ)) (from : ℕ) (l₀ l hits : List ℕ) (o : Outcome) : Type 0 where
  pub tells : BlockTells r from l₀ l o
  pub forgets : r.stop ≡ All → hits ≡ clean

-- what a walk answers, and the list after it, by the outcome of the reading
abbrev pub Walked : Went (List ℕ) → (before after : List ℕ) → Outcome → Type 0
Walked r before after x = (r ≡ went_of x) × (after ≡ list_of before x)

abbrev pub WalkedOne : Went ℕ → (before after : List ℕ) → Outcome → Type 0
WalkedOne r before after x = (r ≡ went_one_of x) × (after ≡ list_of before x)
