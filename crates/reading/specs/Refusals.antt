-- When a read is refused: the rules' two numbers, in their order.
use Rattle.std.specs.Prelude.{ℕ, Bool, not, List, [], ◌∷◌, ◌≡◌, Result, Ok, Err}
use Rattle.matching.specs.Refusal.{Ground, ◌if◌}
use Rattle.reading.specs.Outside.{Ending, read_number, read_values}
use Rattle.reading.specs.declared.ReadRefusal.{ReadRefusal}

-- by whether each state of the place is below s, and whether the bytes taken and the piece pass the largest count: 15, PLACE, then 14, LONG
abbrev pub read_grounds : Bool → Bool → List Ground
read_grounds sound long = (15 if not sound) ∷ (14 if long) ∷ []

-- the number of a verdict, and of an ending: 0 where there is no refusal
abbrev pub verdict_number : {A : Type 0} → Result A ReadRefusal → ℕ
verdict_number (Err why) = read_number why
verdict_number (Ok x) = 0

abbrev pub ending_number : Ending → ℕ
ending_number = verdict_number

-- an ending is a refusal of this number, and these values are returned with it
pub record RefusedWith (ending : Ending) (number : ℕ) (values : List ℕ) : Type 0 where
  pub why : ReadRefusal
  pub refused : ending ≡ Err why
  pub number_is : read_number why ≡ number
  pub values_are : read_values why ≡ values
