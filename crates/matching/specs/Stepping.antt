-- A reading, over ANY way of stepping: from a place, a byte leads to a next place and the tags found there, or shows damage.
-- Each layout of a table gives a step; what holds of every reading is shown once, of this one (Laws.Stepping).
use Rattle.std.specs.Prelude.{ℕ, suc, ◌+◌, ◌-◌, true, false, List, [], ◌∷◌, ◌++◌, leb, length}
use Rattle.matching.specs.declared.Stop.{Stop}
use Rattle.matching.specs.declared.Stop.TheVariants.{All, Full, Damaged}
use Rattle.matching.specs.Words.{Word}
use Rattle.matching.specs.Occurrence.{Occurrence, occur_at}

-- what one byte comes to, where places are of type P: the next place and the tags found there, or damage
pub data Stepped (P : Type 0) : Type 0 where
  goes_to : P → List ℕ → Stepped P
  is_damaged : Stepped P

-- a way of stepping
abbrev pub Step : Type 0 → Type 0
Step P = P → ℕ → Stepped P

-- what a reading comes to: the number of bytes taken, the place then, why it stopped, and the records, in order
pub record OutcomeOf (P : Type 0) : Type 0 where
  pub taken : ℕ
  pub place : P
  pub stop : Stop
  pub found : List Occurrence

unfoldable pub halted : {P : Type 0} → P → Stop → OutcomeOf P
halted place why = record { taken = 0; place = place; stop = why; found = [] }

-- one byte taken, with its matches, before what the rest comes to
unfoldable pub took_byte : {P : Type 0} → ℕ → List ℕ → OutcomeOf P → OutcomeOf P
took_byte e tags r = record { taken = suc r.taken; place = r.place; stop = r.stop; found = occur_at e tags ++ r.found }

-- by what a byte comes to: damage; else FULL if its matches don't all fit; else it is taken, and the rest is read
unfoldable pub stepped : {P : Type 0} → P → ℕ → ℕ → Stepped P → (P → ℕ → ℕ → OutcomeOf P) → OutcomeOf P
stepped place count room is_damaged more = halted place Damaged
stepped place count room (goes_to to tags) more =
    elim (leb (length tags) room) [
      | false ↦ halted place Full
      | true ↦ took_byte (suc count) tags (more to (suc count) (room - length tags))
    ]

-- a piece read from a place, with count bytes taken before, and room for so many records
unfoldable pub read_by : {P : Type 0} → Step P → P → ℕ → ℕ → Word → OutcomeOf P
read_by step place count room [] = halted place All
read_by step place count room (c ∷ w) = stepped place count room (step place c) (λ to e left. read_by step to e left w)

-- the same, the place seen as another
unfoldable pub on_place : {P Q : Type 0} → (P → Q) → OutcomeOf P → OutcomeOf Q
on_place f r = record { taken = r.taken; place = f r.place; stop = r.stop; found = r.found }

-- one reading behind another
unfoldable pub joined : {P : Type 0} → OutcomeOf P → OutcomeOf P → OutcomeOf P
joined a b = record { taken = a.taken + b.taken; place = b.place; stop = b.stop; found = a.found ++ b.found }

-- the step that knows the whole input so far, and by f the tags that are found there
unfoldable pub input_step : (Word → List ℕ) → Step Word
input_step f v c = goes_to (v ++ c ∷ []) (f (v ++ c ∷ []))

-- what a reading of w is to come to, where v is the input before w, by f the tags that are found there, and by at the place: each byte is taken up to the
-- first whose matches find no room, and its matches are what is found there
unfoldable pub expected_by : {P : Type 0} → (Word → P) → (Word → List ℕ) → Word → ℕ → ℕ → Word → OutcomeOf P
expected_by at f v count room w = on_place at (read_by (input_step f) v count room w)
