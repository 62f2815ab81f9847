-- One byte's records in the list.
use Rattle.std.specs.Prelude.{Option, Some, None, ◌*◌, ◌+◌, ◌-◌, ◌/◌, suc, zero, ℕ, Bool, cond, false, true, List, [], ◌∷◌, leb, length}
use Rattle.std.proofs.lemmas.List.Edits.{sets}
use Rattle.matching.specs.Occurrence.{flat, occur_at}

-- the tag, if its bit is set
abbrev pub tag_if : ℕ → ℕ → List ℕ
tag_if zero tag = []
tag_if (suc bit) tag = tag ∷ []

-- do the records of these tags fit after the w first?
abbrev pub fits_in : List ℕ → ℕ → List ℕ → Bool
fits_in l w tags = leb (length tags) (length l / 2 - w)

abbrev pub emit_by : Bool → ℕ → Option ℕ
emit_by true w = Some w
emit_by false w = None

-- the number of records once they are written, nothing where they are not, and the list then
abbrev pub emit_of : List ℕ → ℕ → List ℕ → Option ℕ
emit_of l w tags = emit_by (fits_in l w tags) (w + length tags)

abbrev pub emitted : List ℕ → ℕ → ℕ → List ℕ → List ℕ
emitted l w e tags = cond (fits_in l w tags) (sets l (2 * w) (flat (occur_at e tags))) l
