-- Tables: how a lent run of numbers holds the machines of a slicing (docs/RULES.md, 2 and 3).
use Rattle.std.specs.Prelude.{ℕ, zero, suc, ◌+◌, ◌*◌, ◌/◌, ◌^◌, min, true, false, ◌&&◌, List, [], ◌∷◌, ◌++◌, map, ltb, length, get_or, replicate}
use Rattle.matching.specs.Limits.{most_slots}
use Rattle.matching.specs.Words.{Word, ends}
use Rattle.matching.specs.Machine.{prefixes, states, next, vector_by}
use Rattle.matching.specs.Slicing.{slice, reduced}
use Rattle.matching.specs.Tags.{Tags, is_kind, word_as}

-- the numbers of a slot: a next for each letter of n bits, then the vector
abbrev pub slot_size : ℕ → ℕ
slot_size n = 2 ^ n + 1

-- s: the slots that a run of so many numbers has for each of k machines, and no more than the limit
abbrev pub slots_in : ℕ → ℕ → ℕ → ℕ
slots_in n k len = min (len / (k * slot_size n)) most_slots

-- where slot q of machine m begins, with s slots a machine
unfoldable pub spot : ℕ → ℕ → ℕ → ℕ → ℕ
spot n s m q = (m * s + q) * slot_size n

-- the lists f from, .., f (from + count - 1), one behind the other
unfoldable pub laid : (ℕ → List ℕ) → ℕ → ℕ → List ℕ
laid f from zero = []
laid f from (suc count) = f from ++ laid f (suc from) count

-- slot q of a machine whose states are ps: its nexts and its vector, which is what `mark` makes of its prefix; zeros where there is no such state
unfoldable pub slot : ℕ → (Word → ℕ) → List Word → ℕ → List ℕ
slot n mark ps q = elim (ltb q (length ps)) [
  | true ↦ laid (λ c. next ps q c ∷ []) 0 (2 ^ n) ++ mark (get_or ps q []) ∷ []
  | false ↦ replicate (slot_size n) 0
]

-- the tags as machine m has them
abbrev pub tags_for : ℕ → List Word → ℕ → List Word
tags_for n ts m = reduced (slice n m) ts

-- the s slots of machine m, whose vectors are by `mark m`
unfoldable pub slots : ℕ → ℕ → List Word → (ℕ → Word → ℕ) → ℕ → List ℕ
slots n s ts mark m = laid (slot n (mark m) (prefixes (tags_for n ts m))) 0 s

-- k machines, each with s slots
unfoldable pub built : ℕ → ℕ → ℕ → List Word → (ℕ → Word → ℕ) → List ℕ
built n k s ts mark = laid (slots n s ts mark) 0 k

-- the vector of the prefix p in machine m of the tags of one kind: bit i is set exactly if tag i of the whole set is of that kind and, as the machine has
-- it, a suffix of p
unfoldable pub vector_in : ℕ → ℕ → Tags → ℕ → Word → ℕ
vector_in kind n tags m p = vector_by (λ t. is_kind kind t && ends (map (slice n m) (word_as kind t.word)) p) tags

-- whether every machine has slots enough; if not, the lowest that is short of them and the states that it needs
pub data Room : Type 0 where
  enough_slots : Room
  short_of_slots : (machine needs : ℕ) → Room

-- of machines m, .., m + k - 1, with s slots each
unfoldable pub room_from : ℕ → ℕ → List Word → ℕ → ℕ → Room
room_from n s ts m zero = enough_slots
room_from n s ts m (suc k) = elim (ltb s (states (tags_for n ts m))) [
  | true ↦ short_of_slots m (states (tags_for n ts m))
  | false ↦ room_from n s ts (suc m) k
]
