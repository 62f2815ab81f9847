-- A read outside the desk: over any tables, from any place and count, into a lent list of numbers.
use Rattle.std.specs.Prelude.{ℕ, ◌+◌, ◌/◌, Result, Ok, Err, Bool, cond, true, false, List, [], ◌∷◌, ◌++◌, ltb, length, get_or, drop, replicate, ◌≡◌}
use Rattle.matching.specs.Words.{Word}
use Rattle.matching.specs.Occurrence.{flat}
use Rattle.matching.specs.Limits.{largest}
use Rattle.matching.specs.Parts.{Layout, Runs, lengths, place_below, read_in, slots_over}
use Rattle.matching.specs.Stepping.{OutcomeOf}
use Rattle.matching.specs.declared.Stop.{Stop}
use Rattle.reading.specs.declared.ReadRefusal.{ReadRefusal}
use Rattle.reading.specs.declared.ReadRefusal.TheVariants.{Place, Long}
use Rattle.reading.specs.declared.Answer.{Answer}

-- a read is refused, or it comes to an outcome, whose place is of type P
pub data ReadAt (P : Type 0) : Type 0 where
  refused_read : ReadRefusal → ReadAt P
  read_to : OutcomeOf P → ReadAt P

-- over the tables of a layout, whose places are a state for each machine
abbrev pub ReadOf : Type 0
ReadOf = ReadAt (List ℕ)

-- by whether each state is below its table's s, and whether the bytes taken and the piece pass the largest count
abbrev pub read_by : {P : Type 0} → OutcomeOf P → Bool → Bool → ReadAt P
read_by r false long = refused_read Place
read_by r true true = refused_read Long
read_by r true false = read_to r

-- over the runs of a layout, into a list of so many numbers, two a record
unfoldable pub read_of : Layout → Runs → List ℕ → ℕ → Word → ℕ → ReadOf
read_of layout runs place count piece len =
    read_by (read_in layout runs place count (len / 2) piece)
    (place_below layout (slots_over layout (lengths runs)) place)
    (ltb largest (count + length piece))

-- for each state of a place, the slots of the table that it is a state of
unfoldable pub own_slots : Layout → List ℕ → List ℕ
own_slots [] slots = []
own_slots (p ∷ ps) slots = replicate p.machines (get_or slots 0 0) ++ own_slots ps (drop 1 slots)

abbrev pub slots_for : Layout → Runs → ℕ → ℕ
slots_for layout runs i = get_or (own_slots layout (slots_over layout (lengths runs))) i 0

-- of the split layout's two tables that of state i: the first for states 0 to 7, the second for states 8 to 15
abbrev pub table_of : List ℕ → List ℕ → ℕ → List ℕ
table_of first second i = cond (ltb i 8) first second

-- the list after a read: the records at its front, and the rest as it was
abbrev pub list_by : {P : Type 0} → List ℕ → ReadAt P → List ℕ
list_by list (refused_read why) = list
list_by list (read_to r) = flat r.found ++ drop (length (flat r.found)) list

-- how a read ended
abbrev pub Ending : Type 0
Ending = Result Stop ReadRefusal

-- the answer of a read from a place of the caller's, of type Q, which is `at` of the reading's
abbrev pub answer_by : {P Q : Type 0} → (P → Q) → Q → ReadAt P → Answer Q
answer_by at place (refused_read why) = record { taken = 0; place = place; records = 0; ending = Err why }
answer_by at place (read_to r) = record { taken = r.taken; place = at r.place; records = length r.found; ending = Ok r.stop }

-- the answers
abbrev pub split_by : List ℕ → ReadOf → Answer (List ℕ)
split_by = answer_by (λ p. p)

abbrev pub whole_by : ℕ → ReadOf → Answer ℕ
whole_by = answer_by (λ p. get_or p 0 0)

-- the number of a refusal in the table of refusals, and what is returned with it: nothing
abbrev pub read_number : ReadRefusal → ℕ
read_number Place = 15
read_number Long = 14

abbrev pub read_values : ReadRefusal → List ℕ
read_values why = []

-- a call's answer, and the list after it, by what the reading comes to
abbrev pub SplitTells : Answer (List ℕ) → (place before after : List ℕ) → ReadOf → Type 0
SplitTells r place before after x = (r ≡ split_by place x) × (after ≡ list_by before x)

abbrev pub WholeTells : Answer ℕ → (place : ℕ) (before after : List ℕ) → ReadOf → Type 0
WholeTells r place before after x = (r ≡ whole_by place x) × (after ≡ list_by before x)
