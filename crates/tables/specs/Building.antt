-- Building the tables of a layout, from the bytes of a set, over lent runs of numbers, one for each part.
use Rattle.std.specs.Prelude.{Result, Err, Ok, ℕ, zero, suc, max, List, [], ◌∷◌, map, get_or, length}
use Rattle.matching.specs.Words.{Word}
use Rattle.matching.specs.Machine.{states}
use Rattle.matching.specs.Parts.{Layout, Part, Runs, kinds_for, lengths, room_in, tables_for}
use Rattle.matching.specs.Table.{tags_for, Room, enough_slots, short_of_slots}
use Rattle.matching.specs.Tags.{Tags, of_kind}
use Rattle.tagset.specs.Grammar.{SetOf, good_set, bad_set, set_of}
use Rattle.tagset.specs.Answer.{fault_number, fault_values}
use Rattle.tables.specs.declared.BuildFault.{BuildFault}
use Rattle.tables.specs.declared.BuildFault.TheVariants as B
use Rattle.tables.specs.declared.Needed.{Needed}
use Rattle.tagset.specs.declared.SetFault.{SetFault}

-- what building answers: the number of tags, or why there are no tables
abbrev pub Built : Type 0
Built = Result ℕ BuildFault

-- what is told of the slots that a set needs, or its fault
abbrev pub Needs : Type 0
Needs = Result Needed SetFault

abbrev pub of_parts : (first second : ℕ) → Needed
of_parts first second = record { first = first; second = second }

abbrev pub built_by : Tags → Room → Built
built_by tags enough_slots = Ok (length tags)
built_by tags (short_of_slots name needs) = Err (B.Table name needs)

abbrev pub on_set : Layout → List ℕ → SetOf → Built
on_set layout lens (bad_set fault) = Err (B.Set fault)
on_set layout lens (good_set tags) = built_by tags (room_in layout tags lens)

-- the answer, for runs of so many numbers: set faults, then TABLE
unfoldable pub built_of : Layout → List ℕ → List ℕ → Built
built_of layout bytes lens = on_set layout lens (set_of (kinds_for layout) bytes)

abbrev pub tables_by : Layout → Tags → Runs → Room → Runs
tables_by layout tags runs enough_slots = tables_for layout tags runs
tables_by layout tags runs (short_of_slots name needs) = runs

abbrev pub on_set_tables : Layout → Runs → SetOf → Runs
on_set_tables layout runs (bad_set fault) = runs
on_set_tables layout runs (good_set tags) = tables_by layout tags runs (room_in layout tags (lengths runs))

-- the runs after building: the tables where it is accepted, what they were where it is refused
unfoldable pub tables_of : Layout → List ℕ → Runs → Runs
tables_of layout bytes runs = on_set_tables layout runs (set_of (kinds_for layout) bytes)

-- the most states that one of machines m, .., m + k - 1 needs
unfoldable pub most_states : ℕ → List Word → ℕ → ℕ → ℕ
most_states n ts m zero = 0
most_states n ts m (suc k) = max (states (tags_for n ts m)) (most_states n ts (suc m) k)

-- the slots that a part needs for its tags, and those that each part of a layout needs
abbrev pub part_needs : Part → Tags → ℕ
part_needs p tags = most_states p.bits (of_kind p.kind tags) 0 p.machines

abbrev pub slots_needed : Layout → Tags → List ℕ
slots_needed layout tags = map (λ (p : Part). part_needs p tags) layout

-- those of the first and of the second part; 0 where there is no second
abbrev pub needed_by : Layout → SetOf → Needs
needed_by layout (bad_set fault) = Err fault
needed_by layout (good_set tags) = Ok (of_parts (get_or (slots_needed layout tags) 0 0) (get_or (slots_needed layout tags) 1 0))

unfoldable pub needed_of : Layout → List ℕ → Needs
needed_of layout bytes = needed_by layout (set_of (kinds_for layout) bytes)

-- the number of an answer in the table of refusals, 0 where it is none; and what is returned with it, or given
abbrev pub built_number : Built → ℕ
built_number (Ok count) = 0
built_number (Err (B.Set fault)) = fault_number fault
built_number (Err (B.Table machine needs)) = 7

abbrev pub built_values : Built → List ℕ
built_values (Ok count) = count ∷ []
built_values (Err (B.Set fault)) = fault_values fault
built_values (Err (B.Table machine needs)) = machine ∷ needs ∷ []

abbrev pub needed_number : Needs → ℕ
needed_number (Ok needed) = 0
needed_number (Err fault) = fault_number fault

abbrev pub needed_values : Needs → List ℕ
needed_values (Ok needed) = needed.first ∷ needed.second ∷ []
needed_values (Err fault) = fault_values fault
