-- Layouts (docs/RULES.md, 3 and 4). A layout is a row of parts; a part is some machines for the tags of one kind, and has a lent run of its own. What
-- holds of one part is shown once, and a layout is read and built part by part.
use Rattle.std.specs.Prelude.{ℕ, ◌+◌, ◌*◌, Bool, ◌&&◌, ◌||◌, cond, false, true, List, [], ◌++◌, ◌∷◌, map, eqb, ltb, drop, get_or, length, replicate, take}
use Rattle.matching.specs.Kinds.{TagKind, as_read, exact_kind, folded_kind, kinds}
use Rattle.matching.specs.Reading.{Outcome, all_below, place_after, table_step}
use Rattle.matching.specs.Stepping.{Step, Stepped, expected_by, goes_to, is_damaged, read_by}
use Rattle.matching.specs.Table.{Room, built, enough_slots, room_from, short_of_slots, slot_size, slots_in, vector_in}
use Rattle.matching.specs.Tags.{Tags, chosen, of_kind, tags_at, word_as}
use Rattle.matching.specs.Words.{Word}

-- a part: the kind of its tags, the bits of each machine, the machines, and the name of the first of them; the names of the others follow
pub record Part : Type 0 where
  pub kind : ℕ
  pub bits : ℕ
  pub machines : ℕ
  pub name : ℕ

abbrev pub part : ℕ → ℕ → ℕ → ℕ → Part
part kind bits machines name = record { kind = kind; bits = bits; machines = machines; name = name }

abbrev pub Layout : Type 0
Layout = List Part

-- the split layout: eight machines of one bit for the exact tags, and eight for the folded ones
abbrev pub split_layout : Layout
split_layout = part exact_kind 1 8 0 ∷ part folded_kind 1 8 8 ∷ []

-- the whole-byte layout: one machine of eight bits, for exact tags alone
abbrev pub whole_layout : Layout
whole_layout = part exact_kind 8 1 254 ∷ []

-- what is lent for a layout: a run of numbers for each part. Of the runs or lengths that are given, the first is the first part's
abbrev pub Runs : Type 0
Runs = List (List ℕ)

-- their lengths
abbrev pub lengths : Runs → List ℕ
lengths runs = map (λ (run : List ℕ). length run) runs

abbrev pub first_run : Runs → List ℕ
first_run runs = get_or runs 0 []

abbrev pub first_length : List ℕ → ℕ
first_length lens = get_or lens 0 0

-- the kinds of tag that a layout takes: those of its parts
unfoldable pub has_part : Layout → ℕ → Bool
has_part [] kind = false
has_part (p ∷ ps) kind = eqb p.kind kind || has_part ps kind

unfoldable pub kinds_for : Layout → List TagKind
kinds_for layout = chosen (λ k. has_part layout k.number) kinds

-- ---- slots

-- the slots that a run of so many numbers has for each machine of a part, and those of each part's
abbrev pub part_slots : Part → ℕ → ℕ
part_slots p len = slots_in p.bits p.machines len

unfoldable pub slots_over : Layout → List ℕ → List ℕ
slots_over [] lens = []
slots_over (p ∷ ps) lens = part_slots p (first_length lens) ∷ slots_over ps (drop 1 lens)

-- the machine's name instead of its number
abbrev pub named : Part → Room → Room
named p enough_slots = enough_slots
named p (short_of_slots m needs) = short_of_slots (p.name + m) needs

-- whether the machines of a part have slots enough for its tags
unfoldable pub part_room : Part → Tags → ℕ → Room
part_room p tags s = named p (room_from p.bits s (of_kind p.kind tags) 0 p.machines)

-- where one is short, that; else what is said of the others
abbrev pub or_else : Room → Room → Room
or_else enough_slots others = others
or_else (short_of_slots name needs) others = short_of_slots name needs

-- whether every machine of a layout has slots enough, each part in a run of so many numbers; if not, the lowest that is short
unfoldable pub room_in : Layout → Tags → List ℕ → Room
room_in [] tags lens = enough_slots
room_in (p ∷ ps) tags lens = or_else (part_room p tags (part_slots p (first_length lens))) (room_in ps tags (drop 1 lens))

-- ---- tables

-- the machines of a part, each with s slots
unfoldable pub part_built : Part → Tags → ℕ → List ℕ
part_built p tags s = built p.bits p.machines s (of_kind p.kind tags) (vector_in p.kind p.bits tags)

-- a run with the machines of a part at its front: the numbers beyond the last slot are unchanged
unfoldable pub part_table : Part → Tags → List ℕ → List ℕ
part_table p tags run =
    part_built p tags (part_slots p (length run)) ++ drop (p.machines * (part_slots p (length run) * slot_size p.bits)) run

-- the runs of all parts then
unfoldable pub tables_for : Layout → Tags → Runs → Runs
tables_for [] tags runs = []
tables_for (p ∷ ps) tags runs = part_table p tags (first_run runs) ∷ tables_for ps tags (drop 1 runs)

-- ---- reading

-- a part's step: its machines read a byte as its kind does
unfoldable pub part_step : Part → List ℕ → Step (List ℕ)
part_step p run place c = table_step p.bits (part_slots p (length run)) run place (as_read p.kind c)

-- a number put in its place in a rising list, unless it stands there
unfoldable pub insert : ℕ → List ℕ → List ℕ
insert i [] = i ∷ []
insert i (j ∷ js) = cond (ltb i j) (i ∷ j ∷ js) (cond (eqb i j) (j ∷ js) (j ∷ insert i js))

-- the numbers of either of two rising lists, each once, the lowest first
unfoldable pub union : List ℕ → List ℕ → List ℕ
union is [] = is
union is (j ∷ js) = insert j (union is js)

-- two steps side by side: damage if either is damaged; else both places, one behind the other, and the tags of either
unfoldable pub beside : Stepped (List ℕ) → Stepped (List ℕ) → Stepped (List ℕ)
beside is_damaged other = is_damaged
beside (goes_to p tags) is_damaged = is_damaged
beside (goes_to p tags) (goes_to q more) = goes_to (p ++ q) (union tags more)

-- a layout's step: a place has the places of its parts one behind the other
unfoldable pub step_in : Layout → Runs → Step (List ℕ)
step_in [] runs place c = goes_to [] []
step_in (p ∷ ps) runs place c =
    beside (part_step p (first_run runs) (take p.machines place) c) (step_in ps (drop 1 runs) (drop p.machines place) c)

-- a piece read over the runs, whatever numbers they have
unfoldable pub read_in : Layout → Runs → List ℕ → ℕ → ℕ → Word → Outcome
read_in layout runs place count room w = read_by (step_in layout runs) place count room w

-- is each state of a place below the slots of its part?
unfoldable pub place_below : Layout → List ℕ → List ℕ → Bool
place_below [] slots place = true
place_below (p ∷ ps) slots place = all_below (get_or slots 0 0) (take p.machines place) && place_below ps (drop 1 slots) (drop p.machines place)

-- the machines of all parts: as many states has a place
unfoldable pub width : Layout → ℕ
width [] = 0
width (p ∷ ps) = p.machines + width ps

-- the place at an opening
abbrev pub start_in : Layout → List ℕ
start_in layout = replicate (width layout) 0

-- the place after the input v
unfoldable pub place_in : Layout → Tags → Word → List ℕ
place_in [] tags v = []
place_in (p ∷ ps) tags v = place_after p.bits (of_kind p.kind tags) 0 p.machines (word_as p.kind v) ++ place_in ps tags v

-- what a reading of w is to come to, where v is the input before w
unfoldable pub expected_in : Layout → Tags → Word → ℕ → ℕ → Word → Outcome
expected_in layout tags v count room w = expected_by (place_in layout tags) (tags_at tags) v count room w
