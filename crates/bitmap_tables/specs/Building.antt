-- Building a bitmap table, from the bytes of a set, over a lent run of numbers. It takes exact tags alone, so their words are all there is to them.
use Rattle.std.specs.Prelude.{Err, Ok}
use Rattle.std.specs.Prelude.{◌*◌, ℕ, List, ◌++◌, map, drop, length}
use Rattle.matching.specs.Kinds.{TagKind}
use Rattle.matching.specs.Parts.{kinds_for, whole_layout}
use Rattle.matching.specs.Table.{Room, enough_slots, short_of_slots}
use Rattle.matching.specs.Tags.{Tag, Tags}
use Rattle.matching.specs.Words.{Word}
use Rattle.tagset.specs.Grammar.{SetOf, bad_set, good_set, set_of}
use Rattle.tables.specs.Building.{Built}
use Rattle.tables.specs.declared.BuildFault.TheVariants as B
use Rattle.bitmap.specs.Slots.{built, room_in, slots_of}

-- the kinds of tag that it takes: those that the whole-byte layout takes
abbrev pub map_kinds : List TagKind
map_kinds = kinds_for whole_layout

-- the words of tags
abbrev pub words_of : Tags → List Word
words_of tags = map (λ (t : Tag). t.word) tags

abbrev pub map_built_by : List Word → Room → Built
map_built_by ts enough_slots = Ok (length ts)
map_built_by ts (short_of_slots machine needs) = Err (B.Table machine needs)

-- the answer for tags of these words, over a run of so many numbers
abbrev pub map_built_tags : List Word → ℕ → Built
map_built_tags ts len = map_built_by ts (room_in (slots_of len) ts)

abbrev pub on_map_set : ℕ → SetOf → Built
on_map_set len (bad_set fault) = Err (B.Set fault)
on_map_set len (good_set tags) = map_built_tags (words_of tags) len

-- the answer: set faults, then TABLE
unfoldable pub map_built_of : List ℕ → ℕ → Built
map_built_of bytes len = on_map_set len (set_of map_kinds bytes)

-- a run of numbers with the table of the tags at its front: the numbers beyond the last slot are unchanged
abbrev pub with_map_table : List Word → List ℕ → List ℕ
with_map_table ts run = built (slots_of (length run)) ts ++ drop (slots_of (length run) * 19) run

abbrev pub map_table_by : List Word → List ℕ → Room → List ℕ
map_table_by ts run enough_slots = with_map_table ts run
map_table_by ts run (short_of_slots machine needs) = run

-- the run then
abbrev pub map_table_tags : List Word → List ℕ → List ℕ
map_table_tags ts run = map_table_by ts run (room_in (slots_of (length run)) ts)

abbrev pub on_map_set_table : List ℕ → SetOf → List ℕ
on_map_set_table run (bad_set fault) = run
on_map_set_table run (good_set tags) = map_table_tags (words_of tags) run

-- the run after building: the table where it is accepted, what it was where it is refused
unfoldable pub map_table_of : List ℕ → List ℕ → List ℕ
map_table_of bytes run = on_map_set_table run (set_of map_kinds bytes)
