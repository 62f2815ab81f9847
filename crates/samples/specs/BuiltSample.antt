-- What demand 2 supposes is so of the tags he, she, his, hers: building leaves their tables in both layouts, over runs of ten slots a machine; and so of
-- tags of both kinds.
use Rattle.std.specs.Prelude.{ℕ, true, List, [], ◌∷◌, ◌≡◌, refl, ltb, replicate}
use Rattle.std.proofs.Common.{ltb-true}
use Rattle.history.specs.Readings.{AsBuilt}
use Rattle.matching.specs.Kinds.{as_read, is_among, kind_of, lower}
use Rattle.matching.specs.Laws.Bools.{and_l, and_r}
use Rattle.matching.specs.Laws.Layouts.{split-sliced, whole-sliced}
use Rattle.matching.specs.Machine.{prefixes, states, with_prefixes, with_tags, with_word}
use Rattle.matching.specs.Parts.{has_part, kinds_for, part_room, room_in, split_layout, whole_layout}
use Rattle.matching.specs.Reading.{all_below}
use Rattle.matching.specs.Slicing.{reduced, slice}
use Rattle.matching.specs.Table.{room_from}
use Rattle.matching.specs.Tags.{chosen, of_kind, tag_count}
use Rattle.matching.specs.Words.{Below, among, same}
use Rattle.samples.specs.Sets.{as_set, both, tags}
use Rattle.tables.specs.Building.{built_of}
use Rattle.tagset.specs.Grammar.{among_tags, distinct, entries_from, entry_of, set_of}

-- numbers below a limit, by a test
pub below_by : (m : ℕ) (l : List ℕ) → all_below m l ≡ true → Below m l
unfolding all_below
below_by m [] e = tt
below_by m (x ∷ l) e = (ltb-true x m (and_l (ltb x m) (all_below m l) e), below_by m l (and_r (ltb x m) (all_below m l) e))

bytes : Below 256 (as_set tags)
unfolding as_set all_below
bytes = below_by 256 (as_set tags) refl

both_bytes : Below 256 (as_set both)
unfolding as_set all_below
both_bytes = below_by 256 (as_set both) refl

-- eight machines of three numbers a slot, and a second table of one slot
pub split-built : AsBuilt split_layout (as_set tags) (replicate 240 0 ∷ replicate 24 0 ∷ []) tags
unfolding as_set same among with_word with_prefixes with_tags prefixes states slice reduced room_from room_in part_room chosen of_kind has_part kinds_for
    among_tags as_read lower entry_of entries_from distinct set_of is_among kind_of built_of tag_count
split-built = record { sliced = split-sliced; bytes = bytes; good = refl; answered = refl }

-- one machine of 257 numbers a slot
pub whole-built : AsBuilt whole_layout (as_set tags) (replicate 2570 0 ∷ []) tags
unfolding as_set same among with_word with_prefixes with_tags prefixes states slice reduced room_from room_in part_room chosen of_kind has_part kinds_for
    among_tags as_read lower entry_of entries_from distinct set_of is_among kind_of built_of tag_count
whole-built = record { sliced = whole-sliced; bytes = bytes; good = refl; answered = refl }

-- and of "He" in either kind: three slots in each table
pub both-built : AsBuilt split_layout (as_set both) (replicate 72 0 ∷ replicate 72 0 ∷ []) both
unfolding as_set same among with_word with_prefixes with_tags prefixes states slice reduced room_from room_in part_room chosen of_kind has_part kinds_for
    among_tags as_read lower entry_of entries_from distinct set_of is_among kind_of built_of tag_count
both-built = record { sliced = split-sliced; bytes = both_bytes; good = refl; answered = refl }
