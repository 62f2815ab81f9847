-- Sample 15 of docs/RULES.md, 10, computed from the definitions: the bitmap machine of he, she, his, hers.
use Rattle.std.specs.Prelude.{Err}
use Rattle.tables.specs.declared.BuildFault.TheVariants as B
use Rattle.std.specs.Prelude.{List, [], ◌++◌, ◌∷◌, map, ◌≡◌, refl, replicate, take, true, ltb, ℕ}
use Rattle.std.specs.Int.Count.{ones, ones_in}
use Rattle.matching.specs.declared.Stop.TheVariants.{All}
use Rattle.matching.specs.Machine.{failure, longest, next, prefixes, vector, vector_by, walk, with_prefixes, with_tags, with_word}
use Rattle.matching.specs.Occurrence.{occur_at}
use Rattle.matching.specs.Reading.{all_below, ones_of}
use Rattle.matching.specs.Stepping.{halted, read_by, stepped, took_byte}
use Rattle.matching.specs.Table.{laid}
use Rattle.matching.specs.Words.{Below, Word, among, begins, begins_one, ends, index_of, same}
use Rattle.bitmap.specs.Levels.{below, by_level, children_from, levels}
use Rattle.bitmap.specs.Moves.{moves_in, moves_on}
use Rattle.bitmap.specs.Slots.{bits_from, built, first_child, room_in, slot}
use Rattle.bitmap.specs.Steps.{arrived, in_map, number_at, ones_below, ones_over, step, step_by}
use Rattle.bitmap_reading.specs.Reading.{map_step, read_map}
use Rattle.tagset.specs.Grammar.{among_tags, distinct, entries_from, entry_of, set_of}
use Rattle.matching.specs.Kinds.{as_read, is_among, kind_of, lower}
use Rattle.matching.specs.Parts.{has_part, kinds_for}
use Rattle.matching.specs.Tags.{chosen}
use Rattle.bitmap_tables.specs.Building.{map_built_of}
use Rattle.bitmap_alike.specs.Readings.{MapAsBuilt}
use Rattle.std.proofs.Common.{ltb-true}
use Rattle.matching.specs.Laws.Bools.{and_l, and_r}

-- he, she, his, hers
abbrev pub tags : List Word
tags = (104 ∷ 101 ∷ []) ∷ (115 ∷ 104 ∷ 101 ∷ []) ∷ (104 ∷ 105 ∷ 115 ∷ []) ∷ (104 ∷ 101 ∷ 114 ∷ 115 ∷ []) ∷ []

abbrev pub hxhe : Word
hxhe = 104 ∷ 120 ∷ 104 ∷ 101 ∷ []

abbrev pub ushers : Word
ushers = 117 ∷ 115 ∷ 104 ∷ 101 ∷ 114 ∷ 115 ∷ []

pub record OfBitmaps : Type 0 where
  -- the states: the empty prefix, h, s, he, hi, sh, her, his, she, hers
  pub states_are : by_level tags
      ≡ [] ∷ (104 ∷ []) ∷ (115 ∷ []) ∷ (104 ∷ 101 ∷ []) ∷ (104 ∷ 105 ∷ []) ∷ (115 ∷ 104 ∷ []) ∷ (104 ∷ 101 ∷ 114 ∷ []) ∷ (104 ∷ 105 ∷ 115 ∷ [])
      ∷ (115 ∷ 104 ∷ 101 ∷ []) ∷ (104 ∷ 101 ∷ 114 ∷ 115 ∷ []) ∷ []
  -- slot 0: h is bit 8 of number 6 and s bit 3 of number 7, first child 1; slot 1, of h: e and i in number 6 of its map, first child 3, failure state 0, no
  -- tag; slot 8, of she: it fails to he, and ends she and he
  pub slot_0 : slot tags (by_level tags) 0 ≡ replicate 6 0 ++ 256 ∷ 8 ∷ replicate 8 0 ++ 1 ∷ 0 ∷ 0 ∷ []
  pub slot_1 : slot tags (by_level tags) 1 ≡ replicate 6 0 ++ 544 ∷ replicate 9 0 ++ 3 ∷ 0 ∷ 0 ∷ []
  pub slot_8 : slot tags (by_level tags) 8 ≡ replicate 16 0 ++ 0 ∷ 3 ∷ 3 ∷ []
  -- "hxhe" goes 0, 1, 0, 1, 3, and "ushers" 0, 0, 2, 5, 8, 6, 9; one failure move each
  pub hxhe-goes : map (walk (by_level tags) 0) ([] ∷ (104 ∷ []) ∷ (104 ∷ 120 ∷ []) ∷ (104 ∷ 120 ∷ 104 ∷ []) ∷ hxhe ∷ []) ≡ 0 ∷ 1 ∷ 0 ∷ 1 ∷ 3 ∷ []
  pub ushers-goes : map (λ n. walk (by_level tags) 0 (take n ushers)) (0 ∷ 1 ∷ 2 ∷ 3 ∷ 4 ∷ 5 ∷ 6 ∷ []) ≡ 0 ∷ 0 ∷ 2 ∷ 5 ∷ 8 ∷ 6 ∷ 9 ∷ []
  pub hxhe-moves : moves_in (prefixes tags) [] hxhe ≡ 1
  pub ushers-moves : moves_in (prefixes tags) [] ushers ≡ 1
  -- reading says so: the states and moves, and of "ushers" the records 4, 0; 4, 1; 6, 3
  pub hxhe-read : (read_map 10 (built 10 tags) 0 0 1 hxhe).place ≡ record { state = 3; moves = 1 }
  pub ushers-read : read_map 10 (built 10 tags) 0 0 3 ushers
      ≡ record {
        taken = 6;
        place = record { state = 9; moves = 1 };
        stop = All;
        found = record { end = 4; tag = 0 } ∷ record { end = 4; tag = 1 } ∷ record { end = 6; tag = 3 } ∷ [];
      }

-- the set of these tags, as bytes
abbrev pub set : List ℕ
set = 2 ∷ 0 ∷ 1 ∷ 0 ∷ 104 ∷ 101 ∷ 3 ∷ 0 ∷ 1 ∷ 0 ∷ 115 ∷ 104 ∷ 101 ∷ 3 ∷ 0 ∷ 1 ∷ 0 ∷ 104 ∷ 105 ∷ 115 ∷ 4 ∷ 0 ∷ 1 ∷ 0 ∷ 104 ∷ 101 ∷ 114 ∷ 115 ∷ []

bytes-by : (w : Word) → all_below 256 w ≡ true → Below 256 w
unfolding all_below
bytes-by [] e = tt
bytes-by (c ∷ w) e = (ltb-true c 256 (and_l (ltb c 256) (all_below 256 w) e), bytes-by w (and_r (ltb c 256) (all_below 256 w) e))

-- what the theorems ask of a table is so of it: ten slots are enough, and nine are not
pub bitmap_built : MapAsBuilt set (replicate 190 0) tags
unfolding by_level levels below children_from among begins begins_one same entry_of entries_from distinct set_of among_tags is_among kind_of chosen has_part
    kinds_for as_read lower map_built_of room_in all_below
bitmap_built = record { bytes = bytes-by set refl; tags = refl; answered = refl }

pub one-slot-short : map_built_of set 189 ≡ Err (B.Table 253 10)
unfolding by_level levels below children_from among begins begins_one same entry_of entries_from distinct set_of among_tags is_among kind_of chosen has_part
    kinds_for as_read lower map_built_of room_in
one-slot-short = refl

pub sample_15 : OfBitmaps
unfolding by_level levels below children_from among begins begins_one same index_of slot laid bits_from first_child vector vector_by ends longest next walk
    failure prefixes with_tags with_prefixes with_word moves_in moves_on built read_map read_by stepped map_step halted took_byte step step_by in_map ones_below
    ones_over arrived number_at ones_of occur_at ones ones_in
sample_15 = record {
  states_are = refl;
  slot_0 = refl;
  slot_1 = refl;
  slot_8 = refl;
  hxhe-goes = refl;
  ushers-goes = refl;
  hxhe-moves = refl;
  ushers-moves = refl;
  hxhe-read = refl;
  ushers-read = refl;
}
