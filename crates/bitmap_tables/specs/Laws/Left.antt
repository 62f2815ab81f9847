-- What building a bitmap table leaves in the lent run.
use Rattle.std.specs.Prelude.{◌*◌, ◌<◌, ◌≤◌, ℕ, ◌≡◌, drop, length}
use mathlib.Core.List.{List}
use Rattle.std.proofs.Common.{◌∙◌, subst, sym, arith, length-append, length-drop}
use Rattle.std.proofs.Math.Path.{ap, refl}
use Rattle.matching.specs.Table.{Room, enough_slots, short_of_slots}
use Rattle.matching.specs.Tags.{exact}
use Rattle.matching.specs.Words.{Below, Word}
use Rattle.tagset.specs.Grammar.{SetOf, bad_set, good_set, set_of}
use Rattle.tagset.specs.Laws.Exact.{accepted_iff}
use Rattle.tables.specs.Building.{built_number}
use Rattle.bitmap.specs.Laws.Built.{Holds, built-holds, built-length}
use Rattle.bitmap.specs.Laws.States.{states-same}
use Rattle.bitmap.specs.Slots.{built, room_in, slots_of}
use Rattle.bitmap_tables.specs.Building.{map_built_by, map_built_of, map_kinds, map_table_by, map_table_of, map_table_tags, on_map_set, on_map_set_table}
use Rattle.bitmap_tables.specs.Building.{with_map_table, words_of}
use Rattle.bitmap_tables.specs.Laws.Exact.{map-lawful, room-enough, words-exact}
use Rattle.bitmap_tables.specs.Refusals.{MapBuilds}

-- the slots are there
pub slots-fit : (len : ℕ) → slots_of len * 19 ≤ len
slots-fit len = omega arith

pub map-table-length : (ts : List Word) (run : List ℕ) → length (with_map_table ts run) ≡ length run
map-table-length ts run =
    let s = slots_of (length run) in
    omega (arith, length-append (built s ts) (drop (s * 19) run), built-length s ts, length-drop (s * 19) run, slots-fit (length run))

module _ (bytes run : List ℕ) where
  -- refused: the run holds what it held
  pub map-refused-kept : 0 < built_number (map_built_of bytes (length run)) → map_table_of bytes run ≡ run
  unfolding map_built_of map_table_of
  map-refused-kept h = go (set_of map_kinds bytes) h
    where
      room : (ts : List Word) (r : Room) → 0 < built_number (map_built_by ts r) → map_table_by ts run r ≡ run
      room ts enough_slots i = absurd (omega arith)
      room ts (short_of_slots m needs) i = refl

      go : (s : SetOf) → 0 < built_number (on_map_set (length run) s) → on_map_set_table run s ≡ run
      go (bad_set fault) i = refl
      go (good_set tags) i = room (words_of tags) (room_in (slots_of (length run)) (words_of tags)) i

  -- done: the table of the tags stands at its front
  pub map-built-left : Below 256 bytes → {count : ℕ} (b : MapBuilds bytes (length run) count) → map_table_of bytes run ≡ with_map_table b.tags run
  unfolding map_table_of
  map-built-left small b =
      rw ((accepted_iff map_kinds bytes (exact b.tags)).1 b.set)
      (ap (λ (ts : List Word). map_table_tags ts run) (words-exact b.tags)
      ∙ ap (map_table_by b.tags run) (room-enough b.tags (map-lawful bytes small b.tags b.set) (slots_of (length run)) b.enough))

  -- which holds the machine
  pub map-left-holds : Below 256 bytes → {count : ℕ} (b : MapBuilds bytes (length run) count) → Holds (slots_of (length run)) b.tags (map_table_of bytes run)
  map-left-holds small b =
      let s = slots_of (length run) in
      let e = states-same b.tags (map-lawful bytes small b.tags b.set) in
      subst (Holds s b.tags) (sym (map-built-left small b)) (built-holds s b.tags (drop (s * 19) run) (omega (arith, e, b.enough)))
