-- What building a bitmap table leaves in the lent run: what is the same whether it is refused or done.
use Rattle.std.specs.Prelude.{◌*◌, ℕ, ◌≡◌, drop, length}
use mathlib.Core.List.{List}
use Rattle.std.proofs.Common.{drop_at}
use Rattle.std.proofs.Math.Path.{refl}
use Rattle.matching.specs.Table.{Room, enough_slots, short_of_slots}
use Rattle.matching.specs.Words.{Word}
use Rattle.tagset.specs.Grammar.{SetOf, bad_set, good_set, set_of}
use Rattle.bitmap.specs.Laws.Built.{built-length}
use Rattle.bitmap.specs.Slots.{built, room_in, slots_of}
use Rattle.bitmap_tables.specs.Building.{map_kinds, map_table_by, map_table_of, on_map_set_table}
use Rattle.bitmap_tables.specs.Building.{with_map_table, words_of}
use Rattle.bitmap_tables.specs.Laws.Left.{map-table-length}

module _ (bytes run : List ℕ) where
  either : (P : List ℕ → Type 0) → P run → ((ts : List Word) → P (with_map_table ts run)) → P (map_table_of bytes run)
  unfolding map_table_of
  either P kept made = go (set_of map_kinds bytes)
    where
      room : (ts : List Word) (r : Room) → P (map_table_by ts run r)
      room ts enough_slots = made ts
      room ts (short_of_slots m needs) = kept

      go : (s : SetOf) → P (on_map_set_table run s)
      go (bad_set fault) = kept
      go (good_set tags) = room (words_of tags) (room_in (slots_of (length run)) (words_of tags))

  -- the run keeps its length
  pub map-left-length : length (map_table_of bytes run) ≡ length run
  map-left-length = either (λ (l : List ℕ). length l ≡ length run) refl (λ ts. map-table-length ts run)

  -- and the numbers behind the last slot
  pub map-left-behind : drop (slots_of (length run) * 19) (map_table_of bytes run) ≡ drop (slots_of (length run) * 19) run
  map-left-behind =
      either (λ (l : List ℕ). drop (slots_of (length run) * 19) l ≡ drop (slots_of (length run) * 19) run) refl
      (λ ts. drop_at (built (slots_of (length run)) ts) (drop (slots_of (length run) * 19) run) (slots_of (length run) * 19)
      (built-length (slots_of (length run)) ts))
