-- OVER A BITMAP TABLE AS BUILDING LEFT IT, a reading finds the occurrences of the tags and no others, however the bytes were cut; its failure moves are
-- those of the definition for the bytes taken, and from the start they never exceed these.
use Rattle.std.specs.Prelude.{◌<◌, ◌≤◌, ℕ, ◌≡◌, get_or, length}
use mathlib.Core.List.{List, []}
use Rattle.matching.specs.Machine.{walk}
use Rattle.matching.specs.Words.{Below, Word}
use Rattle.history.specs.Readings.{Turn, TurnsOfBytes}
use Rattle.bitmap.specs.Levels.{by_level}
use Rattle.bitmap_reading.specs.Outside.{read_map_of}
use Rattle.bitmap_tables.specs.Building.{map_table_of}
use Rattle.bitmap_alike.specs.Laws.Alone.{lawful, own-prefix, reads_so, row_from-start, start-few}
use Rattle.bitmap_alike.specs.Readings.{MapAsBuilt, MapReads, MapRowDone, map_in_turn}
use Rattle.matching.specs.Stepping.{OutcomeOf}
use Rattle.reading.specs.Outside.{read_to}
use Rattle.bitmap_reading.specs.declared.Standing.{Standing}
use Rattle.bitmap.specs.Laws.Built.{level-first, level_tree}

module _ (set run : List ℕ) (ts : List Word) (b : MapAsBuilt set run ts) where
  -- EACH READING, from the state after any input, whatever was counted before
  pub each-map-reading : (v piece : Word) (count list : ℕ) → Below 256 piece
      → MapReads ts v count piece list (read_map_of (map_table_of set run) (walk (by_level ts) 0 v) count piece list)
  each-map-reading = reads_so set run ts b

  -- FROM THE START STATE, whatever was counted before: the same after no input, and no more failure moves than bytes taken
  pub from_the_start : (piece : Word) (count list : ℕ) → Below 256 piece → MapReads ts [] count piece list (read_map_of (map_table_of set run) 0 count piece list)
  unfolding walk
  from_the_start piece count list h = reads_so set run ts b [] piece count list h

  pub moves-few : (piece : Word) (count list : ℕ) → Below 256 piece → (r : OutcomeOf Standing)
      → read_map_of (map_table_of set run) 0 count piece list ≡ read_to r → r.place.moves ≤ r.taken
  moves-few piece count list h r e = start-few set run ts b piece count list h r e

  -- EVERY STATE is the one after its own prefix, so that 'after any input' leaves none out
  pub after-its-prefix : (q : ℕ) → q < length (by_level ts) → walk (by_level ts) 0 (get_or (by_level ts) q []) ≡ q
  after-its-prefix q h = own-prefix (by_level ts) (level_tree ts (lawful set run ts b)) (level-first ts (lawful set run ts b)) q h

  -- HOWEVER CUT: any row of readings from the start, with lists of any length
  pub map_however_cut : (turns : List Turn) → TurnsOfBytes turns → MapRowDone ts (map_in_turn (map_table_of set run) 0 0 turns)
  map_however_cut = row_from-start set run ts b
