-- OVER BUILT TABLES THE BITMAP MACHINE READS AS THE WHOLE-BYTE MACHINE DOES: the same records, bytes taken and stops on every piece, however cut, and
-- places of the same prefixes.
use Rattle.std.specs.Prelude.{ℕ, List, [], ◌∷◌}
use Rattle.matching.specs.Machine.{walk}
use Rattle.matching.specs.Parts.{place_in, start_in, whole_layout}
use Rattle.matching.specs.Tags.{exact}
use Rattle.matching.specs.Words.{Below, Word}
use Rattle.reading.specs.Outside.{read_of}
use Rattle.tables.specs.Building.{tables_of}
use Rattle.history.specs.Readings.{AsBuilt, Turn, TurnsOfBytes, in_turn}
use Rattle.bitmap.specs.Levels.{by_level}
use Rattle.bitmap_reading.specs.Outside.{read_map_of}
use Rattle.bitmap_tables.specs.Building.{map_table_of}
use Rattle.bitmap_alike.specs.Laws.Beside.{alike_from-start, alike_piece}
use Rattle.bitmap_alike.specs.Readings.{AlikeReads, AlikeToWhole, MapAsBuilt, map_in_turn}

module _ (set run run' : List ℕ) (ts : List Word) (b : MapAsBuilt set run ts) (b' : AsBuilt whole_layout set (run' ∷ []) (exact ts)) where
  -- EVERY PIECE, from the states after any input, whatever was counted before
  pub each-piece : (v piece : Word) (count list : ℕ) → Below 256 v → Below 256 piece
      → AlikeReads ts v count piece (read_map_of (map_table_of set run) (walk (by_level ts) 0 v) count piece list)
      (read_of whole_layout (tables_of whole_layout set (run' ∷ [])) (place_in whole_layout (exact ts) v) count piece list)
  each-piece = alike_piece set run run' ts b b'

  -- HOWEVER CUT: the same row of readings from the start, with lists of any length
  pub as_whole : (turns : List Turn) → TurnsOfBytes turns
      → AlikeToWhole ts (map_in_turn (map_table_of set run) 0 0 turns) (in_turn whole_layout (tables_of whole_layout set (run' ∷ [])) (start_in whole_layout) 0 turns)
  as_whole = alike_from-start set run run' ts b b'
