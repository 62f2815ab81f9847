-- Readings one after another over a bitmap table as building left it, and when they are those over the whole-byte table of the same set.
use Rattle.std.specs.Prelude.{Ok}
use Rattle.std.specs.Prelude.{◌+◌, ◌/◌, ◌<◌, ◌≤◌, suc, ℕ, List, [], ◌++◌, ◌∷◌, ◌⊎◌, ◌≡◌, get_or, length, take}
use Rattle.matching.specs.Limits.{largest}
use Rattle.matching.specs.Machine.{longest, prefixes, walk}
use Rattle.matching.specs.Occurrence.{Occurrence, occurrences, occurrences_from, tags_ending}
use Rattle.matching.specs.Reading.{Outcome}
use Rattle.matching.specs.Stepping.{OutcomeOf}
use Rattle.matching.specs.Words.{Below, Word}
use Rattle.matching.specs.declared.Stop.{Stop}
use Rattle.matching.specs.declared.Stop.TheVariants.{All, Full}
use Rattle.reading.specs.Outside.{ReadAt, ReadOf, read_to, refused_read}
use Rattle.reading.specs.declared.ReadRefusal.TheVariants.{Long}
use Rattle.tagset.specs.Grammar.{good_set, set_of}
use Rattle.history.specs.Readings.{Row, Turn}
use Rattle.bitmap.specs.Levels.{by_level}
use Rattle.bitmap.specs.Moves.{moves_in}
use Rattle.bitmap_reading.specs.Outside.{read_map_of}
use Rattle.bitmap_reading.specs.declared.Standing.{Standing}
use Rattle.bitmap_tables.specs.Building.{map_built_of, map_kinds}
use Rattle.matching.specs.Tags.{exact}

-- a bitmap table as building left it, of a set of bytes, over a lent run of numbers: its tags are exact ones
pub record MapAsBuilt (set run : List ℕ) (ts : List Word) : Type 0 where
  pub bytes : Below 256 set
  pub tags : set_of map_kinds set ≡ good_set (exact ts)
  pub answered : map_built_of set (length run) ≡ Ok (length ts)

-- what a row of readings comes to: the bytes taken, the records written, why each that was not refused stopped, the state then, and all their moves
pub record MapRow : Type 0 where
  pub taken : Word
  pub found : List Occurrence
  pub stops : List Stop
  pub state : ℕ
  pub moves : ℕ

abbrev pub map_row_then : Word → OutcomeOf Standing → MapRow → MapRow
map_row_then piece r w = record {
  taken = take r.taken piece ++ w.taken;
  found = r.found ++ w.found;
  stops = r.stop ∷ w.stops;
  state = w.state;
  moves = r.place.moves + w.moves;
}

-- by what a reading comes to: a refused one changes nothing
abbrev pub on_map_turn : ReadAt Standing → Word → MapRow → (OutcomeOf Standing → MapRow) → MapRow
on_map_turn (refused_read why) piece same more = same
on_map_turn (read_to r) piece same more = map_row_then piece r (more r)

-- readings one after another over one table, each from the state and the count at which the one before it ended
unfoldable pub map_in_turn : List ℕ → ℕ → ℕ → List Turn → MapRow
map_in_turn table state count [] = record { taken = []; found = []; stops = []; state = state; moves = 0 }
map_in_turn table state count (t ∷ turns) =
    on_map_turn (read_map_of table state count t.piece t.list) t.piece
    (map_in_turn table state count turns) (λ r. map_in_turn table r.place.state (count + r.taken) turns)

-- what a reading r of a piece after the input v comes to, with count bytes counted before and room for so many records: it is never damaged, finds the
-- occurrences that end in the bytes it takes, and takes every byte up to the first whose matches find no room; its state is the one after those bytes,
-- and its moves are the definition's for them, each paid for by a byte taken or by a byte of the prefix of the state that it starts from
pub record AsTags (ts : List Word) (v : Word) (count : ℕ) (piece : Word) (room : ℕ) (r : OutcomeOf Standing) : Type 0 where
  pub part : r.taken ≤ length piece
  pub found : r.found ≡ occurrences_from ts v count (take r.taken piece)
  pub fits : length r.found ≤ room
  pub stopped : ((r.stop ≡ All) × (r.taken ≡ length piece))
      ⊎ ((r.stop ≡ Full) × (r.taken < length piece) × (room < length r.found + length (tags_ending ts (v ++ take (suc r.taken) piece))))
  pub state : r.place.state ≡ walk (by_level ts) 0 (v ++ take r.taken piece)
  pub moves : r.place.moves ≡ moves_in (prefixes ts) v (take r.taken piece)
  pub few : r.place.moves ≤ length (longest (prefixes ts) v) + r.taken

-- a read after v: it is refused exactly where it is LONG, and else as `AsTags` says
pub data MapReads (ts : List Word) (v : Word) (count : ℕ) (piece : Word) (list : ℕ) : ReadAt Standing → Type 0 where
  is_long : largest < count + length piece → MapReads ts v count piece list (refused_read Long)
  is_read : count + length piece ≤ largest → (r : OutcomeOf Standing) → AsTags ts v count piece (list / 2) r → MapReads ts v count piece list (read_to r)

-- a row of readings from the start: its records are the occurrences in what it took, its state is the one after that, its moves are the definition's for
-- it, and no more than the bytes
pub record MapRowDone (ts : List Word) (w : MapRow) : Type 0 where
  pub found : w.found ≡ occurrences ts w.taken
  pub state : w.state ≡ walk (by_level ts) 0 w.taken
  pub moves : w.moves ≡ moves_in (prefixes ts) [] w.taken
  pub few : w.moves ≤ length w.taken

-- ---- beside the whole-byte machine

-- the states of two places have the same prefix, the longest suffix of an input that is a prefix of a tag
pub record SamePrefix (ts : List Word) (input : Word) (state : ℕ) (place : List ℕ) : Type 0 where
  pub whole : place ≡ walk (prefixes ts) 0 input ∷ []
  pub of-state : get_or (by_level ts) state [] ≡ longest (prefixes ts) input
  pub of-place : get_or (prefixes ts) (walk (prefixes ts) 0 input) [] ≡ longest (prefixes ts) input
  pub is_state : state < length (by_level ts)

-- a read after the input v over the bitmap table, and one over the whole-byte table: both are LONG; or both take the same bytes, find the same records
-- and stop for the same reason, and their places have the same prefix
pub data AlikeReads (ts : List Word) (v : Word) (count : ℕ) (piece : Word) : ReadAt Standing → ReadOf → Type 0 where
  both_long : largest < count + length piece → AlikeReads ts v count piece (refused_read Long) (refused_read Long)
  both_read : (r : OutcomeOf Standing) (r' : Outcome) → count + length piece ≤ largest
      → r.taken ≡ r'.taken → r.found ≡ r'.found → r.stop ≡ r'.stop
      → SamePrefix ts (v ++ take r.taken piece) r.place.state r'.place
      → AlikeReads ts v count piece (read_to r) (read_to r')

-- the same of two rows of readings from the start
pub record AlikeToWhole (ts : List Word) (a : MapRow) (b : Row) : Type 0 where
  pub taken : a.taken ≡ b.taken
  pub found : a.found ≡ b.found
  pub stops : a.stops ≡ b.stops
  pub prefix : SamePrefix ts a.taken a.state b.place
