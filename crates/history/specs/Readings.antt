-- What demand 2 speaks of: readings one after another over a layout's tables as building left them, and what each of them is to come to.
use Rattle.std.specs.Prelude.{Ok}
use Rattle.matching.specs.declared.Stop.TheVariants as S
use Rattle.std.specs.Prelude.{◌+◌, ◌/◌, ◌<◌, ◌≤◌, suc, ℕ, List, [], ◌++◌, ◌∷◌, ◌≡◌, length, take}
use Rattle.matching.specs.Laws.Layouts.{Sliced}
use Rattle.matching.specs.Occurrence.{Occurrence}
use Rattle.matching.specs.Parts.{Layout, Runs, kinds_for, lengths, place_in}
use Rattle.matching.specs.Reading.{Outcome}
use Rattle.matching.specs.Words.{Below, Word}
use Rattle.matching.specs.declared.Stop.{Stop}
use Rattle.reading.specs.Outside.{ReadOf, read_of, read_to, refused_read}
use Rattle.reading.specs.declared.ReadRefusal.TheVariants.{Long}
use Rattle.tables.specs.Building.{built_of}
use Rattle.tagset.specs.Grammar.{good_set, set_of}
use Rattle.matching.specs.Tags.{Tags, found_from, tag_count, tags_at}
use Rattle.matching.specs.Limits.{largest}

-- one reading in a row: a piece, and how many numbers its lent list has
pub record Turn : Type 0 where
  pub piece : Word
  pub list : ℕ

-- what a row of readings comes to: the bytes taken, the records written, why each that was not refused stopped, and the place then
pub record Row : Type 0 where
  pub taken : Word
  pub found : List Occurrence
  pub stops : List Stop
  pub place : List ℕ

abbrev pub row_then : Word → Outcome → Row → Row
row_then piece r w = record { taken = take r.taken piece ++ w.taken; found = r.found ++ w.found; stops = r.stop ∷ w.stops; place = w.place }

-- by what a reading comes to: a refused one changes nothing
abbrev pub on_turn : ReadOf → Word → Row → (Outcome → Row) → Row
on_turn (refused_read why) piece same more = same
on_turn (read_to r) piece same more = row_then piece r (more r)

-- readings one after another over the same runs, each from the place and the count at which the one before it ended
unfoldable pub in_turn : Layout → Runs → List ℕ → ℕ → List Turn → Row
in_turn layout runs place count [] = record { taken = []; found = []; stops = []; place = place }
in_turn layout runs place count (t ∷ turns) =
    on_turn (read_of layout runs place count t.piece t.list) t.piece
    (in_turn layout runs place count turns) (λ r. in_turn layout runs r.place (count + r.taken) turns)

abbrev pub TurnsOfBytes : List Turn → Type 0
TurnsOfBytes [] = Unit {0}
TurnsOfBytes (t ∷ turns) = Below 256 t.piece × TurnsOfBytes turns

-- tables as building left them: of a set of bytes, over lent runs of numbers, one for each part of the layout
pub record AsBuilt (layout : Layout) (set : List ℕ) (runs : Runs) (tags : Tags) : Type 0 where
  pub sliced : Sliced layout
  pub bytes : Below 256 set
  pub good : set_of (kinds_for layout) set ≡ good_set tags
  pub answered : built_of layout set (lengths runs) ≡ Ok (tag_count tags)

-- what a piece read after the input v comes to, with room for so many records, as the demand has it: the reading is never damaged, finds the
-- occurrences that end in the bytes it takes, and takes every byte up to the first whose matches find no room. The new place is said where the layout
-- is known: `DemandedRead`
pub data Demanded (tags : Tags) (v piece : Word) (room : ℕ) : Outcome → Type 0 where
  took_all : (place : List ℕ) → length (found_from tags v (length v) piece) ≤ room
      → Demanded tags v piece room (record { taken = length piece; place = place; stop = S.All; found = found_from tags v (length v) piece })
  stopped_full : (place : List ℕ) (count : ℕ) → count < length piece
      → length (found_from tags v (length v) (take count piece)) ≤ room
      → room < length (found_from tags v (length v) (take count piece)) + length (tags_at tags (v ++ take (suc count) piece))
      → Demanded tags v piece room (record { taken = count; place = place; stop = S.Full; found = found_from tags v (length v) (take count piece) })

-- a read outside the desk, over a layout's tables, into a list of so many numbers: it is refused only where it is LONG, and else is as demanded, and
-- its new place is the place after the bytes that it has taken
pub data DemandedRead (layout : Layout) (tags : Tags) (v piece : Word) (list : ℕ) : ReadOf → Type 0 where
  is_long : largest < length v + length piece → DemandedRead layout tags v piece list (refused_read Long)
  is_read : length v + length piece ≤ largest → (r : Outcome) → Demanded tags v piece (list / 2) r
      → r.place ≡ place_in layout tags (v ++ take r.taken piece)
      → DemandedRead layout tags v piece list (read_to r)
