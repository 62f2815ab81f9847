-- A read outside the desk, over any run of numbers: over any table, from any state and count, into a lent list of numbers.
use Rattle.std.specs.Prelude.{◌+◌, ◌/◌, ℕ, List, ◌≡◌, ltb, length}
use Rattle.matching.specs.Limits.{largest}
use Rattle.matching.specs.Words.{Word}
use Rattle.reading.specs.Outside.{ReadAt, answer_by, list_by, read_by}
use Rattle.reading.specs.declared.Answer.{Answer}
use Rattle.bitmap.specs.Slots.{slots_of}
use Rattle.bitmap_reading.specs.Reading.{read_map}
use Rattle.bitmap_reading.specs.declared.Standing.{Standing}

-- PLACE if the state is not below s, then LONG if the bytes taken and the piece pass the largest count; else it is read,
-- into a list of so many numbers, two a record
unfoldable pub read_map_of : List ℕ → ℕ → ℕ → Word → ℕ → ReadAt Standing
read_map_of table place count piece len =
    read_by (read_map (slots_of (length table)) table place count (len / 2) piece)
    (ltb place (slots_of (length table)))
    (ltb largest (count + length piece))

-- the answer: a refused read makes no move
abbrev pub map_by : ℕ → ReadAt Standing → Answer Standing
map_by place = answer_by (λ p. p) (record { state = place; moves = 0 })

-- a call's answer, and the list after it, by what the reading comes to
abbrev pub MapTells : Answer Standing → (place : ℕ) (before after : List ℕ) → ReadAt Standing → Type 0
MapTells r place before after x = (r ≡ map_by place x) × (after ≡ list_by before x)
