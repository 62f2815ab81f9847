-- What comes before the loop and after it.
use Rattle.std.specs.Prelude.{◌+◌, ℕ, List, ◌≡◌, ltb, length}
use Rattle.matching.specs.Parts.{Layout, Runs, lengths, place_below, slots_over}
use Rattle.matching.specs.Refusal.{first_of}
use Rattle.reading.specs.Outside.{read_number, read_of, refused_read}
use Rattle.reading.specs.Refusals.{read_grounds}
use Rattle.reading.specs.declared.ReadRefusal.{ReadRefusal}
use Rattle.reading.specs.Laws.Answers.{first-refused}

-- ---- the three ways

pub read-refused : (layout : Layout) (runs : Runs) (place : List ℕ) (count : ℕ) (piece : List ℕ) (len : ℕ) (slots : List ℕ)
    → slots ≡ slots_over layout (lengths runs)
    → (why : ReadRefusal) → read_number why ≡ first_of (read_grounds (place_below layout slots place) (ltb 4294967295 (count + length piece)))
    → read_of layout runs place count piece len ≡ refused_read why
unfolding read_of
read-refused layout runs place count piece len slots e why v = rw (← e)
    (first-refused _ (place_below layout slots place) (ltb 4294967295 (count + length piece)) why v)
