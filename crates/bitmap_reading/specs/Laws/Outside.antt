-- What comes before the loop and after it.
use Rattle.std.specs.Prelude.{◌+◌, ◌/◌, ℕ, false, true, List, ◌≡◌, ltb}
use Rattle.std.proofs.Common.{◌∙◌, ap, arith, length-append, length-drop}
use Rattle.std.proofs.Math.ListN.{length}
use Rattle.matching.specs.Laws.Stepping.{went}
use Rattle.matching.specs.Refusal.{first_of}
use Rattle.matching.specs.Stepping as stepping
use Rattle.bitmap_reading.specs.declared.Standing.{Standing}
use Rattle.reading.specs.Laws.Answers.{first-refused}
use Rattle.reading.specs.Laws.Records.{flat-length}
use Rattle.reading.specs.Outside.{read_number, read_to, refused_read}
use Rattle.reading.specs.Refusals.{read_grounds}
use Rattle.reading.specs.Walks.{list_of}
use Rattle.reading.specs.declared.ReadRefusal.{ReadRefusal}
use Rattle.bitmap.specs.Slots.{slots_of}
use Rattle.bitmap_reading.specs.Outside.{read_map_of}
use Rattle.bitmap_reading.specs.Reading.{map_step, read_map}

module _ (table : List ℕ) (place count : ℕ) (piece : List ℕ) (len s : ℕ) (e : s ≡ slots_of (length table)) where
  pub map-refused : (why : ReadRefusal) → read_number why ≡ first_of (read_grounds (ltb place s) (ltb 4294967295 (count + length piece)))
      → read_map_of table place count piece len ≡ refused_read why
  unfolding read_map_of
  map-refused why v = rw (← e) (first-refused _ (ltb place s) (ltb 4294967295 (count + length piece)) why v)

  pub map-reads : ltb place s ≡ true → ltb 4294967295 (count + length piece) ≡ false
      → read_map_of table place count piece len ≡ read_to (read_map s table place count (len / 2) piece)
  unfolding read_map_of
  map-reads b h = rw (← e, b, h)

-- the list keeps its length
pub map-list-long : (s : ℕ) (table : List ℕ) (place count : ℕ) (piece l l' : List ℕ) → l' ≡ list_of l (read_map s table place count (length l / 2) piece)
    → length l' ≡ length l
unfolding read_map
map-list-long s table place count piece l l' e =
    let first : Standing = record { state = place; moves = 0 } in
    let o = stepping.read_by (map_step s table) first count (length l / 2) piece in
    ap length e ∙ simp (length-append, length-drop) (omega (arith, flat-length o.found, (went (map_step s table) piece first count (length l / 2)).fits))
