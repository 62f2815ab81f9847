-- WHAT A READ OVER ANY RUN OF NUMBERS PROMISES: when it is refused, exactly; that a refused one changes nothing; and what every one keeps.
use Rattle.std.specs.Prelude.{Err, ◌*◌, ◌+◌, ◌/◌, ◌<◌, ◌≤◌, ℕ, Bool, List, [], Some, ◌↔◌, ◌≡◌, refl, ltb, get_or}
use Rattle.std.proofs.Common.{◌∙◌, ap, subst, arith}
use Rattle.std.proofs.Math.ListN.{length}
use borrow.Author.Tests.{le-ltb, lt-ltb, ltb-false, ltb-true}
use Rattle.matching.specs.Refusal.{first_of}
use Rattle.matching.specs.Stepping.{OutcomeOf, goes_to, is_damaged}
use Rattle.matching.specs.Words.{Word}
use Rattle.reading.specs.Laws.Outside.{KeptBy, answer-number, answer-refused, by_grounds, by_keeps, by-long_iff, by_number, by-place_iff, number_by}
use Rattle.reading.specs.Outside.{Ending, ReadAt, list_by, read_to, refused_read}
use Rattle.reading.specs.Refusals.{RefusedWith, ending_number, read_grounds}
use Rattle.reading.specs.declared.ReadRefusal.{ReadRefusal}
use Rattle.reading.specs.declared.ReadRefusal.TheVariants.{Long, Place}
use Rattle.bitmap.specs.Slots.{slots_of}
use Rattle.bitmap_reading.specs.Outside.{map_by, read_map_of}
use Rattle.bitmap_reading.specs.Reading.{landed, map_step, read_map}
use Rattle.bitmap_reading.specs.declared.Standing.{Standing}
use Rattle.matching.specs.Laws.Stepping.{Rising, Why, read_by-ordered, went}
use Rattle.matching.specs.Laws.AnyTable.{ones_of_rising}
use Rattle.matching.specs.Occurrence.{Ordered}
use Rattle.matching.specs.Reading.{ones_of}
use Rattle.bitmap.specs.Steps.{Step, Wrong, step, vector_at}
use Rattle.bitmap.specs.Ways.{Way}
use Rattle.bitmap.specs.Laws.Ways.{way_iff}

-- the answer names the refusal, and their number is that of the read, as in every layout
map-refused_iff : (place : ℕ) (r : ReadAt Standing) (why : ReadRefusal) → ((map_by place r).ending ≡ Err why) ↔ (r ≡ refused_read why)
map-refused_iff place r why = answer-refused (λ p. p) (record { state = place; moves = 0 }) r why

map-number : (place : ℕ) (r : ReadAt Standing) → ending_number (map_by place r).ending ≡ number_by r
map-number place r = answer-number (λ p. p) (record { state = place; moves = 0 }) r

module _ (table : List ℕ) (place count : ℕ) (piece : Word) (len : ℕ) where
  abbrev slots : ℕ
  slots = slots_of (length table)

  abbrev from : Standing
  from = record { state = place; moves = 0 }

  abbrev answer : ReadAt Standing
  answer = read_map_of table place count piece len

  abbrev ending : Ending
  ending = (map_by place answer).ending

  -- 15, PLACE, with nothing returned, exactly if the state is not below s
  pub map-place_iff : RefusedWith ending 15 [] ↔ (slots ≤ place)
  unfolding read_map_of
  map-place_iff = (
    λ w. ltb-false place slots ((by-place_iff read sound long).0 ((answer-refused (λ p. p) from answer Place).0 ((by_number Place ending).0 w))),
    λ h. (by_number Place ending).1 ((answer-refused (λ p. p) from answer Place).1 ((by-place_iff read sound long).1 (le-ltb place slots h))),
  )
    where
      read : OutcomeOf Standing
      read = read_map slots table place count (len / 2) piece

      sound : Bool
      sound = ltb place slots

      long : Bool
      long = ltb 4294967295 (count + length piece)

  -- 14, LONG, exactly if the state is below s, and the bytes taken and the piece pass 4,294,967,295
  pub map-long_iff : RefusedWith ending 14 [] ↔ ((place < slots) × (4294967295 < count + length piece))
  unfolding read_map_of
  map-long_iff = (
    λ w.
        let e = (by-long_iff read sound long).0 ((answer-refused (λ p. p) from answer Long).0 ((by_number Long ending).0 w)) in
        (ltb-true place slots e.0, ltb-true 4294967295 (count + length piece) e.1),
    λ h. (by_number Long ending).1
        ((answer-refused (λ p. p) from answer Long).1 ((by-long_iff read sound long).1 (lt-ltb place slots h.0, lt-ltb 4294967295 (count + length piece) h.1))),
  )
    where
      read : OutcomeOf Standing
      read = read_map slots table place count (len / 2) piece

      sound : Bool
      sound = ltb place slots

      long : Bool
      long = ltb 4294967295 (count + length piece)

  -- the same in order: the number is that of the first ground that holds
  pub map_refusals : ending_number ending ≡ first_of (read_grounds (ltb place slots) (ltb 4294967295 (count + length piece)))
  unfolding read_map_of
  map_refusals =
      answer-number (λ p. p) from answer ∙ by_grounds (read_map slots table place count (len / 2) piece) (ltb place slots) (ltb 4294967295 (count + length piece))

-- what every read keeps: it takes no more than the piece, writes no more than the room, keeps the list's length and the room that it does not use; with
-- 0 taken the place, the list and the moves are what they were; and it stops ALL only if the piece is taken
pub map_keeps : (table : List ℕ) (place count : ℕ) (piece : Word) (list : List ℕ)
    → KeptBy (record { state = place; moves = 0 }) piece list (read_map_of table place count piece (length list))
unfolding read_map_of read_map
map_keeps table place count piece list =
    by_keeps (record { state = place; moves = 0 }) piece list (map_step (slots_of (length table)) table) count (ltb place (slots_of (length table)))
    (ltb 4294967295 (count + length piece))

-- REFUSED, NOTHING CHANGES: nothing is taken and nothing written, no move is told of, and place and list are what they were
pub map-refused-same : (place : ℕ) (list : List ℕ) (r : ReadAt Standing) (why : ReadRefusal) → (map_by place r).ending ≡ Err why
    → (map_by place r ≡ record { taken = 0; place = record { state = place; moves = 0 }; records = 0; ending = Err why }) × (list_by list r ≡ list)
map-refused-same place list (refused_read w) why e = (ap (λ (x : Ending). record { taken = 0; place = record { state = place; moves = 0 }; records = 0; ending = x }) e, refl)
map-refused-same place list (read_to o) why e = absurd (let z : ◌≡◌ {A = ℕ} 0 1 = cc in omega arith)

-- an odd last number is never used
pub map_odd_kept : (table : List ℕ) (place count : ℕ) (piece : Word) (list : List ℕ) (i : ℕ) → 2 * (length list / 2) ≤ i
    → get_or (list_by list (read_map_of table place count piece (length list))) i 0 ≡ get_or list i 0
map_odd_kept table place count piece list i h = let k = map_keeps table place count piece list in k.unused i (omega (arith, k.fits))

-- NOTHING TAKEN, over any run of numbers: refused, or stopped before the first byte, or an empty piece; place and list are what they were, and no
-- record and no move is told of
pub map_idle : (table : List ℕ) (place count : ℕ) (piece : Word) (list : List ℕ)
    → (map_by place (read_map_of table place count piece (length list))).taken ≡ 0
    → ((map_by place (read_map_of table place count piece (length list))).place.state ≡ place)
    × ((map_by place (read_map_of table place count piece (length list))).records ≡ 0)
    × ((map_by place (read_map_of table place count piece (length list))).place.moves ≡ 0)
    × (list_by list (read_map_of table place count piece (length list)) ≡ list)
map_idle table place count piece list e = go _ (map_keeps table place count piece list) e
  where
    go : (r : ReadAt Standing) → KeptBy (record { state = place; moves = 0 }) piece list r → (map_by place r).taken ≡ 0
        → ((map_by place r).place.state ≡ place) × ((map_by place r).records ≡ 0) × ((map_by place r).place.moves ≡ 0) × (list_by list r ≡ list)
    go (refused_read why) k e = (refl, refl, refl, refl)
    go (read_to o) k e = let i = k.idle e in (ap (λ (x : Standing). x.state) i.0, i.1, ap (λ (x : Standing). x.moves) i.0, i.2)

-- why a reading over any run of numbers stops: at the piece's end; or FULL before a byte whose matches find no room; or DAMAGED before a byte on whose
-- way a number is wrong
pub map-stops : (s : ℕ) (table : List ℕ) (place count room : ℕ) (piece : Word) → Why (map_step s table) room piece (read_map s table place count room piece)
unfolding read_map
map-stops s table place count room piece = (went (map_step s table) piece (record { state = place; moves = 0 }) count room).why

-- and that is just where the byte's way is wrong, in the rules' words: a child that is no state, or a failure state that is not below its own
pub map_damaged_iff : (s : ℕ) (table : List ℕ) (at : Standing) (c : ℕ) → (map_step s table at c ≡ is_damaged) ↔ Way s table c at.state Wrong
unfolding map_step
map_damaged_iff s table at c = (
  λ e. (way_iff s table c at.state Wrong).0 (go (step s table at.state c) e),
  λ w. ap (landed table at.moves) ((way_iff s table c at.state Wrong).1 w),
)
  where
    go : (t : Step) → landed table at.moves t ≡ is_damaged → t ≡ Wrong
    go (Some t) e = absurd (let z : ◌≡◌ {A = ℕ} 0 1 = cc in omega arith)
    go Wrong e = refl

-- the tags of a step rise, and so the records are by end, then by tag number
landed_rising : (table : List ℕ) (moves : ℕ) (t : Step) (to : Standing) (tags : List ℕ) → landed table moves t ≡ goes_to to tags → Rising tags
landed_rising table moves (Some t) to tags e =
    let same : ones_of 0 16 (vector_at table t.state) ≡ tags = cc in
    subst Rising same (ones_of_rising 16 0 (vector_at table t.state))
landed_rising table moves Wrong to tags e = absurd (let z : ◌≡◌ {A = ℕ} 0 1 = cc in omega arith)

pub map-ordered : (s : ℕ) (table : List ℕ) (place count room : ℕ) (piece : Word) → Ordered (read_map s table place count room piece).found
unfolding read_map map_step
map-ordered s table place count room piece =
    read_by-ordered (map_step s table) (λ p c to tags e. landed_rising table p.moves (step s table p.state c) to tags e) piece
    (record { state = place; moves = 0 }) count room
