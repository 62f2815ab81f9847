-- What a read outside the desk promises, over ANY tables, place, count, piece and list.
use Prim.Native.Nat.{◌*◌, ◌+◌, ◌-◌, ◌/◌, ◌<◌, ◌≤◌, zero-le, ℕ}
use Rattle.std.specs.Prelude.{Err, Ok, Bool, false, true, ◌↔◌, ◌⊎◌, ltb}
use mathlib.Core.List.{List, [], ◌++◌, ◌∷◌}
use Rattle.std.proofs.Common.{inl, inr, ◌∙◌, sym, length-append, length-drop, get_or-append-add, get_or-drop, ltb-false, ltb-true}
use Rattle.std.proofs.Math.Path.{◌≡◌, ap, refl}
use native.Mathlib.Omega.{arith}
use Rattle.std.proofs.Math.ListN.{drop, get_or, length}
use Rattle.matching.specs.Laws.Bools.{decided, not-both}
use Rattle.matching.proofs.Laws.Parts.{kept_in}
use Rattle.matching.specs.Laws.Stepping.{went}
use Rattle.matching.specs.Occurrence.{Occurrence, flat}
use Rattle.matching.specs.Parts.{Layout, Runs, lengths, place_below, read_in, slots_over, split_layout, step_in, whole_layout, width}
use Rattle.matching.specs.Refusal.{first_of}
use Rattle.matching.specs.Stepping.{OutcomeOf, Step}
use Rattle.matching.specs.Stepping as stepping
use Rattle.matching.specs.Words.{Word}
use Rattle.matching.specs.declared.Stop.{Stop}
use Rattle.matching.specs.declared.Stop.TheVariants.{All}
use Rattle.reading.specs.Laws.Answers.{NoState, States, below_all, below-not, read_goes, read-long, read-place}
use Rattle.reading.specs.Laws.Records.{flat-length}
use Rattle.reading.specs.Outside.{Ending, ReadAt, ReadOf, answer_by, list_by, own_slots, read_by, read_number, read_of, read_to, refused_read, slots_for, split_by, whole_by}
use Rattle.reading.specs.Refusals.{RefusedWith, ending_number, read_grounds}
use Rattle.reading.specs.declared.ReadRefusal.{ReadRefusal}
use Rattle.reading.specs.declared.ReadRefusal.TheVariants.{Long, Place}

-- ---- when it is refused

module _ (layout : Layout) (runs : Runs) (place : List ℕ) (wide : length place ≡ width layout) (count : ℕ) (piece : Word) (len : ℕ) where
  abbrev own : List ℕ
  own = own_slots layout (slots_over layout (lengths runs))

  abbrev sound : Bool
  sound = place_below layout (slots_over layout (lengths runs)) place

  abbrev long : Bool
  long = ltb 4294967295 (count + length piece)

  abbrev answer : ReadOf
  answer = read_of layout runs place count piece len

  -- the three ways, each with its condition
  pub data Judged : ReadOf → Type 0 where
    not-a-state : NoState own place → Judged (refused_read Place)
    too_many-bytes : States own place → 4294967295 < count + length piece → Judged (refused_read Long)
    is_read : States own place → count + length piece ≤ 4294967295 → Judged (read_to (read_in layout runs place count (len / 2) piece))

  pub judged : Judged answer
  judged = go (decided sound) (decided long)
    where
      slots : List ℕ
      slots = slots_over layout (lengths runs)

      go : (sound ≡ true) ⊎ (sound ≡ false) → (long ≡ true) ⊎ (long ≡ false) → Judged answer
      go (inr b) h = rw (read-place layout runs place count piece len slots refl b) (not-a-state (below-not layout slots place wide b))
      go (inl b) (inl h) =
          rw (read-long layout runs place count piece len slots refl b h)
          (too_many-bytes (below_all layout slots place wide b) (ltb-true 4294967295 (count + length piece) h))
      go (inl b) (inr h) =
          rw (read_goes layout runs place count piece len slots refl b h)
          (is_read (below_all layout slots place wide b) (ltb-false 4294967295 (count + length piece) h))

  -- PLACE exactly if a state is not below the s of its own table
  pub place_iff : (answer ≡ refused_read Place) ↔ ((i : ℕ) × ((i < length place) × (slots_for layout runs i ≤ get_or place i 0)))
  place_iff = (there answer judged, back answer judged)
    where
      there : (r : ReadOf) → Judged r → r ≡ refused_read Place → NoState own place
      there r (not-a-state w) e = w
      there r (too_many-bytes f h) e = let z : ◌≡◌ {A = ℕ} 0 1 = cc in absurd (omega arith)
      there r (is_read f h) e = let z : ◌≡◌ {A = ℕ} 0 1 = cc in absurd (omega arith)

      back : (r : ReadOf) → Judged r → NoState own place → r ≡ refused_read Place
      back r (not-a-state x) w = refl
      back r (too_many-bytes f h) w = absurd (omega (arith, f w.0 w.1.0, w.1.1))
      back r (is_read f h) w = absurd (omega (arith, f w.0 w.1.0, w.1.1))

  -- LONG exactly if each state is below the s of its own table, and the bytes taken and the piece pass 4,294,967,295
  pub long_iff : (answer ≡ refused_read Long) ↔ (States own place × (4294967295 < count + length piece))
  long_iff = (there answer judged, back answer judged)
    where
      there : (r : ReadOf) → Judged r → r ≡ refused_read Long → States own place × (4294967295 < count + length piece)
      there r (not-a-state w) e = let z : ◌≡◌ {A = ℕ} 0 1 = cc in absurd (omega arith)
      there r (too_many-bytes f h) e = (f, h)
      there r (is_read f h) e = let z : ◌≡◌ {A = ℕ} 0 1 = cc in absurd (omega arith)

      back : (r : ReadOf) → Judged r → States own place × (4294967295 < count + length piece) → r ≡ refused_read Long
      back r (not-a-state x) w = absurd (omega (arith, w.0 x.0 x.1.0, x.1.1))
      back r (too_many-bytes f h) w = refl
      back r (is_read f h) w = absurd (omega (arith, w.1, h))

  -- and otherwise it is read
  pub read_iff : (answer ≡ read_to (read_in layout runs place count (len / 2) piece)) ↔ (States own place × (count + length piece ≤ 4294967295))
  read_iff = (there answer judged, back answer judged)
    where
      there : (r : ReadOf) → Judged r → r ≡ read_to (read_in layout runs place count (len / 2) piece)
          → States own place × (count + length piece ≤ 4294967295)
      there r (not-a-state w) e = let z : ◌≡◌ {A = ℕ} 0 1 = cc in absurd (omega arith)
      there r (too_many-bytes f h) e = let z : ◌≡◌ {A = ℕ} 0 1 = cc in absurd (omega arith)
      there r (is_read f h) e = (f, h)

      back : (r : ReadOf) → Judged r → States own place × (count + length piece ≤ 4294967295)
          → r ≡ read_to (read_in layout runs place count (len / 2) piece)
      back r (not-a-state x) w = absurd (omega (arith, w.0 x.0 x.1.0, x.1.1))
      back r (too_many-bytes f h) w = absurd (omega (arith, w.1, h))
      back r (is_read f h) w = refl

-- by the two tests: PLACE exactly if the first fails, LONG exactly if the first holds and the second too
module _ {P : Type 0} (r : OutcomeOf P) where
  pub by-place_iff : (sound long : Bool) → (read_by r sound long ≡ refused_read Place) ↔ (sound ≡ false)
  by-place_iff false long = (λ e. refl, λ e. refl)
  by-place_iff true true = (λ e. let z : ◌≡◌ {A = ℕ} 0 1 = cc in absurd (omega arith), λ e. absurd (not-both refl e))
  by-place_iff true false = (λ e. let z : ◌≡◌ {A = ℕ} 0 1 = cc in absurd (omega arith), λ e. absurd (not-both refl e))

  pub by-long_iff : (sound long : Bool) → (read_by r sound long ≡ refused_read Long) ↔ ((sound ≡ true) × (long ≡ true))
  by-long_iff false long = (λ e. let z : ◌≡◌ {A = ℕ} 0 1 = cc in absurd (omega arith), λ e. absurd (not-both e.0 refl))
  by-long_iff true true = (λ e. (refl, refl), λ e. refl)
  by-long_iff true false = (λ e. let z : ◌≡◌ {A = ℕ} 0 1 = cc in absurd (omega arith), λ e. absurd (not-both e.1 refl))

-- the number of a read, 0 where it is not refused
abbrev pub number_by : {P : Type 0} → ReadAt P → ℕ
number_by (refused_read why) = read_number why
number_by (read_to r) = 0

-- PLACE, then LONG: the number is that of the first ground that holds
pub by_grounds : {P : Type 0} (r : OutcomeOf P) (sound long : Bool) → number_by (read_by r sound long) ≡ first_of (read_grounds sound long)
unfolding first_of
by_grounds r false long = refl
by_grounds r true true = refl
by_grounds r true false = refl

-- the answers name the refusal
pub answer-refused : {P Q : Type 0} (at : P → Q) (place : Q) (r : ReadAt P) (why : ReadRefusal)
    → ((answer_by at place r).ending ≡ Err why) ↔ (r ≡ refused_read why)
answer-refused at place (refused_read w) why = (λ e. cc, λ e. cc)
answer-refused at place (read_to o) why =
    (λ e. let z : ◌≡◌ {A = ℕ} 0 1 = cc in absurd (omega arith), λ e. let z : ◌≡◌ {A = ℕ} 0 1 = cc in absurd (omega arith))

pub split-refused : (place : List ℕ) (r : ReadOf) (why : ReadRefusal) → ((split_by place r).ending ≡ Err why) ↔ (r ≡ refused_read why)
split-refused = answer-refused (λ p. p)

pub whole-refused : (place : ℕ) (r : ReadOf) (why : ReadRefusal) → ((whole_by place r).ending ≡ Err why) ↔ (r ≡ refused_read why)
whole-refused = answer-refused (λ p. get_or p 0 0)

-- and their number is that of the read
pub answer-number : {P Q : Type 0} (at : P → Q) (place : Q) (r : ReadAt P) → ending_number (answer_by at place r).ending ≡ number_by r
answer-number at place (refused_read why) = refl
answer-number at place (read_to o) = refl

-- a number is one refusal's
pub by_number : (why : ReadRefusal) (ending : Ending) → RefusedWith ending (read_number why) [] ↔ (ending ≡ Err why)
by_number why ending =
    (λ w. w.refused ∙ ap Err (same w.why why w.number_is), λ e. record { why = why; refused = e; number_is = refl; values_are = refl })
  where
    same : (a b : ReadRefusal) → read_number a ≡ read_number b → a ≡ b
    same Place Place e = refl
    same Place Long e = absurd (omega (arith, e))
    same Long Place e = absurd (omega (arith, e))
    same Long Long e = refl

-- ---- what it keeps

-- an answer, whatever its places are
abbrev pub taken_by : {P : Type 0} → ReadAt P → ℕ
taken_by (refused_read why) = 0
taken_by (read_to r) = r.taken

abbrev pub place_by : {P : Type 0} → P → ReadAt P → P
place_by place (refused_read why) = place
place_by place (read_to r) = r.place

abbrev pub records_by : {P : Type 0} → ReadAt P → ℕ
records_by (refused_read why) = 0
records_by (read_to r) = length r.found

abbrev pub ending_by : {P : Type 0} → ReadAt P → Ending
ending_by (refused_read why) = Err why
ending_by (read_to r) = Ok r.stop

pub split-is : (place : List ℕ) (r : ReadOf) → split_by place r
    ≡ record { taken = taken_by r; place = place_by place r; records = records_by r; ending = ending_by r }
split-is place (refused_read why) = refl
split-is place (read_to r) = refl

pub whole_is : (place : ℕ) (r : ReadOf) → whole_by place r
    ≡ record { taken = taken_by r; place = get_or (place_by (place ∷ []) r) 0 0; records = records_by r; ending = ending_by r }
whole_is place (refused_read why) = refl
whole_is place (read_to r) = refl

-- what every read has done to its list and place
pub record KeptBy {P : Type 0} (place : P) (piece : Word) (list : List ℕ) (r : ReadAt P) : Type 0 where
  pub part : taken_by r ≤ length piece
  pub fits : records_by r ≤ length list / 2
  pub long : length (list_by list r) ≡ length list
  pub unused : (i : ℕ) → 2 * records_by r ≤ i → get_or (list_by list r) i 0 ≡ get_or list i 0
  pub idle : taken_by r ≡ 0 → (place_by place r ≡ place) × (records_by r ≡ 0) × (list_by list r ≡ list)
  pub whole : (ending_by r ≡ Ok All) → taken_by r ≡ length piece

behind : (xs l : List ℕ) (i : ℕ) → length xs ≤ i → length xs ≤ length l → get_or (xs ++ drop (length xs) l) i 0 ≡ get_or l i 0
behind xs l i h fits =
    let z : i ≡ length xs + (i - length xs) = omega arith in
    ap (λ (j : ℕ). get_or (xs ++ drop (length xs) l) j 0) z
    ∙ get_or-append-add xs (drop (length xs) l) (i - length xs) 0 ∙ get_or-drop (length xs) l (i - length xs) 0 ∙ ap (λ (j : ℕ). get_or l j 0) (sym z)

module _ {P : Type 0} (place : P) (piece : Word) (list : List ℕ) where
  refused_keeps : (why : ReadRefusal) → KeptBy place piece list (refused_read why)
  refused_keeps why = record {
    part = zero-le;
    fits = zero-le;
    long = refl;
    unused = λ i h. refl;
    idle = λ e. (refl, refl, refl);
    whole = λ e. let z : ◌≡◌ {A = ℕ} 0 1 = cc in absurd (omega arith);
  }

  module _ (step : Step P) (count : ℕ) where
    step_keeps : KeptBy place piece list (read_to (stepping.read_by step place count (length list / 2) piece))
    unfolding flat
    step_keeps =
        let o = stepping.read_by step place count (length list / 2) piece in
        let k = went step piece place count (length list / 2) in
        let room : length (flat o.found) ≤ length list = omega (arith, flat-length o.found, k.fits) in
        record {
          part = k.part;
          fits = k.fits;
          long = simp (length-append, length-drop) (omega (arith, room));
          unused = λ i h. behind (flat o.found) list i (omega (arith, flat-length o.found)) room;
          idle = λ e. ((k.idle e).0, ap length (k.idle e).1, none o.found list (k.idle e).1);
          whole = λ e. k.whole.0 (stopped-is o.stop All e);
        }
      where
        none : (os : List Occurrence) (l : List ℕ) → os ≡ [] → flat os ++ drop (length (flat os)) l ≡ l
        none [] l e = refl
        none (x ∷ os) l e = let z : ◌≡◌ {A = ℕ} 0 1 = cc in absurd (omega arith)

        stopped-is : (a b : Stop) → ◌≡◌ {A = Ending} (Ok a) (Ok b) → a ≡ b
        stopped-is a b e = cc

    -- by any step, refused or not
    pub by_keeps : (sound long : Bool) → KeptBy place piece list (read_by (stepping.read_by step place count (length list / 2) piece) sound long)
    by_keeps false long = refused_keeps Place
    by_keeps true true = refused_keeps Long
    by_keeps true false = step_keeps

-- over the tables of a layout a place has as many states as it had
pub record ReadKept (layout : Layout) (place : List ℕ) (piece : Word) (list : List ℕ) (r : ReadOf) : Type 0 where
  pub kept : KeptBy place piece list r
  pub wide : length place ≡ width layout → length (place_by place r) ≡ width layout

pub read_keeps : (layout : Layout) (runs : Runs) (place : List ℕ) (count : ℕ) (piece : Word) (list : List ℕ)
    → ReadKept layout place piece list (read_of layout runs place count piece (length list))
unfolding read_of read_in
read_keeps layout runs place count piece list = record {
  kept = by_keeps place piece list (step_in layout runs) count (place_below layout slots place) (ltb 4294967295 (count + length piece));
  wide = go (place_below layout slots place) (ltb 4294967295 (count + length piece));
}
  where
    slots : List ℕ
    slots = slots_over layout (lengths runs)

    go : (sound long : Bool) → length place ≡ width layout
        → length (place_by place (read_by (read_in layout runs place count (length list / 2) piece) sound long)) ≡ width layout
    go false long w = w
    go true true w = w
    go true false w = (kept_in layout runs place count (length list / 2) piece).wide w

-- an odd last number is never used
pub odd_kept : (layout : Layout) (runs : Runs) (place : List ℕ) (count : ℕ) (piece : Word) (list : List ℕ) (i : ℕ) → 2 * (length list / 2) ≤ i
    → get_or (list_by list (read_of layout runs place count piece (length list))) i 0 ≡ get_or list i 0
odd_kept layout runs place count piece list i h =
    let g = (read_keeps layout runs place count piece list).kept in
    g.unused i (omega (arith, g.fits))

-- refused: nothing is taken, nothing written, and place and list are what they were
pub refused-same : {P : Type 0} (place : P) (list : List ℕ) (r : ReadAt P) (why : ReadRefusal) → r ≡ refused_read why
    → (taken_by r ≡ 0) × ((records_by r ≡ 0) × ((place_by place r ≡ place) × (list_by list r ≡ list)))
refused-same place list r why e = rw e (refl, (refl, (refl, refl)))

-- NOTHING TAKEN, over any tables: refused, or stopped FULL or DAMAGED before the first byte, or an empty piece; place and list are what they were, and
-- no record is told of
module _ (first second place : List ℕ) (count : ℕ) (piece : Word) (list : List ℕ) where
  abbrev reads : ReadOf
  reads = read_of split_layout (first ∷ second ∷ []) place count piece (length list)

  pub split_idle : (split_by place reads).taken ≡ 0 → ((split_by place reads).place ≡ place) × ((split_by place reads).records ≡ 0) × (list_by list reads ≡ list)
  split_idle e = go reads (read_keeps split_layout (first ∷ second ∷ []) place count piece list) e
    where
      go : (r : ReadOf) → ReadKept split_layout place piece list r → (split_by place r).taken ≡ 0
          → ((split_by place r).place ≡ place) × ((split_by place r).records ≡ 0) × (list_by list r ≡ list)
      go (refused_read why) k e = (refl, refl, refl)
      go (read_to o) k e = k.kept.idle e

module _ (table : List ℕ) (place count : ℕ) (piece : Word) (list : List ℕ) where
  abbrev reads_whole : ReadOf
  reads_whole = read_of whole_layout (table ∷ []) (place ∷ []) count piece (length list)

  pub whole_idle : (whole_by place reads_whole).taken ≡ 0
      → ((whole_by place reads_whole).place ≡ place) × ((whole_by place reads_whole).records ≡ 0) × (list_by list reads_whole ≡ list)
  whole_idle e = go reads_whole (read_keeps whole_layout (table ∷ []) (place ∷ []) count piece list) e
    where
      go : (r : ReadOf) → ReadKept whole_layout (place ∷ []) piece list r → (whole_by place r).taken ≡ 0
          → ((whole_by place r).place ≡ place) × ((whole_by place r).records ≡ 0) × (list_by list r ≡ list)
      go (refused_read why) k e = (refl, refl, refl)
      go (read_to o) k e = (ap (λ (l : List ℕ). get_or l 0 0) (k.kept.idle e).0, (k.kept.idle e).1, (k.kept.idle e).2)
