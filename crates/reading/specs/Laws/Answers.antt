-- What comes before the loop and after it.
use Rattle.std.specs.Prelude.{Ok, ◌+◌, ◌-◌, ◌/◌, ◌<◌, ◌≤◌, suc, ℕ, Bool, ◌&&◌, false, true, List, [], ◌++◌, ◌∷◌, ◌⊎◌, ◌≡◌, ltb, drop, length, replicate, take}
use Rattle.std.proofs.Common.{inl, inr, ◌∙◌, sym, arith, length-drop, get_or-append-add, get_or-drop, get_or-take, length-take-le, lt-ltb, ltb-false, ltb-true}
use Rattle.std.proofs.Math.Path.{refl, subst}
use Rattle.std.proofs.Math.Decide.{dec_lt}
use Rattle.std.proofs.Math.ListN.{get_or-append, get_or, get_or-replicate, length-replicate}
use Rattle.matching.specs.Laws.Bools.{and_l, and_r, both_ways, decided, not-both}
use Rattle.matching.specs.Kinds.{exact_kind}
use Rattle.matching.proofs.Laws.Parts.{kept_in, one-part-read}
use Rattle.matching.specs.Laws.Stepping.{went}
use Rattle.matching.specs.Limits.{most_slots}
use Rattle.matching.specs.Parts.{Layout, Part, Runs, lengths, part, place_below, read_in, slots_over, whole_layout, width}
use Rattle.matching.specs.Reading.{all_below, read}
use Rattle.matching.specs.Table.{slots_in}
use Rattle.matching.specs.Refusal.{first_of}
use Rattle.matching.specs.Stepping.{OutcomeOf}
use Rattle.passing.specs.Laws.Below.{below_get}
use Rattle.reading.specs.Outside.{ReadAt, answer_by, list_by, own_slots, read_by, read_number, read_of, read_to, refused_read}
use Rattle.reading.specs.Refusals.{read_grounds}
use Rattle.reading.specs.Walks.{list_of, went_by}
use Rattle.reading.specs.declared.ReadRefusal.{ReadRefusal}
use Rattle.reading.specs.declared.ReadRefusal.TheVariants.{Long, Place}
use Rattle.reading.specs.declared.went.Went.{Went}

-- the sum passes the largest count exactly if the piece is longer than what is left of it
pub long_same : (count len : ℕ) → count ≤ 4294967295 → ltb (4294967295 - count) len ≡ ltb 4294967295 (count + len)
long_same count len h =
    both_ways (ltb (4294967295 - count) len) (ltb 4294967295 (count + len))
    (λ e. lt-ltb 4294967295 (count + len) (omega (arith, ltb-true (4294967295 - count) len e)))
    (λ e. lt-ltb (4294967295 - count) len (omega (arith, ltb-true 4294967295 (count + len) e)))

-- ---- the three ways

module _ (layout : Layout) (runs : Runs) (place : List ℕ) (count : ℕ) (piece : List ℕ) (len : ℕ) (slots : List ℕ)
    (e : slots ≡ slots_over layout (lengths runs)) where
  pub read-place : place_below layout slots place ≡ false → read_of layout runs place count piece len ≡ refused_read Place
  unfolding read_of
  read-place b = rw (← e, b)

  pub read-long : place_below layout slots place ≡ true → ltb 4294967295 (count + length piece) ≡ true
      → read_of layout runs place count piece len ≡ refused_read Long
  unfolding read_of
  read-long b h = rw (← e, b, h)

  pub read_goes : place_below layout slots place ≡ true → ltb 4294967295 (count + length piece) ≡ false
      → read_of layout runs place count piece len ≡ read_to (read_in layout runs place count (len / 2) piece)
  unfolding read_of
  read_goes b h = rw (← e, b, h)

-- by the number of the code's verdict
pub first-refused : {P : Type 0} (r : OutcomeOf P) (sound long : Bool) (why : ReadRefusal) → read_number why ≡ first_of (read_grounds sound long)
    → read_by r sound long ≡ refused_read why
unfolding first_of
first-refused r false long Place e = refl
first-refused r false long Long e = absurd (omega (arith, e))
first-refused r true true Place e = absurd (omega (arith, e))
first-refused r true true Long e = refl
first-refused r true false Place e = absurd (omega (arith, e))
first-refused r true false Long e = absurd (omega (arith, e))

pub first-none : (sound long : Bool) → 0 ≡ first_of (read_grounds sound long) → (sound ≡ true) × (long ≡ false)
unfolding first_of
first-none false long e = absurd (omega (arith, e))
first-none true true e = absurd (omega (arith, e))
first-none true false e = (refl, refl)

-- ---- the states of a place and the slots of their tables

-- each is below them
abbrev pub States : List ℕ → List ℕ → Type 0
States own place = (i : ℕ) → i < length place → get_or place i 0 < get_or own i 0

-- some is not
abbrev pub NoState : List ℕ → List ℕ → Type 0
NoState own place = (i : ℕ) × ((i < length place) × (get_or own i 0 ≤ get_or place i 0))

not-below : (s : ℕ) (qs : List ℕ) → all_below s qs ≡ false → (i : ℕ) × ((i < length qs) × (s ≤ get_or qs i 0))
unfolding all_below
not-below s [] e = absurd (not-both refl e)
not-below s (q ∷ qs) e = go (decided (ltb q s)) (not-below s qs)
  where
    on : (i : ℕ) × ((i < length qs) × (s ≤ get_or qs i 0)) → (i : ℕ) × ((i < length (q ∷ qs)) × (s ≤ get_or (q ∷ qs) i 0))
    on w = (suc w.0, (omega (arith, w.1.0), w.1.1))

    go : (ltb q s ≡ true) ⊎ (ltb q s ≡ false) → (all_below s qs ≡ false → (i : ℕ) × ((i < length qs) × (s ≤ get_or qs i 0)))
        → (i : ℕ) × ((i < length (q ∷ qs)) × (s ≤ get_or (q ∷ qs) i 0))
    go (inl h) ih = on (ih (rw h at e))
    go (inr h) ih = (0, (omega arith, ltb-false q s h))

-- a state of the first part, and one of the others
module _ (p : Part) (ps : Layout) (slots place : List ℕ) (i : ℕ) where
  own_first : i < p.machines → get_or (own_slots (p ∷ ps) slots) i 0 ≡ get_or slots 0 0
  unfolding own_slots
  own_first h =
      get_or-append (replicate p.machines (get_or slots 0 0)) (own_slots ps (drop 1 slots)) 0 i
      (omega (arith, length-replicate {A = ℕ} p.machines (get_or slots 0 0)))
      ∙ get_or-replicate p.machines i (get_or slots 0 0) 0 h

  own-others : get_or (own_slots (p ∷ ps) slots) (p.machines + i) 0 ≡ get_or (own_slots ps (drop 1 slots)) i 0
  unfolding own_slots
  own-others =
      subst (λ (k : ℕ). get_or (replicate p.machines (get_or slots 0 0) ++ own_slots ps (drop 1 slots)) (k + i) 0 ≡ get_or (own_slots ps (drop 1 slots)) i 0)
      (length-replicate {A = ℕ} p.machines (get_or slots 0 0))
      (get_or-append-add (replicate p.machines (get_or slots 0 0)) (own_slots ps (drop 1 slots)) i 0)

pub below_all : (layout : Layout) (slots place : List ℕ) → length place ≡ width layout → place_below layout slots place ≡ true
    → States (own_slots layout slots) place
unfolding place_below width
below_all [] slots place w b i h = absurd (omega (arith, w))
below_all (p ∷ ps) slots place w b i h =
    go (dec_lt i k) (below_all ps (drop 1 slots) (drop k place) (omega (arith, length-drop k place, w)) others (i - k))
  where
    k : ℕ
    k = p.machines

    own : all_below (get_or slots 0 0) (take k place) ≡ true
    own = and_l (all_below (get_or slots 0 0) (take k place)) (place_below ps (drop 1 slots) (drop k place)) b

    others : place_below ps (drop 1 slots) (drop k place) ≡ true
    others = and_r (all_below (get_or slots 0 0) (take k place)) (place_below ps (drop 1 slots) (drop k place)) b

    go : Dec (i < k) → (i - k < length (drop k place) → get_or (drop k place) (i - k) 0 < get_or (own_slots ps (drop 1 slots)) (i - k) 0)
        → get_or place i 0 < get_or (own_slots (p ∷ ps) slots) i 0
    go (yes l) ih = rw (own_first p ps slots place i l) (below_get (get_or slots 0 0) k place (omega (arith, w)) own i l)
    go (no l) ih =
        let z : k + (i - k) ≡ i = omega arith in
        let r = ih (omega (arith, length-drop k place, h)) in
        subst (λ (j : ℕ). get_or place j 0 < get_or (own_slots (p ∷ ps) slots) j 0) z
        (rw (own-others p ps slots place (i - k)) (rw (get_or-drop k place (i - k) 0) at r))

pub below-not : (layout : Layout) (slots place : List ℕ) → length place ≡ width layout → place_below layout slots place ≡ false
    → NoState (own_slots layout slots) place
unfolding place_below width
below-not [] slots place w b = absurd (not-both refl b)
below-not (p ∷ ps) slots place w b = go (decided (all_below (get_or slots 0 0) (take k place)))
    (below-not ps (drop 1 slots) (drop k place) (omega (arith, length-drop k place, w)))
  where
    k : ℕ
    k = p.machines

    front : length (take k place) ≡ k
    front = length-take-le k place (omega (arith, w))

    go : (all_below (get_or slots 0 0) (take k place) ≡ true) ⊎ (all_below (get_or slots 0 0) (take k place) ≡ false)
        → (place_below ps (drop 1 slots) (drop k place) ≡ false → NoState (own_slots ps (drop 1 slots)) (drop k place)) → NoState (own_slots (p ∷ ps) slots) place
    go (inl h) ih =
        let r = ih (rw h at b) in (
          k + r.0,
          (
            omega (arith, r.1.0, length-drop k place),
            rw (own-others p ps slots place r.0, ← get_or-drop k place r.0 0) r.1.1,
          ),
        )
    go (inr h) ih =
        let r = not-below (get_or slots 0 0) (take k place) h in
        let l : r.0 < k = omega (arith, r.1.0, front) in (
          r.0,
          (
            omega (arith, r.1.0, front, w),
            rw (own_first p ps slots place r.0 l, ← get_or-take k place r.0 0 l) r.1.1,
          ),
        )

own-few : (layout : Layout) (lens : List ℕ) (i : ℕ) → get_or (own_slots layout (slots_over layout lens)) i 0 ≤ most_slots
unfolding own_slots slots_over
own-few [] lens i = omega arith
own-few (p ∷ ps) lens i = go (dec_lt i p.machines) (own-few ps (drop 1 lens) (i - p.machines))
  where
    go : Dec (i < p.machines) → get_or (own_slots ps (slots_over ps (drop 1 lens))) (i - p.machines) 0 ≤ most_slots
        → get_or (own_slots (p ∷ ps) (slots_over (p ∷ ps) lens)) i 0 ≤ most_slots
    go (yes h) ih = rw (own_first p ps (slots_over (p ∷ ps) lens) [] i h) (omega arith)
    go (no h) ih =
        let z : p.machines + (i - p.machines) ≡ i = omega arith in
        subst (λ (j : ℕ). get_or (own_slots (p ∷ ps) (slots_over (p ∷ ps) lens)) j 0 ≤ most_slots) z
        (rw (own-others p ps (slots_over (p ∷ ps) lens) [] (i - p.machines)) ih)

-- ---- the whole-byte layout has one table, and is read as it is

module _ (table : List ℕ) (s : ℕ) (e : s ≡ slots_in 8 1 (length table)) where
  pub whole-slots : s ∷ [] ≡ slots_over whole_layout (lengths (table ∷ []))
  unfolding slots_over
  whole-slots = rw e refl

  pub whole_as_table : (q count room : ℕ) (piece : List ℕ)
      → read 8 s table (q ∷ []) count room piece ≡ read_in whole_layout (table ∷ []) (q ∷ []) count room piece
  whole_as_table q count room piece = rw e (sym (one-part-read (part exact_kind 8 1 254) table (q ∷ []) count room piece refl refl))

pub whole_below : (s q : ℕ) → place_below whole_layout (s ∷ []) (q ∷ []) ≡ ltb q s
unfolding place_below all_below
whole_below s q = alone (ltb q s)
  where
    alone : (b : Bool) → ((b && true) && true) ≡ b
    alone true = refl
    alone false = refl

-- ---- what the code gives back

-- each state at the end fits 16 bits
pub states-fit : (layout : Layout) (runs : Runs) (place : List ℕ) (count room : ℕ) (piece : List ℕ) → length place ≡ width layout
    → place_below layout (slots_over layout (lengths runs)) place ≡ true → (i : ℕ) → i < width layout
    → get_or (read_in layout runs place count room piece).place i 0 < 65536
states-fit layout runs place count room piece w b i l =
    let k = kept_in layout runs place count room piece in
    let o = (read_in layout runs place count room piece).place in
    omega (
      arith,
      below_all layout (slots_over layout (lengths runs)) o (k.wide w) (k.below w b) i (omega (arith, k.wide w)),
      own-few layout (lengths runs) i,
    )

pub answer-read : {P Q : Type 0} (at : P → Q) (place : Q) (r : ReadAt P) (o : OutcomeOf P) (went : Went Q) (here : Q) (l l' : List ℕ)
    → r ≡ read_to o → went ≡ went_by at o → here ≡ went.place → l' ≡ list_of l o
    → (record { taken = went.taken; place = here; records = went.records; ending = Ok went.stop } ≡ answer_by at place r) × (l' ≡ list_by l r)
answer-read at place r o went here l l' er ew eh el = rw (er, eh, ew, el) (refl, refl)
