-- What a read outside the desk promises, over ANY tables, place, count, piece and list.
use Prim.Native.Nat.{◌+◌, ◌-◌, ◌<◌, ◌≤◌, suc, zero, ℕ}
use Rattle.std.specs.Prelude.{Bool, ◌↔◌, ltb, replicate}
use mathlib.Core.List.{List, [], ◌++◌, ◌∷◌}
use Rattle.std.proofs.Common.{◌∙◌, get_or-append-add, le-ltb, lt-ltb}
use Rattle.std.proofs.Math.Path.{◌≡◌, ap, refl}
use Rattle.std.proofs.Math.Decide.{dec_lt}
use native.Mathlib.Omega.{arith}
use Rattle.std.proofs.Math.ListN.{get_or-append, get_or, length}
use Rattle.std.proofs.lemmas.List.{get_or-replicate, length-replicate}
use Rattle.matching.specs.Parts.{Layout, Runs, lengths, place_below, slots_over, split_layout, whole_layout, width}
use Rattle.matching.specs.Refusal.{first_of}
use Rattle.matching.specs.Table.{slots_in}
use Rattle.matching.specs.Words.{Word}
use Rattle.reading.specs.Laws.Answers.{whole_below}
use Rattle.reading.specs.Outside.{Ending, ReadOf, own_slots, read_of, slots_for, split_by, table_of, whole_by}
use Rattle.reading.specs.Refusals.{RefusedWith, ending_number, read_grounds}
use Rattle.reading.specs.declared.ReadRefusal.TheVariants.{Long, Place}
use Rattle.reading.specs.Laws.Outside.{place_iff, long_iff, number_by, by_grounds, answer-number, split-refused, whole-refused, by_number}

-- ---- when it is refused

pub read_refusals : (layout : Layout) (runs : Runs) (place : List ℕ) (count : ℕ) (piece : Word) (len : ℕ)
    → number_by (read_of layout runs place count piece len) ≡ first_of
    (read_grounds (place_below layout (slots_over layout (lengths runs)) place) (ltb 4294967295 (count + length piece)))
unfolding read_of
read_refusals layout runs place count piece len =
    by_grounds _ (place_below layout (slots_over layout (lengths runs)) place) (ltb 4294967295 (count + length piece))

-- Laws that the pages name, though no proof needs them any more: `answer-number` in the two layouts.

split-number : (place : List ℕ) (r : ReadOf) → ending_number (split_by place r).ending ≡ number_by r
split-number place r = answer-number (λ p. p) place r

whole-number : (place : ℕ) (r : ReadOf) → ending_number (whole_by place r).ending ≡ number_by r
whole-number place r = answer-number (λ p. get_or p 0 0) place r

-- SO FOR EACH CALL, in its own answer: 15, with nothing returned, exactly if a state is not below the s of its table; 14 exactly if each is, and the bytes
-- taken and the piece pass 4,294,967,295

-- in the split layout, whose place has sixteen states
module _ (first second place : List ℕ) (count : ℕ) (piece : Word) (len : ℕ) where
  abbrev tables : Runs
  tables = first ∷ second ∷ []

  abbrev split_read : ReadOf
  split_read = read_of split_layout tables place count piece len

  abbrev split_ending : Ending
  split_ending = (split_by place split_read).ending

  -- the slots of a state's table
  own-table : (i : ℕ) → i < 16 → slots_for split_layout tables i ≡ slots_in 1 8 (length (table_of first second i))
  unfolding own_slots slots_over
  own-table i h = go (dec_lt i 8)
    where
      s : List ℕ → ℕ
      s run = slots_in 1 8 (length run)

      front : List ℕ
      front = replicate 8 (s first)

      back : List ℕ
      back = replicate 8 (s second)

      go : Dec (i < 8) → get_or (front ++ (back ++ [])) i 0 ≡ s (table_of first second i)
      go (yes l) =
          get_or-append front (back ++ []) 0 i (omega (arith, length-replicate {A = ℕ} 8 (s first))) ∙ get_or-replicate 8 i (s first) 0 l ∙ rw
          (lt-ltb i 8 l) refl
      go (no l) =
          let z : i ≡ 8 + (i - 8) = omega arith in
          let m : i - 8 < 8 = omega arith in
          ap (λ (j : ℕ). get_or (front ++ (back ++ [])) j 0) z ∙ get_or-append-add front (back ++ []) (i - 8) 0
          ∙ get_or-append back [] 0 (i - 8) (omega (arith, m, length-replicate {A = ℕ} 8 (s second))) ∙ get_or-replicate 8 (i - 8) (s second) 0 m
          ∙ rw (le-ltb i 8 (omega arith)) refl

  module _ (wide : length place ≡ 16) where
    pub split-place_iff : RefusedWith split_ending 15 [] ↔ ((i : ℕ) × ((i < 16) × (slots_in 1 8 (length (table_of first second i)) ≤ get_or place i 0)))
    unfolding width
    split-place_iff = (
      λ w.
          let x = (place_iff split_layout tables place wide count piece len).0 ((split-refused place split_read Place).0 ((by_number Place split_ending).0 w)) in
          let l : x.0 < 16 = omega (arith, x.1.0, wide) in
          (x.0, (l, omega (arith, own-table x.0 l, x.1.1))),
      λ h.
          (by_number Place split_ending).1 ((split-refused place split_read Place).1
          ((place_iff split_layout tables place wide count piece len).1
          (h.0, (omega (arith, h.1.0, wide), omega (arith, own-table h.0 h.1.0, h.1.1))))),
    )

    pub split-long_iff : RefusedWith split_ending 14 []
        ↔ (((i : ℕ) → i < 16 → get_or place i 0 < slots_in 1 8 (length (table_of first second i))) × (4294967295 < count + length piece))
    unfolding width
    split-long_iff = (
      λ w.
          let x = (long_iff split_layout tables place wide count piece len).0 ((split-refused place split_read Long).0 ((by_number Long split_ending).0 w)) in
          (λ i l. omega (arith, x.0 i (omega (arith, l, wide)), own-table i l), x.1),
      λ h.
          (by_number Long split_ending).1 ((split-refused place split_read Long).1
          ((long_iff split_layout tables place wide count piece len).1
          (λ i l. (let m : i < 16 = omega (arith, l, wide) in omega (arith, h.0 i m, own-table i m)), h.1))),
    )

  -- the same in order: the number is that of the first ground that holds
  pub split_refusals : ending_number split_ending ≡ first_of
      (read_grounds (place_below split_layout (slots_in 1 8 (length first) ∷ slots_in 1 8 (length second) ∷ []) place) (ltb 4294967295 (count + length piece)))
  unfolding slots_over
  split_refusals = answer-number (λ p. p) place split_read ∙ read_refusals split_layout tables place count piece len

-- in the whole-byte layout, whose place is one state
module _ (table : List ℕ) (place count : ℕ) (piece : Word) (len : ℕ) where
  abbrev whole_read : ReadOf
  whole_read = read_of whole_layout (table ∷ []) (place ∷ []) count piece len

  abbrev whole_ending : Ending
  whole_ending = (whole_by place whole_read).ending

  -- its table is the only one
  own_only : slots_for whole_layout (table ∷ []) 0 ≡ slots_in 8 1 (length table)
  unfolding own_slots slots_over
  own_only = refl

  pub whole-place_iff : RefusedWith whole_ending 15 [] ↔ (slots_in 8 1 (length table) ≤ place)
  unfolding width
  whole-place_iff = (
    λ w. only ((place_iff whole_layout (table ∷ []) (place ∷ []) refl count piece len).0
        ((whole-refused place whole_read Place).0 ((by_number Place whole_ending).0 w))),
    λ h.
        (by_number Place whole_ending).1 ((whole-refused place whole_read Place).1
        ((place_iff whole_layout (table ∷ []) (place ∷ []) refl count piece len).1 (0, (omega arith, omega (arith, own_only, h))))),
  )
    where
      only : (i : ℕ) × ((i < length (place ∷ [])) × (slots_for whole_layout (table ∷ []) i ≤ get_or (place ∷ []) i 0)) → slots_in 8 1 (length table) ≤ place
      only (zero, w) = omega (arith, own_only, w.1)
      only (suc i, w) = absurd (omega (arith, w.0))

  pub whole-long_iff : RefusedWith whole_ending 14 [] ↔ ((place < slots_in 8 1 (length table)) × (4294967295 < count + length piece))
  unfolding width
  whole-long_iff = (
    λ e.
        let w = (long_iff whole_layout (table ∷ []) (place ∷ []) refl count piece len).0
        ((whole-refused place whole_read Long).0 ((by_number Long whole_ending).0 e)) in
        (omega (arith, w.0 0 (omega arith), own_only), w.1),
    λ w.
        (by_number Long whole_ending).1 ((whole-refused place whole_read Long).1
        ((long_iff whole_layout (table ∷ []) (place ∷ []) refl count piece len).1 (all w.0, w.1))),
  )
    where
      all : place < slots_in 8 1 (length table) → (i : ℕ) → i < length (place ∷ []) → get_or (place ∷ []) i 0 < slots_for whole_layout (table ∷ []) i
      all h zero l = omega (arith, h, own_only)
      all h (suc i) l = absurd (omega (arith, l))

  pub whole_refusals : ending_number whole_ending ≡ first_of (read_grounds (ltb place (slots_in 8 1 (length table))) (ltb 4294967295 (count + length piece)))
  unfolding slots_over
  whole_refusals =
      answer-number (λ p. get_or p 0 0) place whole_read ∙ read_refusals whole_layout (table ∷ []) (place ∷ []) count piece len
      ∙ ap (λ (b : Bool). first_of (read_grounds b (ltb 4294967295 (count + length piece)))) (whole_below (slots_in 8 1 (length table)) place)
