-- Folding, and a byte over any two runs of the split layout, in the rules' words (docs/RULES.md, 1, 2 and 4).
use Rattle.std.specs.Prelude.{ℕ, false, true, ◌↔◌, ◌⊎◌, ◌≡◌, drop, length, take}
use mathlib.Core.List.{List, [], ◌++◌, ◌∷◌, append-nil}
use Rattle.std.proofs.Common.{inl, inr, ◌∙◌, ap, sym, arith}
use Rattle.std.proofs.Math.Path.{ap₂, refl}
use Rattle.std.specs.Int.Bits.{bit_or}
use Rattle.matching.specs.Kinds.{as_read, lower}
use Rattle.matching.specs.Laws.Bools.{decided}
use Rattle.matching.specs.Laws.Unions.{union-ones}
use Rattle.matching.specs.Laws.Readings.{table_step-goes, table_step-wrong}
use Rattle.matching.specs.Parts.{beside, part_step, split_layout, step_in, union}
use Rattle.matching.specs.Reading.{all_below, flagged, nexts, ones_of, table_step, vectors_at}
use Rattle.matching.specs.Slicing.{anded}
use Rattle.matching.specs.Stepping.{Stepped, goes_to, is_damaged}
use Rattle.matching.specs.Table.{slots_in}

-- ---- a byte over any two runs: from a place of sixteen states the first eight are of the first run, and the others of the second, which reads it folded

goes-not : {p t : List ℕ} → ◌≡◌ {A = Stepped (List ℕ)} (goes_to p t) is_damaged → ⊥
goes-not e = let z : ◌≡◌ {A = ℕ} 0 1 = cc in absurd (omega arith)

module _ (a b place : List ℕ) (c : ℕ) where
  -- the slots of each, and the next numbers of its machines
  abbrev s : ℕ
  s = slots_in 1 8 (length a)

  abbrev s' : ℕ
  s' = slots_in 1 8 (length b)

  abbrev p : List ℕ
  p = nexts 1 s a 0 (take 8 place) c

  abbrev p' : List ℕ
  p' = nexts 1 s' b 0 (take 8 (drop 8 place)) (lower c)

  split_step : step_in split_layout (a ∷ b ∷ []) place c
      ≡ beside (table_step 1 s a (take 8 place) c) (beside (table_step 1 s' b (take 8 (drop 8 place)) (lower c)) (goes_to [] []))
  unfolding step_in part_step as_read
  split_step = refl

  -- WHERE NONE IS DAMAGED BOTH STEP, and a tag is found if the eight vectors of either run have its bit in common, once though those of both have
  pub split_goes : all_below s p ≡ true → all_below s' p' ≡ true → step_in split_layout (a ∷ b ∷ []) place c
      ≡ goes_to (p ++ p') (ones_of 0 16 (bit_or (anded 65535 (vectors_at 1 s a 0 p)) (anded 65535 (vectors_at 1 s' b 0 p'))))
  unfolding beside union flagged
  split_goes e f =
      split_step
      ∙ ap₂ (λ (x y : Stepped (List ℕ)). beside x (beside y (goes_to [] []))) (table_step-goes 1 s a (take 8 place) c e) (table_step-goes 1 s' b _ (lower c) f)
      ∙ ap₂ (λ (q tags : List ℕ). goes_to (p ++ q) tags) (append-nil p')
      (union-ones 16 0 (anded 65535 (vectors_at 1 s a 0 p)) (anded 65535 (vectors_at 1 s' b 0 p')))

  -- DAMAGED exactly if a next number of either run is not below that run's own s
  pub split_damaged_iff : (step_in split_layout (a ∷ b ∷ []) place c ≡ is_damaged) ↔ ((all_below s p ≡ false) ⊎ (all_below s' p' ≡ false))
  unfolding beside
  split_damaged_iff = (there (decided (all_below s p)) (decided (all_below s' p')), back (decided (all_below s p)))
    where
      second : Stepped (List ℕ)
      second = beside (table_step 1 s' b (take 8 (drop 8 place)) (lower c)) (goes_to [] [])

      there : (all_below s p ≡ true) ⊎ (all_below s p ≡ false) → (all_below s' p' ≡ true) ⊎ (all_below s' p' ≡ false)
          → step_in split_layout (a ∷ b ∷ []) place c ≡ is_damaged → (all_below s p ≡ false) ⊎ (all_below s' p' ≡ false)
      there (inr e) f d = inl e
      there (inl e) (inr f) d = inr f
      there (inl e) (inl f) d = absurd (goes-not (sym (split_goes e f) ∙ d))

      back : (all_below s p ≡ true) ⊎ (all_below s p ≡ false) → (all_below s p ≡ false) ⊎ (all_below s' p' ≡ false)
          → step_in split_layout (a ∷ b ∷ []) place c ≡ is_damaged
      back z (inl e) = split_step ∙ ap (λ (x : Stepped (List ℕ)). beside x second) (table_step-wrong 1 s a (take 8 place) c e)
      back (inr z) (inr e) = split_step ∙ ap (λ (x : Stepped (List ℕ)). beside x second) (table_step-wrong 1 s a (take 8 place) c z)
      back (inl z) (inr e) =
          split_step
          ∙ ap₂ (λ (x y : Stepped (List ℕ)). beside x (beside y (goes_to [] []))) (table_step-goes 1 s a (take 8 place) c z) (table_step-wrong 1 s' b (take 8 (drop 8 place)) (lower c) e)
