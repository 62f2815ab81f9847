-- A step goes the way that the rules say, and there is no other.
use Rattle.std.specs.Prelude.{◌<◌, suc, zero, ℕ, false, true, List, ◌↔◌, ◌⊎◌, ◌≡◌, eqb, ltb}
use Rattle.std.proofs.Common.{inl, inr, ◌∙◌, ap, subst, sym, not-suc-le-zero, arith, eqb-true, ltb-false, ltb-true}
use Rattle.std.proofs.lemmas.Bool.{eqb-false}
use Rattle.matching.specs.Laws.Bools.{decided}
use Rattle.bitmap.specs.Laws.Steps.{arrived_bad, arrived-good, step-fail, step_in, step_stay, step-wrong}
use Rattle.bitmap.specs.Steps.{Step, child_of, fail_at, in_map, moved, step}
use Rattle.bitmap.specs.Ways.{Way, child_no_state, fails_not_lower, fails_on, stays, to_child}

module _ (s : ℕ) (table : List ℕ) (c : ℕ) where
  way_by : (b q : ℕ) → q < b → Way s table c q (step s table q c)
  way_by zero q hb = absurd (not-suc-le-zero hb)
  way_by (suc b) q hb =
      go (decided (in_map table q c)) (decided (ltb (child_of table q c) s)) (decided (eqb q 0)) (decided (ltb (fail_at table q) q))
      (λ h. way_by b (fail_at table q) (omega arith))
    where
      go : (in_map table q c ≡ true) ⊎ (in_map table q c ≡ false) → (ltb (child_of table q c) s ≡ true) ⊎ (ltb (child_of table q c) s ≡ false)
          → (eqb q 0 ≡ true) ⊎ (eqb q 0 ≡ false) → (ltb (fail_at table q) q ≡ true) ⊎ (ltb (fail_at table q) q ≡ false)
          → (fail_at table q < q → Way s table c (fail_at table q) (step s table (fail_at table q) c)) → Way s table c q (step s table q c)
      go (inl e) (inl n) z f ih = rw (step_in s table c q e ∙ arrived-good s (child_of table q c) (ltb-true _ s n)) (to_child e (ltb-true _ s n))
      go (inl e) (inr n) z f ih = rw (step_in s table c q e ∙ arrived_bad s (child_of table q c) (ltb-false _ s n)) (child_no_state e (ltb-false _ s n))
      go (inr e) n (inl z) f ih =
          let q0 : q ≡ 0 = eqb-true q 0 z in
          let out : in_map table 0 c ≡ false = subst (λ (x : ℕ). in_map table x c ≡ false) q0 e in
          subst (λ (x : ℕ). Way s table c x (step s table x c)) (sym q0) (rw (step_stay s table c out) (stays out))
      go (inr e) n (inr z) (inl f) ih =
          let ne = eqb-false q 0 z in
          let l = ltb-true (fail_at table q) q f in
          rw (step-fail s table c q e (omega arith) l) (fails_on e (omega arith) l (ih l))
      go (inr e) n (inr z) (inr f) ih =
          let ne = eqb-false q 0 z in
          let l = ltb-false (fail_at table q) q f in
          rw (step-wrong s table c q e (omega arith) l) (fails_not_lower e (omega arith) l)

  way_only : (q : ℕ) (t : Step) → Way s table c q t → step s table q c ≡ t
  way_only q t (to_child e n) = step_in s table c q e ∙ arrived-good s (child_of table q c) n
  way_only q t (child_no_state e n) = step_in s table c q e ∙ arrived_bad s (child_of table q c) n
  way_only q t (stays e) = step_stay s table c e
  way_only q t (fails_on e p f w) = step-fail s table c q e p f ∙ ap moved (way_only (fail_at table q) _ w)
  way_only q t (fails_not_lower e p f) = step-wrong s table c q e p f

  -- THE STEP IS THE RULES' WAY, and there is no other
  pub way_iff : (q : ℕ) (t : Step) → (step s table q c ≡ t) ↔ Way s table c q t
  way_iff q t = (λ e. subst (Way s table c q) e (way_by (suc q) q (omega arith)), way_only q t)
