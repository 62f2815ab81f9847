-- A list with one more at its end.
use Rattle.std.specs.Prelude.{◌<◌, ◌≤◌, suc, ℕ, List, [], ◌++◌, ◌∷◌, ◌≡◌, get_or, length}
use Rattle.std.proofs.Common.{◌∙◌, ap, subst, sym, arith, length-append}
use Rattle.std.proofs.Math.Decide.{dec_le}
use Rattle.std.proofs.Math.ListN.{get_or-append}
use Rattle.std.proofs.Math.Seq.{get_or-append_seam}

module _ {A : Type 0} (l : List A) (x d : A) where
  pub snoc_length : length (l ++ x ∷ []) ≡ suc (length l)
  snoc_length = length-append l (x ∷ []) ∙ omega arith

  pub snoc_old : (k : ℕ) → k < length l → get_or (l ++ x ∷ []) k d ≡ get_or l k d
  snoc_old k h = get_or-append l (x ∷ []) d k h

  pub snoc_last : (k : ℕ) → k ≡ length l → get_or (l ++ x ∷ []) k d ≡ x
  snoc_last k e = ap (λ (n : ℕ). get_or (l ++ x ∷ []) n d) e ∙ get_or-append_seam l x [] d

  -- what holds of each before and of the new one holds of each after
  pub snoc_each : (P : ℕ → A → Type 0) → ((k : ℕ) → k < length l → P k (get_or l k d)) → P (length l) x → (k : ℕ) → k < length (l ++ x ∷ [])
      → P k (get_or (l ++ x ∷ []) k d)
  snoc_each P f g k h = go (dec_le (suc k) (length l))
    where
      go : Dec (suc k ≤ length l) → P k (get_or (l ++ x ∷ []) k d)
      go (yes b) = subst (P k) (sym (snoc_old k b)) (f k b)
      go (no b) =
          let e : k ≡ length l = omega (arith, h, snoc_length) in
          subst (P k) (sym (snoc_last k e)) (subst (λ (n : ℕ). P n x) (sym e) g)
