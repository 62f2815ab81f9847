-- What placing a state changes: three numbers of its slot.
use Rattle.std.specs.Prelude.{◌*◌, ◌+◌, ◌<◌, ℕ, List, ◌≡◌, length, set}
use Rattle.std.proofs.Common.{◌∙◌, add-zero, arith, length-set, lt-length-set}
use Rattle.std.proofs.Math.Path.{ap}
use Rattle.std.proofs.Math.ListN.{get_or}
use Rattle.std.proofs.Math.Seq.{get_or-set_other, get_or-set_same}
use Rattle.bitmap.specs.Steps.{fail_at, number_at, vector_at}
use Rattle.bitmap_growing.specs.Growing.{placed}

module _ (l : List ℕ) (r d f mask : ℕ) where
  pub placed-cell : (j : ℕ) → (j ≡ r * 19 → ⊥) → (j ≡ r * 19 + 17 → ⊥) → (j ≡ r * 19 + 18 → ⊥) → get_or (placed l r d f mask) j 0 ≡ get_or l j 0
  placed-cell j a b e =
      get_or-set_other (set (set l (r * 19) d) (r * 19 + 17) f) (r * 19 + 18) j mask 0 e
      ∙ get_or-set_other (set l (r * 19) d) (r * 19 + 17) j f 0 b ∙ get_or-set_other l (r * 19) j d 0 a

  -- no other slot
  pub placed-other : (i j : ℕ) → (i ≡ r → ⊥) → j < 19 → number_at (placed l r d f mask) i j ≡ number_at l i j
  unfolding number_at
  placed-other i j n h = placed-cell (i * 19 + j) (λ e. n (omega arith)) (λ e. n (omega arith)) (λ e. n (omega arith))

  pub placed-bare : (j : ℕ) → 0 < j → j < 17 → number_at (placed l r d f mask) r j ≡ number_at l r j
  unfolding number_at
  placed-bare j a b = placed-cell (r * 19 + j) (λ e. omega arith) (λ e. omega arith) (λ e. omega arith)

  pub placed-length : length (placed l r d f mask) ≡ length l
  placed-length =
      length-set (set (set l (r * 19) d) (r * 19 + 17) f) (r * 19 + 18) mask ∙ length-set (set l (r * 19) d) (r * 19 + 17) f ∙ length-set l (r * 19) d

  module _ (h : r * 19 + 18 < length l) where
    one : r * 19 + 17 < length (set l (r * 19) d)
    one = lt-length-set l (r * 19) d {i = r * 19 + 17} (omega arith)

    two : r * 19 + 18 < length (set (set l (r * 19) d) (r * 19 + 17) f)
    two = lt-length-set (set l (r * 19) d) (r * 19 + 17) f {i = r * 19 + 18} (lt-length-set l (r * 19) d h)

    pub placed-mask : vector_at (placed l r d f mask) r ≡ mask
    unfolding number_at
    placed-mask = get_or-set_same (set (set l (r * 19) d) (r * 19 + 17) f) (r * 19 + 18) mask 0 two

    pub placed-fail : fail_at (placed l r d f mask) r ≡ f
    unfolding number_at
    placed-fail =
        get_or-set_other (set (set l (r * 19) d) (r * 19 + 17) f) (r * 19 + 18) (r * 19 + 17) mask 0 (λ e. omega arith)
        ∙ get_or-set_same (set l (r * 19) d) (r * 19 + 17) f 0 one

    pub placed-depth : number_at (placed l r d f mask) r 0 ≡ d
    unfolding number_at
    placed-depth =
        get_or-set_other (set (set l (r * 19) d) (r * 19 + 17) f) (r * 19 + 18) (r * 19 + 0) mask 0 (λ e. omega arith)
        ∙ get_or-set_other (set l (r * 19) d) (r * 19 + 17) (r * 19 + 0) f 0 (λ e. omega arith)
        ∙ ap (λ (x : ℕ). get_or (set l (r * 19) d) x 0) (add-zero (r * 19)) ∙ get_or-set_same l (r * 19) d 0 (omega arith)
