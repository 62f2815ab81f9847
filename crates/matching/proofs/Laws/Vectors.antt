-- The vectors, and what remains of them when they are ANDed.
use Rattle.std.specs.Prelude.{◌*◌, ◌-◌, ◌<◌, ◌^◌, ◌≤◌, suc, ℕ, List, ◌∷◌, map, ◌≡◌, length}
use Rattle.std.proofs.Common.{◌∙◌, ap, le_of_eq, le_trans, lt_of_lt_of_le, mod-eq_of_lt, pow_mono}
use Rattle.std.proofs.lemmas.Nat.{and_comm, and_mask}
use Rattle.matching.specs.Laws.Slices.{Apart, ends_all, slices-apart, slices-end}
use Rattle.matching.specs.Machine.{vector}
use Rattle.matching.specs.Slicing.{anded, reduced, slice, slices}
use Rattle.matching.specs.Words.{AllBelow, Below, Word, ends}
use Rattle.matching.specs.Laws.Vectors.{vector_lt, reduced-length, vector_by-map, vector_by-same, vectors, anded-vectors}

-- THE AND OF THE VECTORS IS THE VECTOR OF THE WHOLE, from the first vector on
pub and_vectors : (f : ℕ → ℕ) (fs : List (ℕ → ℕ)) (m : ℕ) → Apart (f ∷ fs) m → (ts : List Word) (w : Word) → AllBelow m ts → Below m w
    → anded (vector (reduced f ts) (map f w)) (vectors fs ts w) ≡ vector ts w
unfolding vector reduced ends_all
and_vectors f fs m k ts w ht hw =
    ap (λ (v : ℕ). anded v (vectors fs ts w)) (vector_by-map (λ t. ends t (map f w)) (map f) ts)
    ∙ anded-vectors fs (λ t. ends (map f t) (map f w)) ts w
    ∙ vector_by-same (λ t. ends_all (f ∷ fs) t w) (λ t. ends t w) ts m ht (λ t h. slices-end f fs m k t w h hw)

-- and from a mask of at least as many ones as there are tags
pub and_vectors-mask : (n : ℕ) (f : ℕ → ℕ) (fs : List (ℕ → ℕ)) (m : ℕ) → Apart (f ∷ fs) m → (ts : List Word) (w : Word) → AllBelow m ts → Below m w
    → length ts ≤ n → anded (2 ^ n - 1) (vectors (f ∷ fs) ts w) ≡ vector ts w
unfolding vectors anded
and_vectors-mask n f fs m k ts w ht hw hn =
    ap (λ (v : ℕ). anded v (vectors fs ts w))
    (and_comm (2 ^ n - 1) (vector (reduced f ts) (map f w)) ∙ and_mask (vector (reduced f ts) (map f w)) n ∙ mod-eq_of_lt small)
    ∙ and_vectors f fs m k ts w ht hw
  where
    small : vector (reduced f ts) (map f w) < 2 ^ n
    small = lt_of_lt_of_le (vector_lt (reduced f ts) (map f w)) (pow_mono (le_trans (le_of_eq (reduced-length f ts)) hn))

-- k slices of n bits, over letters below 2 ^ (k * n)
pub and_slices : (n k : ℕ) (ts : List Word) (w : Word) → AllBelow (2 ^ (suc k * n)) ts → Below (2 ^ (suc k * n)) w → length ts ≤ 16
    → anded 65535 (vectors (slices n 0 (suc k)) ts w) ≡ vector ts w
unfolding slices
and_slices n k ts w ht hw hn = and_vectors-mask 16 (slice n 0) (slices n 1 k) (2 ^ (suc k * n)) (slices-apart n (suc k)) ts w ht hw hn

-- for bytes, split into their eight bits: tag i ends the input exactly if bit i is left
pub and_bits : (ts : List Word) (w : Word) → AllBelow 256 ts → Below 256 w → length ts ≤ 16 → anded 65535 (vectors (slices 1 0 8) ts w) ≡ vector ts w
and_bits = and_slices 1 7
