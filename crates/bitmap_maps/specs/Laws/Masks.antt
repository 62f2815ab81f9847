-- Masks: whether a tag goes through a word, how the mask of a child grows tag by tag, and the root's.
use Rattle.std.specs.Prelude.{◌%◌, ◌*◌, ◌+◌, ◌/◌, ◌<◌, ◌^◌, ◌≤◌, suc, zero, ℕ, Bool, ◌&&◌, cond, false, true, List, [], ◌++◌, ◌∷◌, ◌≡◌, refl, eqb, ltb, get_or, length, take}
use Rattle.std.proofs.Math.Bool.{and_assoc, and-true}
use Rattle.std.proofs.Common.{◌∙◌, ap, sym, not-suc-le-zero, pow-suc, arith, pow_mono, eq-eqb, eqb-true, lt-ltb, ltb-true}
use Rattle.matching.specs.Laws.Bools.{both_ways}
use Rattle.matching.specs.Laws.Vectors.{vector_by_bit, vector_by_lt}
use Rattle.matching.specs.Machine.{vector_by}
use Rattle.matching.specs.Words.{Word, begins}
use Rattle.bitmap_maps.specs.Laws.Bits.{bit_is}
use Rattle.bitmap_maps.specs.Through.{through}

-- ---- a bit of a mask

-- bit u says whether p begins tag u
pub through_bit : (ts : List Word) (p : Word) (u : ℕ) → u < length ts → eqb (through ts p / 2 ^ u % 2) 1 ≡ begins p (get_or ts u [])
unfolding through
through_bit ts p u h = bit_is (begins p (get_or ts u [])) (through ts p / 2 ^ u % 2) (vector_by_bit [] (λ t. begins p t) ts u h)

-- as `goes_through` says it
pub goes-begins : (ts : List Word) (p : Word) (mask u : ℕ) (b : Bool) → mask ≡ through ts p → u < length ts → b ≡ eqb (mask / 2 ^ u % 2) 1
    → b ≡ begins p (get_or ts u [])
goes-begins ts p mask u b e h f = f ∙ ap (λ (x : ℕ). eqb (x / 2 ^ u % 2) 1) e ∙ through_bit ts p u h

pub through_lt : (ts : List Word) (p : Word) → through ts p < 2 ^ length ts
unfolding through
through_lt ts p = vector_by_lt (λ t. begins p t) ts

-- a mask fits a number of the table
pub through-fits : (ts : List Word) (p : Word) → length ts ≤ 16 → through ts p < 65536
through-fits ts p h = omega (arith, through_lt ts p, pow_mono {i = length ts} {j = 16} h)

-- ---- the root's mask

-- all tags go through the empty word
pub through_root : (ts : List Word) → through ts [] + 1 ≡ 2 ^ length ts
unfolding through vector_by begins
through_root [] = refl
through_root (t ∷ ts) = omega (arith, through_root ts, pow-suc 2 (length ts))

-- ---- the mask of a child

doubled : (b : Bool) (n : ℕ) → cond b (2 ^ n) 0 * 2 ≡ cond b (2 ^ suc n) 0
doubled true n = sym (pow-suc 2 n)
doubled false n = refl

-- a vector grows tag by tag
pub vector-take : (g : Word → Bool) (ts : List Word) (u : ℕ) → u < length ts
    → vector_by g (take (suc u) ts) ≡ vector_by g (take u ts) + cond (g (get_or ts u [])) (2 ^ u) 0
unfolding vector_by
vector-take g [] u h = absurd (not-suc-le-zero h)
vector-take g (t ∷ ts) zero h = omega arith
vector-take g (t ∷ ts) (suc u) h = omega (arith, vector-take g ts u (omega arith), doubled (g (get_or ts u [])) u)

pub eqb_swap : (m n : ℕ) → eqb m n ≡ eqb n m
eqb_swap m n = both_ways (eqb m n) (eqb n m) (λ e. eq-eqb n m (sym (eqb-true m n e))) (λ e. eq-eqb m n (sym (eqb-true n m e)))

ltb-suc : (m n : ℕ) → ltb (suc m) (suc n) ≡ ltb m n
ltb-suc m n =
    both_ways (ltb (suc m) (suc n)) (ltb m n)
    (λ e. lt-ltb m n (omega (arith, ltb-true (suc m) (suc n) e)))
    (λ e. lt-ltb (suc m) (suc n) (omega (arith, ltb-true m n e)))

-- a word and a byte behind it begin a tag exactly if the word does, the tag is longer, and its next byte is that one
pub begins-child : (p t : Word) (c : ℕ) → begins (p ++ c ∷ []) t ≡ (begins p t && ltb (length p) (length t) && eqb (get_or t (length p) 0) c)
unfolding begins
begins-child [] [] c = refl
begins-child [] (y ∷ w) c = and-true (eqb c y) ∙ eqb_swap c y ∙ ap (λ (b : Bool). b && eqb y c) (sym (lt-ltb 0 (suc (length w)) (omega arith)))
begins-child (x ∷ p) [] c = refl
begins-child (x ∷ p) (y ∷ w) c =
    ap (λ (b : Bool). eqb x y && b) (begins-child p w c)
    ∙ sym (and_assoc (eqb x y) (begins p w && ltb (length p) (length w)) (eqb (get_or w (length p) 0) c))
    ∙ ap (λ (b : Bool). b && eqb (get_or w (length p) 0) c) (sym (and_assoc (eqb x y) (begins p w) (ltb (length p) (length w))))
    ∙ ap (λ (b : Bool). (eqb x y && begins p w) && b && eqb (get_or w (length p) 0) c) (sym (ltb-suc (length p) (length w)))
