-- The slicing theorem: a tag ends the input exactly if each slice of it ends that slice of the input.
use Rattle.std.specs.Prelude.{◌%◌, ◌*◌, ◌+◌, ◌-◌, ◌/◌, ◌<◌, ◌^◌, suc, zero, ℕ, Bool, ◌&&◌, true, ◌≡◌, refl, drop, length, take}
use mathlib.Core.List.{List, [], ◌++◌, ◌∷◌, cons≢nil, head-eq_of_cons-eq, map, nil≢cons, tail-eq_of_cons-eq}
use Rattle.std.proofs.Common.{◌∙◌, ap, ap₂, sym, div-one, mod-eq_of_lt, mul-one, suc-mul, zero-mul, shr-shr}
use Rattle.std.proofs.Math.Nat.{mod-one}
use Rattle.std.proofs.lemmas.Nat.{and_mask, mod-pow-add}
use Rattle.std.specs.Int.Bits.{bit_and}
use Rattle.std.proofs.lemmas.List.{length-map}
use Rattle.matching.specs.Laws.Bools.{and_both, and_l, and_r, both_ways}
use Rattle.matching.specs.Laws.Words.{below-drop, drop-ends, ends_append, ends-drop, ends-split}
use Rattle.matching.specs.Slicing.{reduced, slice, slices}
use Rattle.matching.specs.Words.{AllBelow, Below, Word, ends}

abbrev pub Agree : List (ℕ → ℕ) → ℕ → ℕ → Type 0
Agree [] a b = Unit {0}
Agree (f ∷ fs) a b = (f a ≡ f b) × Agree fs a b

-- fs together tell the numbers below m apart
abbrev pub Apart : List (ℕ → ℕ) → ℕ → Type 0
Apart fs m = (a b : ℕ) → a < m → b < m → Agree fs a b → a ≡ b

-- each slice of t ends that slice of w
unfoldable pub ends_all : List (ℕ → ℕ) → Word → Word → Bool
ends_all [] t w = true
ends_all (f ∷ fs) t w = ends (map f t) (map f w) && ends_all fs t w

-- ---- map

pub map_append : (f : ℕ → ℕ) (u v : Word) → map f (u ++ v) ≡ map f u ++ map f v
map_append f [] v = refl
map_append f (x ∷ u) v = ap {B = Word} (λ (l : Word). f x ∷ l) (map_append f u v)

pub map-take : (f : ℕ → ℕ) (n : ℕ) (w : Word) → take n (map f w) ≡ map f (take n w)
map-take f zero w = refl
map-take f (suc n) [] = refl
map-take f (suc n) (x ∷ w) = ap {B = Word} (λ (l : Word). f x ∷ l) (map-take f n w)

pub map-drop : (f : ℕ → ℕ) (n : ℕ) (w : Word) → drop n (map f w) ≡ map f (drop n w)
map-drop f zero w = refl
map-drop f (suc n) [] = refl
map-drop f (suc n) (x ∷ w) = map-drop f n w

pub ends-map : (f : ℕ → ℕ) (t w : Word) → ends t w ≡ true → ends (map f t) (map f w) ≡ true
ends-map f t w h = let r = ends-split t w h in rw (r.1, map_append f r.0 t) (ends_append (map f r.0) (map f t))

-- ---- words that agree in each slice

abbrev AgreeW : List (ℕ → ℕ) → Word → Word → Type 0
AgreeW [] a b = Unit {0}
AgreeW (f ∷ fs) a b = (map f a ≡ map f b) × AgreeW fs a b

heads : (fs : List (ℕ → ℕ)) (x y : ℕ) (a b : Word) → AgreeW fs (x ∷ a) (y ∷ b) → Agree fs x y
heads [] x y a b h = tt
heads (f ∷ fs) x y a b h = (head-eq_of_cons-eq h.0, heads fs x y a b h.1)

tails : (fs : List (ℕ → ℕ)) (x y : ℕ) (a b : Word) → AgreeW fs (x ∷ a) (y ∷ b) → AgreeW fs a b
tails [] x y a b h = tt
tails (f ∷ fs) x y a b h = (tail-eq_of_cons-eq h.0, tails fs x y a b h.1)

words-apart : (f : ℕ → ℕ) (fs : List (ℕ → ℕ)) (m : ℕ) → Apart (f ∷ fs) m → (a b : Word) → Below m a → Below m b → AgreeW (f ∷ fs) a b → a ≡ b
words-apart f fs m k [] [] ha hb h = refl
words-apart f fs m k [] (y ∷ b) ha hb h = absurd (nil≢cons h.0)
words-apart f fs m k (x ∷ a) [] ha hb h = absurd (cons≢nil h.0)
words-apart f fs m k (x ∷ a) (y ∷ b) ha hb h =
    ap₂ ◌∷◌ (k x y ha.0 hb.0 (heads (f ∷ fs) x y a b h)) (words-apart f fs m k a b ha.1 hb.1 (tails (f ∷ fs) x y a b h))

-- ---- the theorem

slice-drop : (f : ℕ → ℕ) (t w : Word) → ends (map f t) (map f w) ≡ true → map f (drop (length w - length t) w) ≡ map f t
slice-drop f t w h =
    sym (map-drop f (length w - length t) w)
    ∙ ap₂ (λ (n k : ℕ). drop (n - k) (map f w)) (sym (length-map w f)) (sym (length-map t f))
    ∙ ends-drop (map f t) (map f w) h

slices-drop : (fs : List (ℕ → ℕ)) (t w : Word) → ends_all fs t w ≡ true → AgreeW fs (drop (length w - length t) w) t
unfolding ends_all
slices-drop [] t w h = tt
slices-drop (f ∷ fs) t w h =
    (slice-drop f t w (and_l (ends (map f t) (map f w)) (ends_all fs t w) h), slices-drop fs t w (and_r (ends (map f t) (map f w)) (ends_all fs t w) h))

pub ends-slices : (fs : List (ℕ → ℕ)) (t w : Word) → ends t w ≡ true → ends_all fs t w ≡ true
unfolding ends_all
ends-slices [] t w h = refl
ends-slices (f ∷ fs) t w h = and_both (ends (map f t) (map f w)) (ends_all fs t w) (ends-map f t w h) (ends-slices fs t w h)

pub slices-end : (f : ℕ → ℕ) (fs : List (ℕ → ℕ)) (m : ℕ) → Apart (f ∷ fs) m → (t w : Word) → Below m t → Below m w
    → ends_all (f ∷ fs) t w ≡ ends t w
slices-end f fs m k t w ht hw =
    both_ways (ends_all (f ∷ fs) t w) (ends t w)
    (λ h. drop-ends t w (words-apart f fs m k (drop (length w - length t) w) t (below-drop m (length w - length t) w hw) ht (slices-drop (f ∷ fs) t w h)))
    (λ h. ends-slices (f ∷ fs) t w h)

-- ---- k slices of n bits tell the numbers below 2 ^ (k * n) apart

slices_agree : (k n m x y : ℕ) → Agree (slices n m k) x y → x / 2 ^ (m * n) % 2 ^ (k * n) ≡ y / 2 ^ (m * n) % 2 ^ (k * n)
unfolding slices slice
slices_agree zero n m x y h = rw (zero-mul n, mod-one (x / 2 ^ (m * n)), mod-one (y / 2 ^ (m * n))) refl
slices_agree (suc k) n m x y h =
    open_up x
    ∙ ap₂ (λ (p q : ℕ). p * 2 ^ n + q) (slices_agree k n (suc m) x y h.1) h.0
    ∙ sym (open_up y)
  where
    open_up : (z : ℕ) → z / 2 ^ (m * n) % 2 ^ (suc k * n) ≡ (z / 2 ^ (suc m * n) % 2 ^ (k * n)) * 2 ^ n + z / 2 ^ (m * n) % 2 ^ n
    open_up z =
        ap (λ (e : ℕ). z / 2 ^ (m * n) % 2 ^ e) (suc-mul k n) ∙ mod-pow-add (z / 2 ^ (m * n)) (k * n) n
        ∙ ap (λ (p : ℕ). (p % 2 ^ (k * n)) * 2 ^ n + z / 2 ^ (m * n) % 2 ^ n) (shr-shr z (m * n) n ∙ ap (λ (e : ℕ). z / 2 ^ e) (sym (suc-mul m n)))

pub slices-apart : (n k : ℕ) → Apart (slices n 0 k) (2 ^ (k * n))
slices-apart n k a b ha hb h = sym (whole a ha) ∙ slices_agree k n 0 a b h ∙ whole b hb
  where
    whole : (z : ℕ) → z < 2 ^ (k * n) → z / 2 ^ (0 * n) % 2 ^ (k * n) ≡ z
    whole z hz = ap (λ (e : ℕ). z / 2 ^ e % 2 ^ (k * n)) (zero-mul n) ∙ ap (λ (p : ℕ). p % 2 ^ (k * n)) (div-one z) ∙ mod-eq_of_lt hz

-- a byte's eight bits, its four pairs of bits, and the byte itself
pub bits-apart : Apart (slices 1 0 8) 256
bits-apart = slices-apart 1 8

pub pairs-apart : Apart (slices 2 0 4) 256
pairs-apart = slices-apart 2 4

pub byte-apart : Apart (slices 8 0 1) 256
byte-apart = slices-apart 8 1

-- ---- slices as the code cuts them

pub slice_bit : (m c : ℕ) → slice 1 m c ≡ bit_and (c / 2 ^ m) 1
unfolding slice
slice_bit m c = ap (λ (e : ℕ). c / 2 ^ e % 2) (mul-one m) ∙ sym (and_mask (c / 2 ^ m) 1)

-- the one slice of eight bits is the byte
pub slice-byte : (c : ℕ) → c < 256 → slice 8 0 c ≡ c
unfolding slice
slice-byte c h = ap (λ (x : ℕ). x % 256) (div-one c) ∙ mod-eq_of_lt h

pub map-byte : (w : Word) → Below 256 w → map (slice 8 0) w ≡ w
map-byte [] h = refl
map-byte (c ∷ w) h = ap₂ ◌∷◌ (slice-byte c h.0) (map-byte w h.1)

pub reduced-byte : (ts : List Word) → AllBelow 256 ts → reduced (slice 8 0) ts ≡ ts
unfolding reduced
reduced-byte [] h = refl
reduced-byte (t ∷ ts) h = ap₂ ◌∷◌ (map-byte t h.0) (reduced-byte ts h.1)
