-- What is known of the mask of the tags that end in some bytes; and that a number is known by its bits.
use Rattle.std.specs.Prelude.{ℕ, zero, suc, ◌+◌, ◌*◌, ◌/◌, ◌<◌, ◌≤◌, ◌%◌, ◌^◌, Bool, ◌||◌, cond, false, true, ◌↔◌, ◌⊎◌, ◌≡◌, refl, length, take}
use Rattle.std.proofs.Common.{inl, inr, ◌∙◌, sym, ap, ap₂, subst, div-one, pow-suc, arith, pow_pos, shr-shr, shr_lt}
use Rattle.std.proofs.Math.Decide.{ℕ_discrete}
use Rattle.std.proofs.Math.Nat.{div-eq_of_lt}
use Rattle.std.proofs.Math.Arith.{digits_div, digits_lt, digits_mod}
use Rattle.std.proofs.Math.Pow.{split}
use Rattle.history.specs.Verdict.{EndsAt}
use Rattle.matching.specs.Laws.Bools.{not-both, or_cases, or_l, or_r}
use Rattle.matching.specs.Laws.Tags.{ends-among}
use Rattle.matching.specs.Laws.Vectors.{one_lt}
use Rattle.matching.specs.Tags.{Tags, tag_count, tag_ends}
use Rattle.matching.specs.Words.{Word}
use Rattle.verdicts.specs.Mask.{any_up_to, carried, mask_of, number_of}

-- a bit past the lowest is one of the half
half_bit : (a i : ℕ) → a / 2 ^ suc i % 2 ≡ a / 2 / 2 ^ i % 2
half_bit a i = let e : suc i ≡ 1 + i = omega arith in ap (λ (x : ℕ). a / 2 ^ x % 2) e ∙ ap (λ (x : ℕ). x % 2) (sym (shr-shr a 1 i))

low_bit : (a : ℕ) → a / 2 ^ 0 % 2 ≡ a % 2
low_bit a = ap (λ (x : ℕ). x % 2) (div-one a)

-- EQUAL BITS ARE EQUAL NUMBERS, of as many bits as are compared
pub same_bits : (n a b : ℕ) → a < 2 ^ n → b < 2 ^ n → ((i : ℕ) → i < n → a / 2 ^ i % 2 ≡ b / 2 ^ i % 2) → a ≡ b
same_bits zero a b ha hb f = omega (arith, ha, hb)
same_bits (suc n) a b ha hb f =
    let e : suc n ≡ n + 1 = omega arith in
    let x : a / 2 < 2 ^ n = shr_lt n 1 (subst (λ (k : ℕ). a < 2 ^ k) e ha) in
    let y : b / 2 < 2 ^ n = shr_lt n 1 (subst (λ (k : ℕ). b < 2 ^ k) e hb) in
    let halves : a / 2 ≡ b / 2 = same_bits n (a / 2) (b / 2) x y (λ i h. sym (half_bit a i) ∙ f (suc i) (omega (arith, h)) ∙ half_bit b i) in
    let lows : a % 2 ≡ b % 2 = sym (low_bit a) ∙ f 0 (omega arith) ∙ low_bit b in
    sym (split a 1) ∙ ap₂ (λ (q r : ℕ). q * 2 + r) halves lows ∙ split b 1

pub number_lt : (n : ℕ) (f : ℕ → Bool) → number_of n f < 2 ^ n
unfolding number_of
number_lt zero f = omega arith
number_lt (suc n) f = rw (pow-suc 2 n) (digits_lt (number_lt n (λ i. f (suc i))) (one_lt (f 0)))

pub number_bit : (n : ℕ) (f : ℕ → Bool) (i : ℕ) → i < n → number_of n f / 2 ^ i % 2 ≡ cond (f i) 1 0
unfolding number_of
number_bit zero f i h = absurd (omega (arith, h))
number_bit (suc n) f zero h = low_bit (number_of n (λ i. f (suc i)) * 2 + cond (f 0) 1 0) ∙ digits_mod (number_of n (λ i. f (suc i))) (one_lt (f 0))
number_bit (suc n) f (suc i) h =
    half_bit (number_of n (λ i. f (suc i)) * 2 + cond (f 0) 1 0) i
    ∙ ap (λ (x : ℕ). x / 2 ^ i % 2) (digits_div (number_of n (λ i. f (suc i))) (one_lt (f 0)))
    ∙ number_bit n (λ i. f (suc i)) i (omega (arith, h))

any_at : (n : ℕ) (f : ℕ → Bool) → any_up_to n f ≡ true → (e : ℕ) × (0 < e) × (e ≤ n) × (f e ≡ true)
unfolding any_up_to
any_at zero f h = absurd (not-both h refl)
any_at (suc n) f h = go (or_cases (f (suc n)) (any_up_to n f) h) (any_at n f)
  where
    go : (f (suc n) ≡ true) ⊎ (any_up_to n f ≡ true) → (any_up_to n f ≡ true → (e : ℕ) × (0 < e) × (e ≤ n) × (f e ≡ true))
        → (e : ℕ) × (0 < e) × (e ≤ suc n) × (f e ≡ true)
    go (inl q) ih = (suc n, omega arith, omega arith, q)
    go (inr q) ih = let z = ih q in (z.0, z.1, omega (arith, z.2), z.3)

at_any : (n : ℕ) (f : ℕ → Bool) (e : ℕ) → 0 < e → e ≤ n → f e ≡ true → any_up_to n f ≡ true
unfolding any_up_to
at_any zero f e p h q = absurd (omega (arith, p, h))
at_any (suc n) f e p h q = go (ℕ_discrete e (suc n)) (at_any n f e p)
  where
    go : Dec (e ≡ suc n) → (e ≤ n → f e ≡ true → any_up_to n f ≡ true) → (f (suc n) || any_up_to n f) ≡ true
    go (yes z) ih = or_l (f (suc n)) (any_up_to n f) (subst (λ (k : ℕ). f k ≡ true) z q)
    go (no z) ih = or_r (f (suc n)) (any_up_to n f) (ih (omega (arith, h, z)) q)

-- a tag is carried exactly if it ends somewhere
pub carried_iff : (tags : Tags) (bytes : Word) (i : ℕ) → (carried tags bytes i ≡ true) ↔ ((e : ℕ) × EndsAt tags bytes i e)
carried_iff tags bytes i = (
  λ h. (let z = any_at (length bytes) (λ e. tag_ends tags i (take e bytes)) h in (z.0, record { later = z.1; inside = z.2; ending = z.3 })),
  λ z. at_any (length bytes) (λ e. tag_ends tags i (take e bytes)) z.0 z.1.later z.1.inside z.1.ending,
)

is_one : (b : Bool) → ◌≡◌ {A = ℕ} (cond b 1 0) 1 → b ≡ true
is_one true e = refl
is_one false e = absurd (omega (arith, e))

-- THE BITS OF THE MASK: bit i is 1 exactly if tag i ends somewhere in the bytes
pub mask_bit : (tags : Tags) (bytes : Word) (i : ℕ) → i < 64 → (mask_of tags bytes / 2 ^ i % 2 ≡ 1) ↔ ((e : ℕ) × EndsAt tags bytes i e)
mask_bit tags bytes i h =
    let bit = number_bit 64 (carried tags bytes) i h in (
      λ e. (carried_iff tags bytes i).0 (is_one (carried tags bytes i) (sym bit ∙ e)),
      λ z. bit ∙ ap (λ (b : Bool). cond b 1 0) ((carried_iff tags bytes i).1 z),
    )

zero_bit : (i : ℕ) → 0 / 2 ^ i % 2 ≡ 0
zero_bit i = ap (λ (x : ℕ). x % 2) (div-eq_of_lt (pow_pos i))

not-one : (b : Bool) → (b ≡ true → ⊥) → ◌≡◌ {A = ℕ} (cond b 1 0) 0
not-one true f = absurd (f refl)
not-one false f = refl

-- the mask is 0 exactly if no tag ends anywhere
pub mask-none : (tags : Tags) (bytes : Word) → tag_count tags ≤ 64 → (mask_of tags bytes ≡ 0) ↔ ((i e : ℕ) → EndsAt tags bytes i e → ⊥)
mask-none tags bytes few = (none, back)
  where
    none : mask_of tags bytes ≡ 0 → (i e : ℕ) → EndsAt tags bytes i e → ⊥
    none z i e x =
        let h : i < 64 = omega (arith, few, ends-among tags i (take e bytes) x.ending) in
        omega (arith, (mask_bit tags bytes i h).1 (e, x), ap (λ (y : ℕ). y / 2 ^ i % 2) z, zero_bit i)

    back : ((i e : ℕ) → EndsAt tags bytes i e → ⊥) → mask_of tags bytes ≡ 0
    back f =
        same_bits 64 (mask_of tags bytes) 0 (number_lt 64 (carried tags bytes)) (pow_pos 64)
        (λ i h. number_bit 64 (carried tags bytes) i h ∙ not-one (carried tags bytes i) (λ q. (let z = (carried_iff tags bytes i).0 q in f i z.0 z.1))
        ∙ sym (zero_bit i))
