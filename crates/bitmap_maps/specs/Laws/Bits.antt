-- The bits of a word of a map: when two tests make the same word, and the word with one bit more.
use Rattle.std.specs.Prelude.{◌%◌, ◌*◌, ◌+◌, ◌-◌, ◌/◌, ◌<◌, ◌^◌, ◌≤◌, suc, zero, ℕ, Bool, ◌||◌, cond, false, true, ◌≡◌, refl, eqb}
use Rattle.std.proofs.Math.Bool.{or-false}
use Rattle.std.proofs.Common.{◌∙◌, ap, ap₂, subst, sym, add-zero, mod-lt, not-suc-le-zero, pow-suc, one-add, arith, lit<, eq-eqb, ne_eqb}
use Rattle.std.proofs.lemmas.Nat.Bits.{and_high}
use Rattle.std.specs.Int.Bits.{bit_and, bit_or, or_add_and}
use Rattle.bitmap.specs.Laws.Maps.{bits_at}
use Rattle.bitmap.specs.Slots.{bits_from}

pub bit_is : (b : Bool) (x : ℕ) → x ≡ cond b 1 0 → eqb x 1 ≡ b
bit_is true x e = rw e refl
bit_is false x e = rw e refl

-- two tests that agree on c, .., c + n - 1
pub bits-same : (f g : ℕ → Bool) (n c : ℕ) → ((x : ℕ) → c ≤ x → x < c + n → f x ≡ g x) → bits_from f c n ≡ bits_from g c n
unfolding bits_from
bits-same f g zero c e = refl
bits-same f g (suc n) c e =
    ap₂ (λ (x : ℕ) (b : Bool). x * 2 + cond b 1 0) (bits-same f g n (suc c) (λ x h k. e x (omega arith) (omega arith))) (e c (omega arith) (omega arith))

-- a test that nothing passes
pub bits_none : (n c : ℕ) → bits_from (λ x. false) c n ≡ 0
unfolding bits_from
bits_none zero c = refl
bits_none (suc n) c = omega (arith, bits_none n (suc c))

spread : (b : Bool) (n : ℕ) → cond b 0 (2 ^ n) * 2 ≡ cond b 0 (2 ^ suc n)
spread true n = refl
spread false n = sym (pow-suc 2 n)

joined : (b : Bool) → ◌≡◌ {A = ℕ} (cond b 1 0 + cond b 0 1) 1
joined true = refl
joined false = refl

-- one bit more, unless it is there
pub bits-with : (g : ℕ → Bool) (n c k : ℕ) → k < n → bits_from g c n + cond (g (c + k)) 0 (2 ^ k) ≡ bits_from (λ x. g x || eqb (c + k) x) c n
unfolding bits_from
bits-with g zero c k h = absurd (not-suc-le-zero h)
bits-with g (suc n) c zero h =
    let rest : bits_from (λ x. g x || eqb (c + 0) x) (suc c) n ≡ bits_from g (suc c) n =
    bits-same (λ x. g x || eqb (c + 0) x) g n (suc c) (λ x l m. ap (λ (b : Bool). g x || b) (ne_eqb (c + 0) x (λ z. omega arith)) ∙ or-false (g x)) in
    let here : ◌≡◌ {A = ℕ} (cond (g c || eqb (c + 0) c) 1 0) 1 = ap (λ (b : Bool). cond (g c || b) 1 0) (eq-eqb (c + 0) c (add-zero c)) ∙ ones (g c) in
    let z : ◌≡◌ {A = ℕ} (cond (g (c + 0)) 0 1) (cond (g c) 0 1) = ap (λ (x : ℕ). cond (g x) 0 1) (add-zero c) in
    omega (arith, rest, here, z, joined (g c))
  where
    ones : (b : Bool) → ◌≡◌ {A = ℕ} (cond (b || true) 1 0) 1
    ones true = refl
    ones false = refl
bits-with g (suc n) c (suc k) h =
    let z : suc c + k ≡ c + suc k = omega arith in
    let rest : bits_from g (suc c) n + cond (g (c + suc k)) 0 (2 ^ k) ≡ bits_from (λ x. g x || eqb (c + suc k) x) (suc c) n =
    subst (λ (y : ℕ). bits_from g (suc c) n + cond (g y) 0 (2 ^ k) ≡ bits_from (λ x. g x || eqb y x) (suc c) n) z (bits-with g n (suc c) k (omega arith)) in
    let here : ◌≡◌ {A = ℕ} (cond (g c || eqb (c + suc k) c) 1 0) (cond (g c) 1 0) =
    ap (λ (b : Bool). cond b 1 0) (ap (λ (b : Bool). g c || b) (ne_eqb (c + suc k) c (λ e. omega arith)) ∙ or-false (g c)) in
    omega (arith, rest, here, spread (g (c + suc k)) k)

-- OR with a power of two sets its bit
pub or_bit : (n k : ℕ) → bit_or n (2 ^ k) ≡ n + cond (eqb (n / 2 ^ k % 2) 1) 0 (2 ^ k)
or_bit n k = go (n / 2 ^ k % 2) (mod-lt (n / 2 ^ k) (lit< tt)) sum
  where
    one : 2 ^ k ≡ 2 ^ (1 + k) - 2 ^ k
    one = omega (arith, pow-suc 2 k, ap (λ (x : ℕ). 2 ^ x) (one-add k))

    sum : bit_or n (2 ^ k) + n / 2 ^ k % 2 * 2 ^ k ≡ n + 2 ^ k
    sum = ap (λ (x : ℕ). bit_or n (2 ^ k) + x) (sym (ap (bit_and n) one ∙ and_high n 1 k)) ∙ or_add_and n (2 ^ k)

    go : (b : ℕ) → b < 2 → bit_or n (2 ^ k) + b * 2 ^ k ≡ n + 2 ^ k → bit_or n (2 ^ k) ≡ n + cond (eqb b 1) 0 (2 ^ k)
    go zero h e = omega (arith, e)
    go (suc zero) h e = omega (arith, e)
    go (suc (suc b)) h e = absurd (omega arith)

-- a word of a map with one bit more
pub bits_or : (g : ℕ → Bool) (n c k : ℕ) → k < n → bit_or (bits_from g c n) (2 ^ k) ≡ bits_from (λ x. g x || eqb (c + k) x) c n
bits_or g n c k h =
    or_bit (bits_from g c n) k
    ∙ ap (λ (b : Bool). bits_from g c n + cond b 0 (2 ^ k)) (bit_is (g (c + k)) (bits_from g c n / 2 ^ k % 2) (bits_at g k c n h))
    ∙ bits-with g n c k h
