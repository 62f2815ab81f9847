-- The digits that the kit's io writes for a number are these: its fewest decimal digits.
use Rattle.std.specs.Prelude.{ℕ, zero, suc, ◌+◌, ◌-◌, ◌/◌, ◌%◌, ◌^◌, ◌<◌, ◌≤◌, List, [], ◌∷◌, ◌++◌, ◌⊎◌, ◌≡◌, refl}
use Rattle.std.proofs.Common.{lt-ltb, le-ltb, inl, inr, ap, eq-zero-or-pos, div-lt_iff_lt-mul, le-div_iff_mul-le, mod-lt, mod-eq_of_lt, pow-suc, arith}
use Rattle.std.proofs.Math.Nat.{pow-le-pow_right}
use Rattle.io.specs.Digits.{last_digits, IsDigitCount}
use Rattle.output.specs.Decimal.{decimal_in, decimal_of}

-- a number of more digits than one is no smaller than its first digit's place
first-place : (n k : ℕ) → IsDigitCount 10 1 n (suc (suc k)) → 10 ^ suc k ≤ n
first-place n k f =
    let one_less : suc (suc k) - 1 ≡ suc k = omega arith in
    rw one_less at (f.2 (omega arith))

-- the fewest digits of a tenth are one fewer
fewest_tenth : (n k : ℕ) → IsDigitCount 10 1 n (suc (suc k)) → IsDigitCount 10 1 (n / 10) (suc k)
fewest_tenth n k f =
    let one_less : suc k - 1 ≡ k = omega arith in (
      omega arith,
      (div-lt_iff_lt-mul {k = 10} {x = n} {y = 10 ^ suc k} (omega arith)).1 (rw (← pow-suc 10 (suc k)) f.1),
      λ h. rw one_less ((le-div_iff_mul-le {k = 10} {x = 10 ^ k} {y = n} (omega arith)).1 (rw (← pow-suc 10 k) (first-place n k f))),
    )

pub fewest_digits : (m k n : ℕ) → IsDigitCount 10 1 n k → k ≤ m → last_digits 10 k n ≡ decimal_in m n
unfolding decimal_in
fewest_digits m zero n f h = absurd (omega (arith, f.0))
fewest_digits zero (suc k) n f h = absurd (omega arith)
fewest_digits (suc m) (suc zero) n f h =
    let small : n < 10 = f.1 in
    rw (mod-eq_of_lt small, lt-ltb n 10 small) refl
fewest_digits (suc m) (suc (suc k)) n f h =
    let power : 10 ^ 1 ≤ 10 ^ suc k = pow-le-pow_right (omega arith) {i = 1} {j = suc k} (omega arith) in
    let large : 10 ≤ n = omega (arith, power, first-place n k f) in
    rw (le-ltb n 10 large, lt-ltb (n % 10) 10 (mod-lt n (omega arith)))
    (ap (λ (l : List ℕ). l ++ ((48 + n % 10) ∷ [])) (fewest_digits m (suc k) (n / 10) (fewest_tenth n k f) (omega arith)))

-- no 64-bit number has more digits than twenty
at-most_twenty : (n k : ℕ) → n < 18446744073709551616 → IsDigitCount 10 1 n k → k ≤ 20
at-most_twenty n k h f = go (eq-zero-or-pos (k - 20))
  where
    go : (k - 20 ≡ 0) ⊎ (0 < k - 20) → k ≤ 20
    go (inl few) = omega arith
    go (inr many) =
        let power : 10 ^ 20 ≤ 10 ^ (k - 1) = pow-le-pow_right (omega arith) {i = 20} {j = k - 1} (omega arith) in
        absurd (omega (arith, power, f.2 (omega arith)))

pub decimal_digits : (n places : ℕ) → n < 18446744073709551616 → IsDigitCount 10 1 n places → last_digits 10 places n ≡ decimal_of n
unfolding decimal_of
decimal_digits n places h f = fewest_digits 20 places n f (at-most_twenty n places h f)
