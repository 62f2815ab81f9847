-- Laws of digits and numbers.
use Rattle.std.specs.Prelude.{ℕ, zero, suc, ◌+◌, ◌*◌, ◌-◌, ◌≤◌, ◌<◌, ◌≡◌, refl, Bool, true, false, ◌&&◌, not, List, [], ◌∷◌, eqb, leb, ltb, length, get_or, drop, Option, Some, None}
use Rattle.std.proofs.Common.{arith, add-one, sym, ap, ◌∙◌, drop_of_length-le, drop-cons, eq-eqb, ne_eqb, le-leb, lt-ltb, le-ltb, ltb-true, leb-true}
use Rattle.std.proofs.Math.Bool.{and-false}
use Rattle.std.proofs.lemmas.Bool.{lt-leb}
use Rattle.std.proofs.lemmas.Bool.Decides.{nat_tests}
use Rattle.std.specs.Char.{IsNotAsciiDigit}
use Rattle.std.proofs.lemmas.Option.{some_pair_parts}
use Rattle.matching.specs.Laws.Bools.{and_l, and_r}
use Rattle.script.specs.Numbers.{digit_of, all_digits, value_from, number_by, number_of, both_by, numbers_of}
use Rattle.script.specs.Words.{word_of, behind}

-- ---- digits

pub digit_below : (b : ℕ) → b < 48 → digit_of b ≡ 16
unfolding digit_of
digit_below b h = let g : b < 97 = omega arith in rw (lt-leb 48 b h, lt-leb 97 b g)

pub digit_decimal : (b : ℕ) → 48 ≤ b → b ≤ 57 → digit_of b ≡ b - 48
unfolding digit_of
digit_decimal b h g = rw (le-leb 48 b h, le-leb b 57 g)

pub digit_between : (b : ℕ) → 57 < b → b < 97 → digit_of b ≡ 16
unfolding digit_of
digit_between b h g = let f : 48 ≤ b = omega arith in rw (le-leb 48 b f, lt-leb b 57 h, lt-leb 97 b g)

pub digit_letter : (b : ℕ) → 97 ≤ b → b ≤ 102 → digit_of b ≡ b - 87
unfolding digit_of
digit_letter b h g = let f : 48 ≤ b = omega arith in let e : 57 < b = omega arith in rw (le-leb 48 b f, lt-leb b 57 e, le-leb 97 b h, le-leb b 102 g)

pub digit_above : (b : ℕ) → 102 < b → digit_of b ≡ 16
unfolding digit_of
digit_above b h = let f : 48 ≤ b = omega arith in let e : 57 < b = omega arith in let g : 97 ≤ b = omega arith in
    rw (le-leb 48 b f, lt-leb b 57 e, le-leb 97 b g, lt-leb b 102 h)

-- a byte that is no decimal digit, by the library's test
pub digit_other : (b : ℕ) → IsNotAsciiDigit b → 10 ≤ digit_of b
unfolding digit_of
digit_other b h = grind (arith, nat_tests)

-- ---- runs of digits

pub digits_miss : (base : ℕ) (l : List ℕ) (i : ℕ) → i < length l → base ≤ digit_of (get_or l i 0) → all_digits base (drop i l) ≡ false
unfolding all_digits
digits_miss base l i h g = rw (drop-cons l i 0 h, le-ltb _ _ g)

pub digits_step : (base : ℕ) (l : List ℕ) (i : ℕ) → i < length l → digit_of (get_or l i 0) < base → all_digits base (drop i l) ≡ all_digits base (drop (i + 1) l)
unfolding all_digits
digits_step base l i h g = rw (add-one i, drop-cons l i 0 h, lt-ltb _ _ g)

pub digits_end : (base : ℕ) (l : List ℕ) (i : ℕ) → length l ≤ i → all_digits base (drop i l) ≡ true
unfolding all_digits
digits_end base l i h = rw (drop_of_length-le l h)

pub digits_at : (base : ℕ) (l : List ℕ) → all_digits base l ≡ true → (i : ℕ) → i < length l → digit_of (get_or l i 0) < base
unfolding all_digits
digits_at base [] e i h = absurd (omega arith)
digits_at base (x ∷ l) e zero h = ltb-true (digit_of x) base (and_l (ltb (digit_of x) base) (all_digits base l) e)
digits_at base (x ∷ l) e (suc i) h = digits_at base l (and_r (ltb (digit_of x) base) (all_digits base l) e) i (omega arith)

-- ---- their value

pub value-step : (n : ℕ) (l : List ℕ) (i : ℕ) → i < length l → value_from n (drop i l) ≡ value_from (n * 10 + digit_of (get_or l i 0)) (drop (i + 1) l)
unfolding value_from
value-step n l i h = rw (add-one i, drop-cons l i 0 h)

pub value-end : (n : ℕ) (l : List ℕ) (i : ℕ) → length l ≤ i → value_from n (drop i l) ≡ n
unfolding value_from
value-end n l i h = rw (drop_of_length-le l h)

pub value_le : (n : ℕ) (l : List ℕ) → n ≤ value_from n l
unfolding value_from
value_le n [] = omega arith
value_le n (x ∷ l) = omega (arith, value_le (n * 10 + digit_of x) l)

-- ---- NUMBER

pub number-empty : (most : ℕ) (w : List ℕ) → length w ≡ 0 → number_of most w ≡ None
unfolding number_of
number-empty most w e = rw (eq-eqb _ _ e)

pub number-other : (most : ℕ) (w : List ℕ) → all_digits 10 w ≡ false → number_of most w ≡ None
unfolding number_of
number-other most w e = rw (e, and-false)

pub number_large : (most : ℕ) (w : List ℕ) → most < value_from 0 w → number_of most w ≡ None
unfolding number_of
number_large most w h = rw (lt-leb _ _ h, and-false, and-false)

pub number_is : (most : ℕ) (w : List ℕ) → (length w ≡ 0 → ⊥) → all_digits 10 w ≡ true → value_from 0 w ≤ most → number_of most w ≡ Some (value_from 0 w)
unfolding number_of
number_is most w h e g = rw (ne_eqb _ _ h, e, le-leb _ _ g)

-- ---- a number is read digit by digit

pub value-more : (w : List ℕ) (i n d : ℕ) → i < length w → d ≡ digit_of (get_or w i 0) → value_from 0 w ≡ value_from n (drop i w)
    → value_from 0 w ≡ value_from (n * 10 + d) (drop (i + 1) w)
value-more w i n d h e v = rw e (v ∙ value-step n w i h)

pub value_large : (most : ℕ) (w : List ℕ) (i n d : ℕ) → i < length w → d ≡ digit_of (get_or w i 0) → value_from 0 w ≡ value_from n (drop i w)
    → most < n * 10 + d → number_of most w ≡ None
value_large most w i n d h e v g =
    number_large most w (omega (arith, value-more w i n d h e v, value_le (n * 10 + d) (drop (i + 1) w)))

pub value-whole : (most : ℕ) (w : List ℕ) (i n : ℕ) → (length w ≡ 0 → ⊥) → all_digits 10 w ≡ true → length w ≤ i → n ≤ most
    → value_from 0 w ≡ value_from n (drop i w) → number_of most w ≡ Some n
value-whole most w i n h e g m v =
    let is : value_from 0 w ≡ n = v ∙ value-end n w i g in
    let small : value_from 0 w ≤ most = omega arith in
    number_is most w h e small ∙ ap Some is

-- a number is at most as large as it may be
pub number-most : (most : ℕ) (w : List ℕ) (n : ℕ) → number_of most w ≡ Some n → n ≤ most
unfolding number_of
number-most most w n e = go (not (eqb (length w) 0)) (all_digits 10 w) (leb (value_from 0 w) most) refl e
  where
    other : None ≡ Some n → ⊥
    other f = let z : ◌≡◌ {A = ℕ} 0 1 = cc in omega arith

    go : (p q t : Bool) → leb (value_from 0 w) most ≡ t → number_by (value_from 0 w) (p && (q && t)) ≡ Some n → n ≤ most
    go true true true f g = let h : value_from 0 w ≡ n = cc in omega (arith, leb-true (value_from 0 w) most f)
    go true true false f g = absurd (other g)
    go true false t f g = absurd (other g)
    go false q t f g = absurd (other g)

-- what was read of a word that is known
pub number-said : (most : ℕ) (u : List ℕ) {v : List ℕ} {r : Option ℕ} (x : Option ℕ) → r ≡ number_of most v → v ≡ u → r ≡ x → number_of most u ≡ x
number-said most u x f e g = sym (ap (number_of most) e) ∙ sym f ∙ g

-- ---- two numbers

both_first : (x y : Option ℕ) (n m : ℕ) → both_by x y ≡ Some (n, m) → x ≡ Some n
both_first (Some k) (Some l) n m e = ap Some (some_pair_parts k n l m e).0
both_first (Some k) None n m e = cc
both_first None y n m e = cc

both-second : (x y : Option ℕ) (n m : ℕ) → both_by x y ≡ Some (n, m) → y ≡ Some m
both-second (Some k) (Some l) n m e = ap Some (some_pair_parts k n l m e).1
both-second (Some k) None n m e = cc
both-second None y n m e = cc

-- each is at most as large as it may be
pub first-most : (first last : ℕ) (w : List ℕ) (n m : ℕ) → numbers_of first last w ≡ Some (n, m) → n ≤ first
unfolding numbers_of
first-most first last w n m e = number-most first (word_of w) n (both_first (number_of first (word_of w)) (number_of last (word_of (behind w))) n m e)

pub second-most : (first last : ℕ) (w : List ℕ) (n m : ℕ) → numbers_of first last w ≡ Some (n, m) → m ≤ last
unfolding numbers_of
second-most first last w n m e = number-most last (word_of (behind w)) m (both-second (number_of first (word_of w)) (number_of last (word_of (behind w))) n m e)

-- from what the numbers of two words were found to be
pub numbers_are : (first last : ℕ) (w : List ℕ) (x y : Option ℕ) → number_of first (word_of w) ≡ x → number_of last (word_of (behind w)) ≡ y
    → both_by x y ≡ numbers_of first last w
unfolding numbers_of
numbers_are first last w x y e f = rw (e, f)

pub numbers_none : (first last : ℕ) (w : List ℕ) → number_of first (word_of w) ≡ None → None ≡ numbers_of first last w
unfolding numbers_of
numbers_none first last w e = rw e
