-- Laws of bytes that are put into a buffer.
use Rattle.std.specs.Prelude.{ℕ, suc, ◌+◌, ◌*◌, ◌-◌, ◌≤◌, ◌<◌, ◌%◌, ◌≡◌, refl, true, false, List, [], ◌∷◌, ◌++◌, length, get_or, take, drop, set, Option, Some, None}
use Rattle.std.proofs.Common.{arith, add-one, sym, ap, ◌∙◌, append_assoc, drop_of_length-le, drop-cons, length-take-le, take-suc-set, take_at, eq-eqb, ne_eqb}
use Rattle.std.proofs.Math.Bool.{and-false}
use Rattle.std.proofs.Math.Seq.{take-length, paste}
use Rattle.script.specs.Numbers.{digit_of, all_digits}
use Rattle.script.specs.Laws.Numbers.{digits_step}
use Rattle.script.specs.Words.{reach}
use Rattle.script.specs.Bytes.{bytes_in, pairs, hex_of, quoted_of, bytes_of}

-- the byte of the digits at 2 * n and behind it
abbrev pub pair_at : List ℕ → ℕ → ℕ
pair_at l n = digit_of (get_or l (2 * n) 0) * 16 + digit_of (get_or l (2 * n + 1) 0)

pub pairs-step : (l : List ℕ) (n : ℕ) → 2 * n + 1 < length l → pairs (drop (2 * n) l) ≡ pair_at l n ∷ pairs (drop (2 * (n + 1)) l)
unfolding pairs
pairs-step l n h = rw (twice, add-one (2 * n), drop-cons l (2 * n) 0 first, drop-cons l (suc (2 * n)) 0 second)
  where
    twice : 2 * (n + 1) ≡ suc (suc (2 * n))
    twice = omega arith

    first : 2 * n < length l
    first = omega arith

    second : suc (2 * n) < length l
    second = omega arith

pub pairs_end : (l : List ℕ) (i : ℕ) → length l ≤ i → pairs (drop i l) ≡ []
unfolding pairs
pairs_end l i h = rw (drop_of_length-le l h)

-- one pair more is put
pub pairs-more : (l b : List ℕ) (n : ℕ) → 2 * n + 1 < length l → n < length b → pairs l ≡ take n b ++ pairs (drop (2 * n) l)
    → pairs l ≡ take (n + 1) (set b n (pair_at l n)) ++ pairs (drop (2 * (n + 1)) l)
pairs-more l b n h g e =
    e
    ∙ ap (λ (m : List ℕ). take n b ++ m) (pairs-step l n h)
    ∙ sym (ap (λ (m : List ℕ). m ++ pairs (drop (2 * (n + 1)) l)) taken ∙ append_assoc (take n b) (pair_at l n ∷ []) (pairs (drop (2 * (n + 1)) l)))
  where
    taken : take (n + 1) (set b n (pair_at l n)) ≡ take n b ++ (pair_at l n ∷ [])
    taken = rw (add-one n) (take-suc-set b n (pair_at l n) g)

-- ---- hexadecimal digits

-- both digits of a pair are passed
pub pair_passed : (l : List ℕ) (n : ℕ) → 2 * n + 1 < length l → digit_of (get_or l (2 * n) 0) < 16 → digit_of (get_or l (2 * n + 1) 0) < 16
    → all_digits 16 (drop (2 * n) l) ≡ all_digits 16 (drop (2 * (n + 1)) l)
pair_passed l n h g f =
    digits_step 16 l (2 * n) (omega arith) g
    ∙ digits_step 16 l (2 * n + 1) h f
    ∙ ap (λ (i : ℕ). all_digits 16 (drop i l)) (let e : 2 * n + 1 + 1 ≡ 2 * (n + 1) = omega arith in e)

pub hex_odd : (l : List ℕ) → (length l % 2 ≡ 0 → ⊥) → hex_of l ≡ None
unfolding hex_of
hex_odd l h = rw (ne_eqb _ _ h)

pub hex_other : (l : List ℕ) → all_digits 16 l ≡ false → hex_of l ≡ None
unfolding hex_of
hex_other l e = rw (e, and-false)

pub hex_these : (l : List ℕ) → length l % 2 ≡ 0 → all_digits 16 l ≡ true → hex_of l ≡ Some (pairs l)
unfolding hex_of
hex_these l h e = rw (eq-eqb _ _ h, e)

-- ---- quotations

pub quoted_none : (l : List ℕ) (r : ℕ) → r ≡ reach 34 l → (r + 1 ≡ length l → ⊥) → quoted_of l ≡ None
unfolding quoted_of
quoted_none l r e h = let g : reach 34 l + 1 ≡ length l → ⊥ = λ z. h (ap (λ (n : ℕ). n + 1) e ∙ z) in rw (ne_eqb _ _ g)

pub quoted_these : (l : List ℕ) (r : ℕ) → r ≡ reach 34 l → r + 1 ≡ length l → quoted_of l ≡ Some (take r l)
unfolding quoted_of
quoted_these l r e h =
    let g : reach 34 l + 1 ≡ length l = sym (ap (λ (n : ℕ). n + 1) e) ∙ h in
    rw (eq-eqb _ _ g) (ap (λ (n : ℕ). Some (take n l)) (sym e))

-- what was put at the front of a buffer
pub front-put : (d s : List ℕ) (n : ℕ) → length s ≡ n → take n (paste d 0 s (length s)) ≡ s
front-put d s n e = rw take-length (take_at s (drop (0 + length s) d) n e)

pub quoted_put : (b d rest : List ℕ) (r : ℕ) → r ≡ reach 34 rest → r + 1 ≡ length rest → d ≡ paste b 0 (take (r - 0) rest) (length (take (r - 0) rest))
    → Some (take r d) ≡ quoted_of rest
quoted_put b d rest r e h f =
    let z : r - 0 ≡ r = omega arith in
    let g : r ≤ length rest = omega arith in
    let k : length (take (r - 0) rest) ≡ r = rw z (length-take-le r rest g) in
    ap Some (ap (take r) f ∙ front-put b (take (r - 0) rest) r k ∙ ap (λ (n : ℕ). take n rest) z) ∙ sym (quoted_these rest r e h)

-- ---- any bytes, by the first of the word

pub bytes-empty : (w : List ℕ) → length w ≡ 0 → bytes_of w ≡ None
unfolding bytes_of
bytes-empty [] e = refl
bytes-empty (b ∷ w) e = absurd (omega arith)

pub bytes-alone : (w : List ℕ) → get_or w 0 0 ≡ 45 → length w ≡ 1 → bytes_of w ≡ Some []
unfolding bytes_of
bytes-alone [] e h = absurd (omega arith)
bytes-alone (b ∷ w) e h = let g : length w ≡ 0 = omega arith in rw (eq-eqb b 45 e, eq-eqb _ _ g)

pub bytes_dash : (w : List ℕ) → get_or w 0 0 ≡ 45 → (length w ≡ 1 → ⊥) → bytes_of w ≡ None
unfolding bytes_of
bytes_dash [] e h = refl
bytes_dash (b ∷ w) e h = let g : length w ≡ 0 → ⊥ = λ z. h (omega arith) in rw (eq-eqb b 45 e, ne_eqb _ _ g)

pub bytes_hex : (w : List ℕ) → get_or w 0 0 ≡ 120 → bytes_of w ≡ hex_of (drop 1 w)
unfolding bytes_of
bytes_hex [] e = absurd (omega arith)
bytes_hex (b ∷ w) e = rw e

pub bytes_quoted : (w : List ℕ) → get_or w 0 0 ≡ 34 → bytes_of w ≡ quoted_of (drop 1 w)
unfolding bytes_of
bytes_quoted [] e = absurd (omega arith)
bytes_quoted (b ∷ w) e = rw e

pub bytes-other : (w : List ℕ) → (get_or w 0 0 ≡ 45 → ⊥) → (get_or w 0 0 ≡ 120 → ⊥) → (get_or w 0 0 ≡ 34 → ⊥) → bytes_of w ≡ None
unfolding bytes_of
bytes-other [] h g f = refl
bytes-other (b ∷ w) h g f = rw (ne_eqb b 45 h, ne_eqb b 120 g, ne_eqb b 34 f)

pub ruleset by_first = (bytes-empty, bytes-alone, bytes_dash, bytes-other)

-- what was read of a word that is known, beside the buffer
pub bytes-said : (u b : List ℕ) {v : List ℕ} {r : Option ℕ} (x : Option ℕ) → bytes_in b r ≡ bytes_of v → v ≡ u → r ≡ x → bytes_of u ≡ bytes_in b x
bytes-said u b x f e g = sym (ap bytes_of e) ∙ sym f ∙ ap (bytes_in b) g
