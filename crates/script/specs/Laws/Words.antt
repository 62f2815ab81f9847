-- Laws of words: how far the first blank or quotation mark is.
use Rattle.std.specs.Prelude.{refl, Some, None, unwrap_or, ℕ, zero, suc, ◌+◌, ◌-◌, ◌≤◌, ◌<◌, ◌≡◌, Bool, true, false, cond, List, [], ◌∷◌, eqb, length, get_or, take, drop, ltb}
use Rattle.std.specs.List.{position_or_len}
use Rattle.std.proofs.lemmas.List.Recursion.{is_position_or_len}
use Rattle.std.proofs.Common.{arith, add-one, sym, ap, ◌∙◌, length-drop, length-take, drop_of_length-le, drop-cons, take_all, eq-eqb, ne_eqb, ltb-false}
use Rattle.script.specs.Words.{reach, word_of, behind, skipped}

pub reach_hit : (b : ℕ) (l : List ℕ) (i : ℕ) → i < length l → get_or l i 0 ≡ b → reach b (drop i l) ≡ 0
unfolding reach
reach_hit b l i h e = rw (drop-cons l i 0 h, eq-eqb _ _ e)

pub reach_miss : (b : ℕ) (l : List ℕ) (i : ℕ) → i < length l → (get_or l i 0 ≡ b → ⊥) → reach b (drop i l) ≡ suc (reach b (drop (i + 1) l))
unfolding reach
reach_miss b l i h e = rw (add-one i, drop-cons l i 0 h, ne_eqb _ _ e)

pub reach-end : (b : ℕ) (l : List ℕ) (i : ℕ) → length l ≤ i → reach b (drop i l) ≡ 0
unfolding reach
reach-end b l i h = rw (drop_of_length-le l h)

pub reach_le : (b : ℕ) (l : List ℕ) → reach b l ≤ length l
unfolding reach
reach_le b [] = omega arith
reach_le b (x ∷ l) = go (eqb x b) (reach_le b l)
  where
    go : (t : Bool) → reach b l ≤ length l → cond t 0 (suc (reach b l)) ≤ suc (length l)
    go true h = omega arith
    go false h = omega arith

-- what the library's search finds: an index, or none, where all of them are passed
pub reach_found : (b : ℕ) (l : List ℕ)
    → unwrap_or (cond (ltb (position_or_len (λ x. eqb x b) l) (length l)) (Some (position_or_len (λ x. eqb x b) l)) None) (length l) ≡ reach b l
unfolding reach
reach_found b l = rw (sym same) (go (ltb (reach b l) (length l)) refl)
  where
    same : reach b l ≡ position_or_len (λ x. eqb x b) l
    same = is_position_or_len (reach b) (λ x. eqb x b) refl
        (λ x xs. let e : suc (reach b xs) ≡ 1 + reach b xs = omega arith in ap (cond (eqb x b) 0) e) l

    go : (t : Bool) → ltb (reach b l) (length l) ≡ t → unwrap_or (cond t (Some (reach b l)) None) (length l) ≡ reach b l
    go true h = refl
    go false h = omega (arith, ltb-false (reach b l) (length l) h, reach_le b l)

pub length-behind : (l : List ℕ) → length (behind l) ≤ length l
unfolding behind
length-behind l = simp length-drop (omega arith)

pub length-skipped : (k : ℕ) (l : List ℕ) → length (skipped k l) ≤ length l
unfolding skipped
length-skipped zero l = omega arith
length-skipped (suc k) l = omega (arith, length-skipped k (behind l), length-behind l)

-- what stands in some bytes is no longer than they are
pub ruleset lengths = (length-behind, length-skipped, reach_le)

-- what is lent of some bytes from a place on
pub rest-lent : (l : List ℕ) (a : ℕ) → take (length l - a) (drop a l) ≡ drop a l
rest-lent l a = take_all (length l - a) (drop a l) (simp length-drop (omega arith))

-- and what is lent is no longer than they are
pub lent-short : (n a : ℕ) (l : List ℕ) → length (take n (drop a l)) ≤ length l
lent-short n a l = simp (length-take, length-drop) (omega arith)

pub word-lent : (l : List ℕ) (r : ℕ) → r ≡ reach 32 l → take (r - 0) l ≡ word_of l
unfolding word_of
word-lent l r e = ap (λ (n : ℕ). take n l) (let h : r - 0 ≡ reach 32 l = omega arith in h)

pub behind-lent : (l : List ℕ) (r : ℕ) → r ≡ reach 32 l → take (length l - (r + 1)) (drop (r + 1) l) ≡ behind l
unfolding behind
behind-lent l r e = rest-lent l (r + 1) ∙ ap (λ (n : ℕ). drop n l) (let h : r + 1 ≡ suc (reach 32 l) = omega arith in h)

pub behind_last : (l : List ℕ) (r : ℕ) → r ≡ reach 32 l → length l ≤ r → take (length l - r) (drop r l) ≡ behind l
unfolding behind
behind_last l r e h =
    let g : length l ≤ suc (reach 32 l) = omega arith in rest-lent l r ∙ drop_of_length-le l h ∙ sym (drop_of_length-le l g)

pub skip_one : (k i : ℕ) (l : List ℕ) → i < k → skipped (k - i) l ≡ skipped (k - (i + 1)) (behind l)
unfolding skipped
skip_one k i l h = rw (let e : k - i ≡ suc (k - (i + 1)) = omega arith in e)

pub skip_none : (k i : ℕ) (l : List ℕ) → k ≤ i → skipped (k - i) l ≡ l
unfolding skipped
skip_none k i l h = rw (let e : k - i ≡ 0 = omega arith in e)

pub ruleset skips = (skip_one, skip_none)

pub skip_all : (k : ℕ) (l : List ℕ) → skipped k l ≡ skipped (k - 0) l
skip_all k l = ap (λ (n : ℕ). skipped n l) (let e : k ≡ k - 0 = omega arith in e)
