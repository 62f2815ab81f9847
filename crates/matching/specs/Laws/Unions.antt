-- The numbers of either of two lists, and of lists that rise.
use Rattle.std.specs.Prelude.{◌%◌, ◌/◌, ◌<◌, ◌≤◌, max, suc, zero, ℕ, Bool, ◌||◌, false, true, List, [], ◌∷◌, ◌⊎◌, ◌≡◌, refl, eqb, ltb}
use Rattle.std.proofs.Common.{inl, inr, ◌∙◌, ap₂, sym, mod-lt, arith, lit<, ltb→lt, lt→ltb}
use Rattle.std.proofs.Math.Path.{ap, subst}
use Rattle.std.proofs.Math.Decide.{dec_lt, ℕ_discrete}
use Rattle.std.proofs.Math.Arith.{digits_div, digits_mod}
use Rattle.std.specs.Int.Bits.{bit_or, or_step}
use Rattle.std.proofs.Math.Dec.{eqb_refl}
use Rattle.matching.specs.Laws.Bits.{bit_cases, numbers_where_hit, numbers_where_miss, ones_of-none, ones_of-one}
use Rattle.matching.specs.Laws.Bools.{decided, is_false, is_true, or_false, or_l, or_r, to-T}
use Rattle.matching.specs.Laws.Occurrences.{numbers_where_rising}
use Rattle.matching.specs.Laws.AnyTable.{ones_of-within}
use Rattle.matching.specs.Laws.Stepping.{Every, Rising, every_map}
use Rattle.matching.specs.Laws.Words.{eqb_eq}
use Rattle.matching.specs.Occurrence.{numbers_where}
use Rattle.matching.specs.Parts.{insert, union}
use Rattle.matching.specs.Reading.{ones_of}

-- ---- insertion

insert_lt : (i j : ℕ) (js : List ℕ) → i < j → insert i (j ∷ js) ≡ i ∷ j ∷ js
unfolding insert
insert_lt i j js h = rw (is_true (ltb i j) (lt→ltb i j h)) refl

insert_eq : (i : ℕ) (js : List ℕ) → insert i (i ∷ js) ≡ i ∷ js
unfolding insert
insert_eq i js =
    rw (is_false (ltb i i) (λ e. omega (arith, ltb→lt i i (to-T (ltb i i) e))), is_true (eqb i i) (eqb_refl i)) refl

insert_gt : (i j : ℕ) (js : List ℕ) → j < i → insert i (j ∷ js) ≡ j ∷ insert i js
unfolding insert
insert_gt i j js h =
    rw (
      is_false (ltb i j) (λ e. omega (arith, ltb→lt i j (to-T (ltb i j) e))),
      is_false (eqb i j) (λ e. omega (arith, eqb_eq i j e)),
    ) refl

-- below all of them it comes first
insert-low : (i : ℕ) (js : List ℕ) → Every (λ j. i < j) js → insert i js ≡ i ∷ js
unfolding insert
insert-low i [] h = refl
insert-low i (j ∷ js) h = insert_lt i j js h.0

-- how two numbers stand
data Stands (i j : ℕ) : Type 0 where
  lower_than : i < j → Stands i j
  same_as : i ≡ j → Stands i j
  higher_than : j < i → Stands i j

stands : (i j : ℕ) → Stands i j
stands i j = go (dec_lt i j) (ℕ_discrete i j)
  where
    go : Dec (i < j) → Dec (i ≡ j) → Stands i j
    go (yes h) e = lower_than h
    go (no h) (yes e) = same_as e
    go (no h) (no e) = higher_than (omega arith)

every-insert : (P : ℕ → Type 0) (i : ℕ) (js : List ℕ) → P i → Every P js → Every P (insert i js)
unfolding insert
every-insert P i [] p h = (p, tt)
every-insert P i (j ∷ js) p h = go (stands i j) (every-insert P i js p h.1)
  where
    go : Stands i j → Every P (insert i js) → Every P (insert i (j ∷ js))
    go (lower_than l) ih = rw (insert_lt i j js l) (p, h)
    go (same_as e) ih = subst (λ (x : ℕ). Every P (insert x (j ∷ js))) (sym e) (rw (insert_eq j js) h)
    go (higher_than l) ih = rw (insert_gt i j js l) (h.0, ih)

insert_rising : (i : ℕ) (js : List ℕ) → Rising js → Rising (insert i js)
unfolding insert
insert_rising i [] r = (tt, tt)
insert_rising i (j ∷ js) r = go (stands i j) (insert_rising i js r.1)
  where
    go : Stands i j → Rising (insert i js) → Rising (insert i (j ∷ js))
    go (lower_than l) ih = rw (insert_lt i j js l) ((l, every_map (λ x. j < x) _ js (λ x k. omega (arith, l, k)) r.0), r)
    go (same_as e) ih = subst (λ (x : ℕ). Rising (insert x (j ∷ js))) (sym e) (rw (insert_eq j js) r)
    go (higher_than l) ih = rw (insert_gt i j js l) (every-insert (λ x. j < x) i js l r.0, ih)

-- ---- unions

pub every-union : (P : ℕ → Type 0) (is js : List ℕ) → Every P is → Every P js → Every P (union is js)
unfolding union
every-union P is [] h k = h
every-union P is (j ∷ js) h k = every-insert P j (union is js) k.0 (every-union P is js h k.1)

pub union_rising : (is js : List ℕ) → Rising is → Rising (union is js)
unfolding union
union_rising is [] r = r
union_rising is (j ∷ js) r = insert_rising j (union is js) (union_rising is js r)

-- a number below those of the second list stays the first
union-low : (i : ℕ) (is js : List ℕ) → Every (λ j. i < j) js → union (i ∷ is) js ≡ i ∷ union is js
unfolding union
union-low i is [] h = refl
union-low i is (j ∷ js) h = ap (insert j) (union-low i is js h.1) ∙ insert_gt j i (union is js) h.0

-- a number below all others, in the first, in the second, in both
module _ (i : ℕ) (is js : List ℕ) (a : Every (λ j. i < j) is) (b : Every (λ j. i < j) js) where
  pub union-first : union (i ∷ is) js ≡ i ∷ union is js
  union-first = union-low i is js b

  pub union-second : union is (i ∷ js) ≡ i ∷ union is js
  unfolding union
  union-second = insert-low i (union is js) (every-union (λ j. i < j) is js a b)

  pub union-both : union (i ∷ is) (i ∷ js) ≡ i ∷ union is js
  unfolding union
  union-both = ap (insert i) (union-low i is js b) ∙ insert_eq i (union is js)

-- the numbers where one of two tests holds
pub union_where : {A : Type 0} (g h : A → Bool) (i : ℕ) (ts : List A)
    → union (numbers_where g i ts) (numbers_where h i ts) ≡ numbers_where (λ t. g t || h t) i ts
unfolding numbers_where union
union_where g h i [] = refl
union_where {A} g h i (t ∷ ts) = go (decided (g t)) (decided (h t)) (union_where g h (suc i) ts)
  where
    above : (k : A → Bool) → Every (λ j. i < j) (numbers_where k (suc i) ts)
    above k = every_map (λ j. suc i ≤ j) _ (numbers_where k (suc i) ts) (λ j l. omega (arith, l)) (numbers_where_rising k ts (suc i)).0

    rest : (A → Bool) → List ℕ
    rest k = numbers_where k (suc i) ts

    on : List ℕ → List ℕ
    on l = i ∷ l

    go : (g t ≡ true) ⊎ (g t ≡ false) → (h t ≡ true) ⊎ (h t ≡ false)
        → union (numbers_where g (suc i) ts) (numbers_where h (suc i) ts) ≡ numbers_where (λ t. g t || h t) (suc i) ts
        → union (numbers_where g i (t ∷ ts)) (numbers_where h i (t ∷ ts)) ≡ numbers_where (λ t. g t || h t) i (t ∷ ts)
    go (inl e) (inl f) ih =
        ap₂ union (numbers_where_hit g i t ts e) (numbers_where_hit h i t ts f) ∙ union-both i (rest g) (rest h) (above g) (above h) ∙ ap on ih
        ∙ sym (numbers_where_hit (λ t. g t || h t) i t ts (or_l (g t) (h t) e))
    go (inl e) (inr f) ih =
        ap₂ union (numbers_where_hit g i t ts e) (numbers_where_miss h i t ts f) ∙ union-first i (rest g) (rest h) (above g) (above h) ∙ ap on ih
        ∙ sym (numbers_where_hit (λ t. g t || h t) i t ts (or_l (g t) (h t) e))
    go (inr e) (inl f) ih =
        ap₂ union (numbers_where_miss g i t ts e) (numbers_where_hit h i t ts f) ∙ union-second i (rest g) (rest h) (above g) (above h) ∙ ap on ih
        ∙ sym (numbers_where_hit (λ t. g t || h t) i t ts (or_r (g t) (h t) f))
    go (inr e) (inr f) ih =
        ap₂ union (numbers_where_miss g i t ts e) (numbers_where_miss h i t ts f) ∙ ih
        ∙ sym (numbers_where_miss (λ t. g t || h t) i t ts (or_false (g t) (h t) e f))

-- the ones of either of two numbers are those of their OR
pub union-ones : (w i a b : ℕ) → union (ones_of i w a) (ones_of i w b) ≡ ones_of i w (bit_or a b)
unfolding ones_of union
union-ones zero i a b = refl
union-ones (suc w) i a b = go (bit_cases a) (bit_cases b) (union-ones w (suc i) (a / 2) (b / 2))
  where
    above : (v : ℕ) → Every (λ j. i < j) (ones_of (suc i) w v)
    above v = every_map _ (λ j. i < j) (ones_of (suc i) w v) (λ j h. omega (arith, h.0)) (ones_of-within w (suc i) v)

    rest : ℕ → List ℕ
    rest v = ones_of (suc i) w v

    on : List ℕ → List ℕ
    on l = i ∷ l

    bit : max (a % 2) (b % 2) < 2
    bit =
        let p : a % 2 < 2 = mod-lt a (lit< tt) in
        let q : b % 2 < 2 = mod-lt b (lit< tt) in
        omega arith

    high : bit_or a b / 2 ≡ bit_or (a / 2) (b / 2)
    high = ap (λ (x : ℕ). x / 2) (or_step a b) ∙ digits_div (bit_or (a / 2) (b / 2)) bit

    low : bit_or a b % 2 ≡ max (a % 2) (b % 2)
    low = ap (λ (x : ℕ). x % 2) (or_step a b) ∙ digits_mod (bit_or (a / 2) (b / 2)) bit

    one : bit_or a b % 2 ≡ 1 → ones_of i (suc w) (bit_or a b) ≡ i ∷ ones_of (suc i) w (bit_or (a / 2) (b / 2))
    one e = ones_of-one i w (bit_or a b) e ∙ ap (λ (v : ℕ). i ∷ ones_of (suc i) w v) high

    go : (a % 2 ≡ 1) ⊎ (a % 2 ≡ 0) → (b % 2 ≡ 1) ⊎ (b % 2 ≡ 0)
        → union (ones_of (suc i) w (a / 2)) (ones_of (suc i) w (b / 2)) ≡ ones_of (suc i) w (bit_or (a / 2) (b / 2))
        → union (ones_of i (suc w) a) (ones_of i (suc w) b) ≡ ones_of i (suc w) (bit_or a b)
    go (inl e) (inl f) ih =
        ap₂ union (ones_of-one i w a e) (ones_of-one i w b f) ∙ union-both i (rest (a / 2)) (rest (b / 2)) (above (a / 2)) (above (b / 2)) ∙ ap on ih
        ∙ sym (one (omega (arith, low, e, f)))
    go (inl e) (inr f) ih =
        ap₂ union (ones_of-one i w a e) (ones_of-none i w b f) ∙ union-first i (rest (a / 2)) (rest (b / 2)) (above (a / 2)) (above (b / 2)) ∙ ap on ih
        ∙ sym (one (omega (arith, low, e, f)))
    go (inr e) (inl f) ih =
        ap₂ union (ones_of-none i w a e) (ones_of-one i w b f) ∙ union-second i (rest (a / 2)) (rest (b / 2)) (above (a / 2)) (above (b / 2)) ∙ ap on ih
        ∙ sym (one (omega (arith, low, e, f)))
    go (inr e) (inr f) ih =
        ap₂ union (ones_of-none i w a e) (ones_of-none i w b f) ∙ ih
        ∙ sym (ones_of-none i w (bit_or a b) (omega (arith, low, e, f)) ∙ ap (ones_of (suc i) w) high)
