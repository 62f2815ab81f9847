-- The row of a number tells whether there is such a kind, and which it is.
use Rattle.std.specs.Prelude.{◌+◌, ◌<◌, ◌≤◌, suc, zero, ℕ, false, true, List, [], ◌∷◌, ◌⊎◌, ◌≡◌, refl, eqb, drop, get_or, length, take}
use Rattle.std.proofs.Common.{inl, inr, subst, add-one, arith, drop_of_length-le, drop-cons}
use Rattle.std.proofs.Math.Path.{ap}
use Rattle.std.proofs.Math.Dec.{eqb_refl}
use Rattle.matching.specs.Kinds.{TagKind, is_among, kind_of, kinds, no_kind}
use Rattle.matching.specs.Laws.Bools.{decided, is_false, is_true}
use Rattle.matching.specs.Laws.Kinds.{kind_of_hit, kind_of_miss, kind_of-short, kinds-short}
use Rattle.matching.specs.Laws.Stepping.{Every}
use Rattle.matching.specs.Laws.Words.{eqb_eq}
use Rattle.matching.specs.Limits.{longest_tag}
use Rattle.kinds.specs.Rows.{row_of}

pub row_of_hit : (number : ℕ) (k : TagKind) (ks : List TagKind) → eqb k.number number ≡ true → row_of number (k ∷ ks) ≡ 0
unfolding row_of
row_of_hit number k ks e = rw (e, row_of) refl

pub row_of_miss : (number : ℕ) (k : TagKind) (ks : List TagKind) → eqb k.number number ≡ false → row_of number (k ∷ ks) ≡ suc (row_of number ks)
unfolding row_of
row_of_miss number k ks e = rw (e, row_of) refl

-- the kind that stands in the row of a number is the kind of that number
pub row_kind : (number : ℕ) (ks : List TagKind) → get_or ks (row_of number ks) no_kind ≡ kind_of number ks
unfolding row_of kind_of
row_kind number [] = refl
row_kind number (k ∷ ks) = go (decided (eqb k.number number)) (row_kind number ks)
  where
    go : (eqb k.number number ≡ true) ⊎ (eqb k.number number ≡ false) → get_or ks (row_of number ks) no_kind ≡ kind_of number ks
        → get_or (k ∷ ks) (row_of number (k ∷ ks)) no_kind ≡ kind_of number (k ∷ ks)
    go (inl e) ih = rw (row_of_hit number k ks e, kind_of_hit number k ks e) refl
    go (inr e) ih = rw (row_of_miss number k ks e, kind_of_miss number k ks e) ih

-- there is a row exactly if there is such a kind
pub row_among : (number : ℕ) (ks : List TagKind) → row_of number ks < length ks → is_among number ks ≡ true
unfolding row_of is_among
row_among number [] h = absurd (omega arith)
row_among number (k ∷ ks) h = go (decided (eqb k.number number)) (row_among number ks)
  where
    go : (eqb k.number number ≡ true) ⊎ (eqb k.number number ≡ false) → (row_of number ks < length ks → is_among number ks ≡ true)
        → is_among number (k ∷ ks) ≡ true
    go (inl e) ih = rw e refl
    go (inr e) ih = rw e (ih (omega (arith, h, row_of_miss number k ks e)))

pub row_none : (number : ℕ) (ks : List TagKind) → length ks ≤ row_of number ks → is_among number ks ≡ false
unfolding row_of is_among
row_none number [] h = refl
row_none number (k ∷ ks) h = go (decided (eqb k.number number)) (row_none number ks)
  where
    go : (eqb k.number number ≡ true) ⊎ (eqb k.number number ≡ false) → (length ks ≤ row_of number ks → is_among number ks ≡ false)
        → is_among number (k ∷ ks) ≡ false
    go (inl e) ih = absurd (omega (arith, h, row_of_hit number k ks e))
    go (inr e) ih = rw e (ih (omega (arith, h, row_of_miss number k ks e)))

pub row_most : (number : ℕ) (ks : List TagKind) → row_of number ks ≤ length ks
unfolding row_of
row_most number [] = omega arith
row_most number (k ∷ ks) = go (decided (eqb k.number number)) (row_most number ks)
  where
    go : (eqb k.number number ≡ true) ⊎ (eqb k.number number ≡ false) → row_of number ks ≤ length ks → row_of number (k ∷ ks) ≤ suc (length ks)
    go (inl e) ih = rw (row_of_hit number k ks e) (omega arith)
    go (inr e) ih = rw (row_of_miss number k ks e) (omega (arith, ih))

-- none of the first rows has longer tags than the longest
pub rows_short : (rows number : ℕ) → (kind_of number (take rows kinds)).longest ≤ longest_tag
rows_short rows number = kind_of-short longest_tag number (take rows kinds) (every_take rows kinds kinds-short)
  where
    every_take : (n : ℕ) (ks : List TagKind) → Every (λ k. k.longest ≤ longest_tag) ks → Every (λ k. k.longest ≤ longest_tag) (take n ks)
    every_take zero ks h = tt
    every_take (suc n) [] h = tt
    every_take (suc n) (k ∷ ks) h = (h.0, every_take n ks h.1)

-- ---- looking through the rows

-- the rows before row i are other kinds'
abbrev pub Looking : ℕ → List TagKind → ℕ → Type 0
Looking number ks i = (i ≤ length ks) × (row_of number ks ≡ i + row_of number (drop i ks))

module _ (number : ℕ) (ks : List TagKind) (i : ℕ) (g : Looking number ks i) where
  at_row : i < length ks → drop i ks ≡ get_or ks i no_kind ∷ drop (suc i) ks
  at_row h = drop-cons ks i no_kind h

  pub row_found : i < length ks → (get_or ks i no_kind).number ≡ number → i ≡ row_of number ks
  row_found h e =
      let same : eqb (get_or ks i no_kind).number number ≡ true =
      subst (λ (x : ℕ). eqb (get_or ks i no_kind).number x ≡ true) e (is_true (eqb (get_or ks i no_kind).number (get_or ks i no_kind).number) (eqb_refl (get_or ks i no_kind).number)) in
      let z = row_of_hit number (get_or ks i no_kind) (drop (suc i) ks) same in
      omega (arith, g.1, ap (row_of number) (at_row h), z)

  pub row_on : i < length ks → ((get_or ks i no_kind).number ≡ number → ⊥) → Looking number ks (i + 1)
  row_on h d =
      let other = is_false (eqb (get_or ks i no_kind).number number) (λ e. d (eqb_eq (get_or ks i no_kind).number number e)) in
      let z = row_of_miss number (get_or ks i no_kind) (drop (suc i) ks) other in
      (omega arith, rw (add-one i) (omega (arith, g.1, ap (row_of number) (at_row h), z)))

  pub row_out : length ks ≤ i → i ≡ row_of number ks
  unfolding row_of
  row_out h =
      let z : row_of number (drop i ks) ≡ 0 = ap (row_of number) (drop_of_length-le ks h) in
      omega (arith, g.1, z)
