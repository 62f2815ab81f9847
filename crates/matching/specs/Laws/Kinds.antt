-- How kinds read bytes, and what is chosen of a list.
use Rattle.std.specs.Prelude.{◌<◌, ◌≤◌, ℕ, Bool, ◌&&◌, false, true, ◌⊎◌, ◌≡◌, eqb, leb}
use mathlib.Core.List.{List, [], ◌++◌, ◌∷◌, map}
use Rattle.std.proofs.Common.{inl, inr, ap}
use Rattle.std.proofs.Math.Path.{refl}
use native.Mathlib.Omega.{arith}
use Rattle.std.proofs.Math.ListN.{length}
use Rattle.std.proofs.lemmas.List.{length-map}
use Rattle.matching.specs.Kinds.{TagKind, as_read, exact_kind, folded_kind, kind_of, kinds, lower}
use Rattle.matching.specs.Laws.Bools.{and_r, decided, is_false}
use Rattle.matching.specs.Laws.Slices.{map_append}
use Rattle.matching.specs.Laws.Stepping.{Every, leb_le}
use Rattle.matching.specs.Laws.Words.{eqb_eq}
use Rattle.matching.specs.Limits.{longest_tag}
use Rattle.matching.specs.Tags.{chosen, word_as}
use Rattle.matching.specs.Words.{Below, Word}

-- ---- bytes

lower_lt : (c : ℕ) → c < 256 → lower c < 256
unfolding lower
lower_lt c h = go (decided (leb 65 c && leb c 90))
  where
    go : ((leb 65 c && leb c 90) ≡ true) ⊎ ((leb 65 c && leb c 90) ≡ false) → lower c < 256
    go (inl e) = rw e (omega (arith, leb_le c 90 (and_r (leb 65 c) (leb c 90) e)))
    go (inr e) = rw e h

pub as_read_lt : (kind c : ℕ) → c < 256 → as_read kind c < 256
unfolding as_read
as_read_lt kind c h = go (decided (eqb kind folded_kind))
  where
    go : (eqb kind folded_kind ≡ true) ⊎ (eqb kind folded_kind ≡ false) → as_read kind c < 256
    go (inl e) = rw e (lower_lt c h)
    go (inr e) = rw e h

pub as_read-exact : (c : ℕ) → as_read exact_kind c ≡ c
unfolding as_read
as_read-exact c = refl

as_read-other : (kind c : ℕ) → (kind ≡ folded_kind → ⊥) → as_read kind c ≡ c
unfolding as_read
as_read-other kind c n = rw (is_false (eqb kind folded_kind) (λ e. n (eqb_eq kind folded_kind e))) refl

-- ---- the kind of a number

module _ (number : ℕ) (k : TagKind) (ks : List TagKind) where
  pub kind_of_hit : eqb k.number number ≡ true → kind_of number (k ∷ ks) ≡ k
  unfolding kind_of
  kind_of_hit e = rw (e, kind_of) refl

  pub kind_of_miss : eqb k.number number ≡ false → kind_of number (k ∷ ks) ≡ kind_of number ks
  unfolding kind_of
  kind_of_miss e = rw (e, kind_of) refl

-- where none of some kinds has longer tags than so many bytes, neither has the kind of a number
pub kind_of-short : (most number : ℕ) (ks : List TagKind) → Every (λ k. k.longest ≤ most) ks → (kind_of number ks).longest ≤ most
unfolding kind_of
kind_of-short most number [] h = omega arith
kind_of-short most number (k ∷ ks) h = go (decided (eqb k.number number)) (kind_of-short most number ks h.1)
  where
    go : (eqb k.number number ≡ true) ⊎ (eqb k.number number ≡ false) → (kind_of number ks).longest ≤ most → (kind_of number (k ∷ ks)).longest ≤ most
    go (inl e) ih = rw (kind_of_hit number k ks e) h.0
    go (inr e) ih = rw (kind_of_miss number k ks e) ih

-- none in the table has
pub kinds-short : Every (λ k. k.longest ≤ longest_tag) kinds
kinds-short = (omega arith, (omega arith, tt))

-- ---- words

pub word_as-exact : (w : Word) → word_as exact_kind w ≡ w
word_as-exact [] = refl
word_as-exact (c ∷ w) = rw (as_read-exact c, word_as-exact w) refl

pub word_as_folded : (w : Word) → word_as folded_kind w ≡ map lower w
unfolding as_read
word_as_folded [] = refl
word_as_folded (c ∷ w) = ap {B = Word} (λ (l : Word). lower c ∷ l) (word_as_folded w)

-- a kind that is not folded reads bytes as they are
pub word_as-other : (kind : ℕ) (w : Word) → (kind ≡ folded_kind → ⊥) → word_as kind w ≡ w
word_as-other kind [] n = refl
word_as-other kind (c ∷ w) n = rw (as_read-other kind c n, word_as-other kind w n) refl

pub word_as-length : (kind : ℕ) (w : Word) → length (word_as kind w) ≡ length w
word_as-length kind w = length-map w (as_read kind)

pub word_as_append : (kind : ℕ) (v w : Word) → word_as kind (v ++ w) ≡ word_as kind v ++ word_as kind w
word_as_append kind v w = map_append (as_read kind) v w

pub word_as-below : (kind : ℕ) (w : Word) → Below 256 w → Below 256 (word_as kind w)
word_as-below kind [] h = tt
word_as-below kind (c ∷ w) h = (as_read_lt kind c h.0, word_as-below kind w h.1)

-- ---- what is chosen

module _ {A : Type 0} (ok : A → Bool) where
  pub chosen_hit : (x : A) (xs : List A) → ok x ≡ true → chosen ok (x ∷ xs) ≡ x ∷ chosen ok xs
  unfolding chosen
  chosen_hit x xs e = rw e refl

  pub chosen_miss : (x : A) (xs : List A) → ok x ≡ false → chosen ok (x ∷ xs) ≡ chosen ok xs
  unfolding chosen
  chosen_miss x xs e = rw e refl

  pub chosen-few : (xs : List A) → length (chosen ok xs) ≤ length xs
  unfolding chosen
  chosen-few [] = omega arith
  chosen-few (x ∷ xs) = go (decided (ok x)) (chosen-few xs)
    where
      go : (ok x ≡ true) ⊎ (ok x ≡ false) → length (chosen ok xs) ≤ length xs → length (chosen ok (x ∷ xs)) ≤ length (x ∷ xs)
      go (inl e) h = rw (chosen_hit x xs e) (omega (arith, h))
      go (inr e) h = rw (chosen_miss x xs e) (omega (arith, h))

  -- what holds of each holds of the chosen
  pub every-chosen : (P : A → Type 0) (xs : List A) → Every P xs → Every P (chosen ok xs)
  unfolding chosen
  every-chosen P [] h = tt
  every-chosen P (x ∷ xs) h = go (decided (ok x)) (every-chosen P xs h.1)
    where
      go : (ok x ≡ true) ⊎ (ok x ≡ false) → Every P (chosen ok xs) → Every P (chosen ok (x ∷ xs))
      go (inl e) ih = rw (chosen_hit x xs e) (h.0, ih)
      go (inr e) ih = rw (chosen_miss x xs e) ih
