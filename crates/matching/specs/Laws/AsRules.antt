-- Folding, and a byte over any two runs of the split layout, in the rules' words (docs/RULES.md, 1, 2 and 4).
use Rattle.std.specs.Prelude.{◌+◌, ◌<◌, ◌≤◌, ℕ, ◌||◌, false, true, ◌↔◌, ◌⊎◌, ◌≡◌, eqb, leb, drop, get_or, length}
use Rattle.std.proofs.lemmas.Bool.{false≢true}
use mathlib.Core.List.{List, [], ◌++◌, ◌∷◌, map}
use Rattle.std.proofs.Common.{inl, inr, ◌∙◌, ap, subst, sym, arith, leb-false}
use Rattle.std.proofs.Math.Path.{ap₂, refl}
use Rattle.matching.specs.Kinds.{TagKind, folded_kind, is_among, kind_of, kinds, lower, tag_kind}
use Rattle.matching.specs.Laws.Bools.{decided, or_cases}
use Rattle.matching.specs.Laws.Kinds.{word_as_append, word_as_folded}
use Rattle.matching.specs.Laws.Layouts.{split-kinds, whole_kinds}
use Rattle.matching.specs.Laws.Stepping.{leb_le}
use Rattle.matching.specs.Laws.Words.{ends_iff, eqb_eq}
use Rattle.matching.specs.Parts.{kinds_for, split_layout, whole_layout}
use Rattle.matching.specs.Tags.{ends_by, word_as}
use Rattle.matching.specs.Words.{Word, ends}

-- ---- folding

-- two bytes are the same, or one is of A to Z and the other the same letter of a to z
abbrev pub SameLetter : ℕ → ℕ → Type 0
SameLetter a b = (a ≡ b) ⊎ (((65 ≤ a) × (a ≤ 90) × (b ≡ a + 32)) ⊎ ((65 ≤ b) × (b ≤ 90) × (a ≡ b + 32)))

-- a byte is one of A to Z, and taken to that letter of a to z, or it is none, and taken to itself
abbrev pub Cased : ℕ → Type 0
Cased c = ((65 ≤ c) × (c ≤ 90) × (lower c ≡ c + 32)) ⊎ (((c < 65) ⊎ (90 < c)) × (lower c ≡ c))

-- FOLDING TAKES A TO Z TO a TO z, and every other byte to itself
pub cased : (c : ℕ) → Cased c
unfolding lower
cased c = go (decided (leb 65 c)) (decided (leb c 90))
  where
    go : (leb 65 c ≡ true) ⊎ (leb 65 c ≡ false) → (leb c 90 ≡ true) ⊎ (leb c 90 ≡ false) → Cased c
    go (inl e) (inl f) = inl (leb_le 65 c e, leb_le c 90 f, rw (e, f) refl)
    go (inl e) (inr f) = inr (inr (leb-false c 90 f), rw (e, f) refl)
    go (inr e) f = inr (inl (leb-false 65 c e), rw e refl)

-- FOLDING TAKES TWO BYTES TO ONE exactly if they are the same letter: A to Z and a to z are taken as equal, and all other bytes are exact
pub lower-same : (a b : ℕ) → (lower a ≡ lower b) ↔ SameLetter a b
lower-same a b = (there (cased a) (cased b), back (cased a) (cased b))
  where
    there : Cased a → Cased b → lower a ≡ lower b → SameLetter a b
    there (inl x) (inl y) e = inl (omega (arith, x.2, y.2, e))
    there (inl x) (inr y) e = inr (inl (x.0, x.1, omega (arith, x.2, y.1, e)))
    there (inr x) (inl y) e = inr (inr (y.0, y.1, omega (arith, x.1, y.2, e)))
    there (inr x) (inr y) e = inl (omega (arith, x.1, y.1, e))

    back : Cased a → Cased b → SameLetter a b → lower a ≡ lower b
    back x y (inl e) = ap lower e
    back (inl x) (inl y) (inr (inl s)) = omega (arith, x.1, y.1, s)
    back (inl x) (inr y) (inr (inl s)) = omega (arith, x.2, y.1, s)
    back (inr (inl x, f)) y (inr (inl s)) = omega (arith, x, s)
    back (inr (inr x, f)) y (inr (inl s)) = omega (arith, x, s)
    back (inl x) (inl y) (inr (inr s)) = omega (arith, x.1, y.1, s)
    back (inr x) (inl y) (inr (inr s)) = omega (arith, x.1, y.2, s)
    back x (inr (inl y, f)) (inr (inr s)) = omega (arith, y, s)
    back x (inr (inr y, f)) (inr (inr s)) = omega (arith, y, s)

-- two words of as many bytes are the same, letter by letter
abbrev pub SameWord : Word → Word → Type 0
SameWord [] [] = Unit {0}
SameWord [] (b ∷ u) = ⊥
SameWord (a ∷ t) [] = ⊥
SameWord (a ∷ t) (b ∷ u) = SameLetter a b × SameWord t u

alike : (t u : Word) → map lower t ≡ map lower u → SameWord t u
alike [] [] e = tt
alike [] (b ∷ u) e = absurd (omega (arith, ap length e))
alike (a ∷ t) [] e = absurd (omega (arith, ap length e))
alike (a ∷ t) (b ∷ u) e = ((lower-same a b).0 (ap (λ (l : List ℕ). get_or l 0 0) e), alike t u (ap (λ (l : List ℕ). drop 1 l) e))

folded_alike : (t u : Word) → SameWord t u → map lower t ≡ map lower u
folded_alike [] [] s = refl
folded_alike [] (b ∷ u) s = absurd s
folded_alike (a ∷ t) [] s = absurd s
folded_alike (a ∷ t) (b ∷ u) s = ap₂ {C = List ℕ} (λ (x : ℕ) (l : List ℕ). x ∷ l) ((lower-same a b).1 s.0) (folded_alike t u s.1)

-- FOLDING TAKES TWO WORDS TO ONE exactly if they are the same, letter by letter
pub same-word_iff : (t u : Word) → (map lower t ≡ map lower u) ↔ SameWord t u
same-word_iff t u = (alike t u, folded_alike t u)

-- where a word, folded, is one behind another, it is so in two parts
parted : (u y w : Word) → map lower w ≡ u ++ y → (v : Word) × (x : Word) × (w ≡ v ++ x) × (map lower x ≡ y)
parted [] y w e = ([], w, refl, e)
parted (c ∷ u) y [] e = absurd (omega (arith, ap length e))
parted (c ∷ u) y (d ∷ w) e =
    let r = parted u y w (ap (λ (l : List ℕ). drop 1 l) e) in (d ∷ r.0, r.1, ap {B = List ℕ} (λ (l : List ℕ). d ∷ l) r.2, r.3)

-- A FOLDED TAG ENDS AN INPUT exactly if the input's last bytes are the tag's, letter by letter
pub folded_ends : (t w : Word) → (ends_by (record { kind = folded_kind; word = t }) w ≡ true) ↔ ((v : Word) × (u : Word) × (w ≡ v ++ u) × SameWord t u)
unfolding ends_by
folded_ends t w = (there, back)
  where
    there : ends (word_as folded_kind t) (word_as folded_kind w) ≡ true → (v : Word) × (u : Word) × (w ≡ v ++ u) × SameWord t u
    there e =
        let z = (ends_iff (word_as folded_kind t) (word_as folded_kind w)).0 e in
        let r = parted z.0 (map lower t) w (sym (word_as_folded w) ∙ z.1 ∙ ap (λ (l : Word). z.0 ++ l) (word_as_folded t)) in
        (r.0, r.1, r.2, alike t r.1 (sym r.3))

    back : (v : Word) × (u : Word) × (w ≡ v ++ u) × SameWord t u → ends (word_as folded_kind t) (word_as folded_kind w) ≡ true
    back (v, u, e, s) =
        (ends_iff (word_as folded_kind t) (word_as folded_kind w)).1 (
          word_as folded_kind v,
          ap (word_as folded_kind) e ∙ word_as_append folded_kind v u
              ∙ ap (λ (l : Word). word_as folded_kind v ++ l) (word_as_folded u ∙ sym (folded_alike t u s) ∙ sym (word_as_folded t)),
        )

-- ---- the kinds that are taken, and the lengths of their tags

-- kinds 1 and 2, or kind 1 alone
abbrev pub BothKinds : ℕ → Type 0
BothKinds number = (number ≡ 1) ⊎ (number ≡ 2)

abbrev pub KindOne : ℕ → Type 0
KindOne number = number ≡ 1

-- of some kinds, just these numbers are taken, and a tag of each has 1 to 32 bytes
pub record TakesAs (ks : List TagKind) (Taken : ℕ → Type 0) : Type 0 where
  pub taken : (number : ℕ) → (is_among number ks ≡ true) ↔ Taken number
  pub shortest : (number : ℕ) → Taken number → (kind_of number ks).shortest ≡ 1
  pub longest : (number : ℕ) → Taken number → (kind_of number ks).longest ≡ 32

both-taken : TakesAs kinds BothKinds
unfolding is_among kind_of
both-taken =
    record { taken = λ number. (there number, back number); shortest = λ number t. (each number t).0; longest = λ number t. (each number t).1 }
  where
    there : (number : ℕ) → eqb 1 number || (eqb 2 number || false) ≡ true → BothKinds number
    there number e = go (or_cases (eqb 1 number) _ e)
      where
        last : (eqb 2 number ≡ true) ⊎ (false ≡ true) → BothKinds number
        last (inl f) = inr (sym (eqb_eq 2 number f))
        last (inr f) = absurd (false≢true f)

        go : (eqb 1 number ≡ true) ⊎ (eqb 2 number || false ≡ true) → BothKinds number
        go (inl f) = inl (sym (eqb_eq 1 number f))
        go (inr f) = last (or_cases (eqb 2 number) false f)

    back : (number : ℕ) → BothKinds number → is_among number kinds ≡ true
    back number (inl q) = rw q refl
    back number (inr q) = rw q refl

    each : (number : ℕ) → BothKinds number → ((kind_of number kinds).shortest ≡ 1) × ((kind_of number kinds).longest ≡ 32)
    each number (inl q) = rw q (refl, refl)
    each number (inr q) = rw q (refl, refl)

one-taken : TakesAs (tag_kind 1 1 32 ∷ []) KindOne
unfolding is_among kind_of
one-taken = record { taken = λ number. (there number, λ q. rw q refl); shortest = λ number q. rw q refl; longest = λ number q. rw q refl }
  where
    there : (number : ℕ) → eqb 1 number || false ≡ true → KindOne number
    there number e = go (or_cases (eqb 1 number) false e)
      where
        go : (eqb 1 number ≡ true) ⊎ (false ≡ true) → KindOne number
        go (inl f) = sym (eqb_eq 1 number f)
        go (inr f) = absurd (false≢true f)

-- THE SPLIT LAYOUT TAKES KINDS 1 AND 2, and the whole-byte layout kind 1 alone
pub split_takes : TakesAs (kinds_for split_layout) BothKinds
split_takes = subst (λ (ks : List TagKind). TakesAs ks BothKinds) (sym split-kinds) both-taken

pub whole_takes : TakesAs (kinds_for whole_layout) KindOne
whole_takes = subst (λ (ks : List TagKind). TakesAs ks KindOne) (sym whole_kinds) one-taken
