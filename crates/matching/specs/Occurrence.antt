-- What is to be found: the occurrences of tags in an input.
use Rattle.std.specs.Prelude.{◌<◌, suc, ℕ, Bool, false, true, ◌⊎◌, ◌≡◌}
use mathlib.Core.List.{List, Memᴰ, [], ◌++◌, ◌∷◌, map}
use Rattle.matching.specs.Words.{Word, ends}

-- a tag's bytes end at the byte whose count, from 1, is end
pub record Occurrence : Type 0 where
  pub end : ℕ
  pub tag : ℕ

-- the numbers, counted from i, of the tags of which g holds
unfoldable pub numbers_where : {A : Type 0} → (A → Bool) → ℕ → List A → List ℕ
numbers_where g i [] = []
numbers_where g i (t ∷ ts) = elim (g t) [ true ↦ i ∷ numbers_where g (suc i) ts | false ↦ numbers_where g (suc i) ts ]

-- the numbers of the tags that w ends with, the lowest first
unfoldable pub tags_ending : List Word → Word → List ℕ
tags_ending ts w = numbers_where (λ t. ends t w) 0 ts

-- these tags, each with the end e
unfoldable pub occur_at : ℕ → List ℕ → List Occurrence
occur_at e tags = map (λ i. record { end = e; tag = i }) tags

-- what f finds at each byte of w, where v is the input before w and count is what was counted before w
unfoldable pub occurrences_by : (Word → List ℕ) → Word → ℕ → Word → List Occurrence
occurrences_by f v count [] = []
occurrences_by f v count (c ∷ w) = occur_at (suc count) (f (v ++ c ∷ [])) ++ occurrences_by f (v ++ c ∷ []) (suc count) w

-- the occurrences of the tags whose last byte is in w
abbrev pub occurrences_from : List Word → Word → ℕ → Word → List Occurrence
occurrences_from ts v count w = occurrences_by (tags_ending ts) v count w

-- the occurrences of the tags in a whole input: by end, then by tag number
abbrev pub occurrences : List Word → Word → List Occurrence
occurrences ts w = occurrences_from ts [] 0 w

-- as a list of numbers holds them: end and tag, two numbers each
unfoldable pub flat : List Occurrence → List ℕ
flat [] = []
flat (o ∷ os) = o.end ∷ o.tag ∷ flat os

-- a stands before b: it ends earlier, or at the same byte and has the lower tag number
abbrev pub Before : Occurrence → Occurrence → Type 0
Before a b = (a.end < b.end) ⊎ ((a.end ≡ b.end) × (a.tag < b.tag))

-- each stands before all those after it, so none stands twice
abbrev pub Ordered : List Occurrence → Type 0
Ordered [] = Unit {0}
Ordered (o ∷ os) = ((p : Occurrence) → Memᴰ p os → Before o p) × Ordered os
