-- Words: finite runs of letters, and the tests on them. A letter is a byte, or what is left of one: a slice.
use Rattle.std.specs.Prelude.{◌<◌, ◌≤◌, suc, ℕ, Bool, ◌&&◌, ◌||◌, false, true, List, [], ◌∷◌, eqb, length}
use Rattle.matching.specs.Limits.{longest_tag, most_tags}

abbrev pub Word : Type 0
Word = List ℕ

-- equal, letter for letter
unfoldable pub same : Word → Word → Bool
same [] [] = true
same [] (y ∷ ys) = false
same (x ∷ xs) [] = false
same (x ∷ xs) (y ∷ ys) = eqb x y && same xs ys

-- w is one of the words of a list
unfoldable pub among : Word → List Word → Bool
among w [] = false
among w (p ∷ ps) = same w p || among w ps

-- v stands at the front of w: v is a prefix of w
unfoldable pub begins : Word → Word → Bool
begins [] w = true
begins (x ∷ v) [] = false
begins (x ∷ v) (y ∷ w) = eqb x y && begins v w

-- v is a prefix of one of ts
unfoldable pub begins_one : Word → List Word → Bool
begins_one v [] = false
begins_one v (t ∷ ts) = begins v t || begins_one v ts

-- t stands at the end of w: t is a suffix of w
unfoldable pub ends : Word → Word → Bool
ends t [] = same t []
ends t (x ∷ w) = same t (x ∷ w) || ends t w

-- the number of a word in a list, counted from 0; the list's length where it isn't in it
unfoldable pub index_of : Word → List Word → ℕ
index_of w [] = 0
index_of w (p ∷ ps) = elim (same w p) [ true ↦ 0 | false ↦ suc (index_of w ps) ]

-- each letter is below m; of bytes, below 256
abbrev pub Below : ℕ → Word → Type 0
Below m [] = Unit {0}
Below m (x ∷ w) = (x < m) × Below m w

abbrev pub AllBelow : ℕ → List Word → Type 0
AllBelow m [] = Unit {0}
AllBelow m (t ∷ ts) = Below m t × AllBelow m ts

-- each word has at most l letters
abbrev pub AllShort : ℕ → List Word → Type 0
AllShort l [] = Unit {0}
AllShort l (t ∷ ts) = (length t ≤ l) × AllShort l ts

-- what the laws ask of a list of tags: no more and no longer than the limits. They need not be distinct, and may be of any least length
pub record Lawful (ts : List Word) : Type 0 where
  pub few : length ts ≤ most_tags
  pub short : AllShort longest_tag ts
  pub bytes : AllBelow 256 ts
