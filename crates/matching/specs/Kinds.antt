-- The kinds of tag: the table of them, and how each reads a byte (docs/RULES.md, 1).
use Rattle.std.specs.Prelude.{◌+◌, ℕ, Bool, ◌&&◌, ◌||◌, cond, false, true, List, [], ◌∷◌, eqb, leb}
use Rattle.matching.specs.Limits.{longest_tag}

-- a kind: its number in an entry, and the fewest and the most bytes of a tag
pub record TagKind : Type 0 where
  pub number : ℕ
  pub shortest : ℕ
  pub longest : ℕ

abbrev pub tag_kind : ℕ → ℕ → ℕ → TagKind
tag_kind number shortest longest = record { number = number; shortest = shortest; longest = longest }

-- exact: matched byte for byte
abbrev pub exact_kind : ℕ
exact_kind = 1

-- folded: matched in either letter case
abbrev pub folded_kind : ℕ
folded_kind = 2

-- THE TABLE OF KINDS
abbrev pub kinds : List TagKind
kinds = tag_kind exact_kind 1 longest_tag ∷ tag_kind folded_kind 1 longest_tag ∷ []

-- is there a kind of this number among some kinds?
unfoldable pub is_among : ℕ → List TagKind → Bool
is_among number [] = false
is_among number (k ∷ ks) = eqb k.number number || is_among number ks

-- the kind of this number among some; where there is none, one of which no length is lawful
abbrev pub no_kind : TagKind
no_kind = tag_kind 0 1 0

unfoldable pub kind_of : ℕ → List TagKind → TagKind
kind_of number [] = no_kind
kind_of number (k ∷ ks) = elim (eqb k.number number) [ true ↦ k | false ↦ kind_of number ks ]

-- A to Z (65 to 90) are taken to a to z, every other byte to itself
unfoldable pub lower : ℕ → ℕ
lower c = cond (leb 65 c && leb c 90) (c + 32) c

-- a byte as a kind reads it
unfoldable pub as_read : ℕ → ℕ → ℕ
as_read kind c = cond (eqb kind folded_kind) (lower c) c
