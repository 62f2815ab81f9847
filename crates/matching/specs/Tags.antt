-- The tags of a set: how many there are, when one of them ends an input, and what is found of them. Whatever speaks of editions and tickets
-- speaks of these names; of those that are `unfoldable` it knows what Laws/Tags.antt shows, and how a tag is matched is said here alone.
use Rattle.std.specs.Prelude.{ℕ, ◌≤◌, Bool, ◌&&◌, cond, List, [], ◌∷◌, map, eqb, ltb, get_or, length}
use Rattle.matching.specs.Kinds.{as_read, exact_kind}
use Rattle.matching.specs.Limits.{longest_tag, most_tags}
use Rattle.matching.specs.Occurrence.{Occurrence, numbers_where, occurrences_by}
use Rattle.matching.specs.Words.{Below, Word, ends}

-- a tag: its kind and its bytes
pub record Tag : Type 0 where
  pub kind : ℕ
  pub word : Word

abbrev pub Tags : Type 0
Tags = List Tag

-- where there is no tag
abbrev pub no_tag : Tag
no_tag = record { kind = 0; word = [] }

-- tags that are matched byte for byte
abbrev pub exact_tag : Word → Tag
exact_tag w = record { kind = exact_kind; word = w }

abbrev pub exact : List Word → Tags
exact ts = map exact_tag ts

-- bytes as a kind reads them
abbrev pub word_as : ℕ → Word → Word
word_as kind w = map (as_read kind) w

-- a tag ends an input: its bytes are the last of the input's, both read by its kind
unfoldable pub ends_by : Tag → Word → Bool
ends_by t w = ends (word_as t.kind t.word) (word_as t.kind w)

-- what the laws ask of one tag, and of all of them
pub record LawfulTag (t : Tag) : Type 0 where
  pub short : length t.word ≤ longest_tag
  pub bytes : Below 256 t.word

abbrev pub AllLawful : Tags → Type 0
AllLawful [] = Unit {0}
AllLawful (t ∷ tags) = LawfulTag t × AllLawful tags

unfoldable pub LawfulTags : Tags → Type 0
LawfulTags tags = (length tags ≤ most_tags) × AllLawful tags

unfoldable pub tag_count : Tags → ℕ
tag_count tags = length tags

-- there is a tag i, and it ends the input
unfoldable pub tag_ends : Tags → ℕ → Word → Bool
tag_ends tags i w = ltb i (length tags) && ends_by (get_or tags i no_tag) w

-- the numbers of the tags that end the input, the lowest first
unfoldable pub tags_at : Tags → Word → List ℕ
tags_at tags w = numbers_where (λ t. ends_by t w) 0 tags

-- the occurrences of tags whose last byte is in w, where v is the input before w and count is what was counted before w
abbrev pub found_from : Tags → Word → ℕ → Word → List Occurrence
found_from tags v count w = occurrences_by (tags_at tags) v count w

-- the occurrences of tags in a whole input: by end, then by tag number
abbrev pub found_in : Tags → Word → List Occurrence
found_in tags w = found_from tags [] 0 w

-- ---- the tags of one kind

-- the tag is of a kind
abbrev pub is_kind : ℕ → Tag → Bool
is_kind kind t = eqb t.kind kind

-- what is chosen of a list, in its order
unfoldable pub chosen : {A : Type 0} → (A → Bool) → List A → List A
chosen ok [] = []
chosen ok (x ∷ xs) = cond (ok x) (x ∷ chosen ok xs) (chosen ok xs)

-- the bytes of the tags of a kind, as it reads them, in the tags' order
unfoldable pub of_kind : ℕ → Tags → List Word
of_kind kind tags = map (λ t. word_as kind t.word) (chosen (is_kind kind) tags)
