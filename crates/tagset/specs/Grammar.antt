-- The tag set (docs/RULES.md, 1): a run of entries, each a length and a kind of two bytes, the low byte first, and a payload.
use Rattle.std.specs.Prelude.{ℕ, zero, suc, ◌+◌, ◌*◌, Bool, true, false, ◌&&◌, ◌||◌, not, List, [], ◌∷◌, ◌++◌, eqb, ltb, length, get_or, take, drop}
use Rattle.matching.specs.Kinds.{TagKind, is_among, kind_of}
use Rattle.matching.specs.Limits.{most_tags}
use Rattle.matching.specs.Tags.{Tag, Tags, word_as}
use Rattle.matching.specs.Words.{same}
use Rattle.tagset.specs.declared.SetFault.{SetFault}
use Rattle.tagset.specs.declared.SetFault.TheVariants.{Cut, Many, Kind, Length, Empty, Repeat}

-- the length of its payload, as an entry at the front of some bytes says
abbrev pub length_at : List ℕ → ℕ
length_at bytes = get_or bytes 0 0 + 256 * get_or bytes 1 0

-- and its kind
abbrev pub kind_at : List ℕ → ℕ
kind_at bytes = get_or bytes 2 0 + 256 * get_or bytes 3 0

-- an entry is a tag, or it is at fault
pub data EntryOf : Type 0 where
  whole_tag : Tag → EntryOf
  at_fault : SetFault → EntryOf

-- the tag of the entry at the front of some bytes: its kind and its payload
abbrev pub tag_at : List ℕ → Tag
tag_at bytes = record { kind = kind_at bytes; word = take (length_at bytes) (drop 4 bytes) }

-- entry k by its tests, in their order: no four bytes are left, k is the number of tags that a set may have, the kind is none of those that are taken, the
-- length is below the shortest or above the longest of its kind, the payload is short
abbrev pub entry_by : ℕ → Tag → Bool → Bool → Bool → Bool → Bool → EntryOf
entry_by k tag true many kind long short = at_fault (Cut k)
entry_by k tag false true kind long short = at_fault (Many k)
entry_by k tag false false true long short = at_fault (Kind k)
entry_by k tag false false false true short = at_fault (Length k)
entry_by k tag false false false false true = at_fault (Cut k)
entry_by k tag false false false false false = whole_tag tag

-- is this no length of the kind of a number?
abbrev pub wrong_length : List TagKind → ℕ → ℕ → Bool
wrong_length ks number length = ltb length (kind_of number ks).shortest || ltb (kind_of number ks).longest length

-- entry k, at the front of the bytes that are left, where tags of the kinds ks are taken
unfoldable pub entry_of : List TagKind → ℕ → List ℕ → EntryOf
entry_of ks k bytes =
    entry_by k (tag_at bytes)
    (ltb (length bytes) 4)
    (eqb k most_tags)
    (not (is_among (kind_at bytes) ks))
    (wrong_length ks (kind_at bytes) (length_at bytes))
    (ltb (length bytes) (4 + length_at bytes))

-- a set is a list of tags, or it is at fault
pub data SetOf : Type 0 where
  good_set : Tags → SetOf
  bad_set : SetFault → SetOf

-- a tag before those of the entries behind it, unless one of these is at fault
abbrev pub behind : Tag → SetOf → SetOf
behind t (good_set tags) = good_set (t ∷ tags)
behind t (bad_set f) = bad_set f

-- the first faulty entry decides
abbrev pub on_entry : EntryOf → (Tag → SetOf) → SetOf
on_entry (whole_tag t) more = behind t (more t)
on_entry (at_fault f) more = bad_set f

-- the entries from entry k on, at most so many: entry 16 is always at fault, so 17 are all that is ever read
unfoldable pub entries_from : List TagKind → ℕ → ℕ → List ℕ → SetOf
entries_from ks zero k bytes = good_set []
entries_from ks (suc most) k [] = good_set []
entries_from ks (suc most) k (b ∷ bytes) =
    on_entry (entry_of ks k (b ∷ bytes)) (λ t. entries_from ks most (suc k) (drop (4 + length t.word) (b ∷ bytes)))

-- two tags are equal: of one kind, and the same bytes as it reads them
abbrev pub same_tag : Tag → Tag → Bool
same_tag a b = eqb b.kind a.kind && same (word_as a.kind a.word) (word_as a.kind b.word)

unfoldable pub among_tags : Tag → Tags → Bool
among_tags t [] = false
among_tags t (u ∷ tags) = same_tag t u || among_tags t tags

-- the tags, unless one of them, numbered from i, equals one before it: then the lowest-numbered
unfoldable pub distinct : Tags → ℕ → Tags → SetOf
distinct before i [] = good_set before
distinct before i (t ∷ tags) = elim (among_tags t before) [ true ↦ bad_set (Repeat i) | false ↦ distinct (before ++ t ∷ []) (suc i) tags ]

-- a good set is judged on, a bad one stays
abbrev pub on_tags : SetOf → (Tags → SetOf) → SetOf
on_tags (good_set tags) f = f tags
on_tags (bad_set fault) f = bad_set fault

-- a whole set, of tags of the kinds that are taken
unfoldable pub set_of : List TagKind → List ℕ → SetOf
set_of ks [] = bad_set Empty
set_of ks (b ∷ bytes) = on_tags (entries_from ks 17 0 (b ∷ bytes)) (distinct [] 0)
