-- When a set is refused, in the rules' words (docs/RULES.md, 1), where tags of the kinds ks are taken. Laws.Exact shows that it is refused exactly then.
use Rattle.std.specs.Prelude.{◌+◌, ◌<◌, ◌≤◌, suc, ℕ, false, true, List, [], ◌++◌, ◌∷◌, ◌⊎◌, ◌≡◌, drop, get_or, length}
use Rattle.matching.specs.Kinds.{TagKind, is_among, kind_of}
use Rattle.matching.specs.Limits.{most_tags}
use Rattle.matching.specs.Tags.{Tag, Tags, no_tag, word_as}
use Rattle.tagset.specs.Grammar.{kind_at, length_at, tag_at}
use Rattle.tagset.specs.declared.SetFault.{SetFault}
use Rattle.tagset.specs.declared.SetFault.TheVariants.{Cut, Empty, Kind, Length, Many, Repeat}

-- the kind of the entry at the front of some bytes, of those that are taken
abbrev pub kind_here : List TagKind → List ℕ → TagKind
kind_here ks left = kind_of (kind_at left) ks

-- entry k, at the front of the bytes that are left, passes every check
pub record Whole (ks : List TagKind) (k : ℕ) (left : List ℕ) : Type 0 where
  pub four : 4 ≤ length left
  pub room : k ≡ most_tags → ⊥
  pub kind : is_among (kind_at left) ks ≡ true
  pub some : (kind_here ks left).shortest ≤ length_at left
  pub short : length_at left ≤ (kind_here ks left).longest
  pub rest : 4 + length_at left ≤ length left

-- the first check that entry k fails, and the fault that it is
pub data Fails (ks : List TagKind) (k : ℕ) (left : List ℕ) : SetFault → Type 0 where
  fewer_than_four : length left < 4 → Fails ks k left (Cut k)
  seventeenth : 4 ≤ length left → k ≡ most_tags → Fails ks k left (Many k)
  other_kind : 4 ≤ length left → (k ≡ most_tags → ⊥) → is_among (kind_at left) ks ≡ false → Fails ks k left (Kind k)
  no_length : 4 ≤ length left → (k ≡ most_tags → ⊥) → is_among (kind_at left) ks ≡ true
      → (length_at left < (kind_here ks left).shortest) ⊎ ((kind_here ks left).longest < length_at left) → Fails ks k left (Length k)
  short_payload : 4 ≤ length left → (k ≡ most_tags → ⊥) → is_among (kind_at left) ks ≡ true → (kind_here ks left).shortest ≤ length_at left
      → length_at left ≤ (kind_here ks left).longest → length left < 4 + length_at left → Fails ks k left (Cut k)

-- the first k entries passed, their tags are these, and these bytes are left
pub data Passed (ks : List TagKind) (bytes : List ℕ) : ℕ → Tags → List ℕ → Type 0 where
  at_front : Passed ks bytes 0 [] bytes
  one_more : {k : ℕ} {tags : Tags} {left : List ℕ} → Passed ks bytes k tags left → Whole ks k left
      → Passed ks bytes (suc k) (tags ++ tag_at left ∷ []) (drop (4 + length_at left) left)

-- two tags are equal: of one kind, and the same bytes as it reads them
pub record Equal (a b : Tag) : Type 0 where
  pub kind : a.kind ≡ b.kind
  pub read : word_as a.kind a.word ≡ word_as b.kind b.word

-- tag k equals an earlier one
abbrev pub Repeats : Tags → ℕ → Type 0
Repeats tags k = (j : ℕ) × (j < k) × Equal (get_or tags j no_tag) (get_or tags k no_tag)

-- no two tags are equal
abbrev pub NoRepeats : Tags → Type 0
NoRepeats tags = (k : ℕ) → k < length tags → Repeats tags k → ⊥

-- tag k is the lowest-numbered that equals an earlier one
pub record FirstRepeat (tags : Tags) (k : ℕ) : Type 0 where
  pub tag : k < length tags
  pub repeats : Repeats tags k
  pub lowest : (i : ℕ) → i < k → Repeats tags i → ⊥

-- a set is refused: it has no bytes; or bytes are left behind the entries that passed, and the next entry fails; or every entry
-- passed, no bytes are left, and a tag equals an earlier one
pub data Refused (ks : List TagKind) (bytes : List ℕ) : SetFault → Type 0 where
  no_bytes : length bytes ≡ 0 → Refused ks bytes Empty
  entry_fails : {k : ℕ} {tags : Tags} {left : List ℕ} {fault : SetFault} → Passed ks bytes k tags left → 0 < length left → Fails ks k left fault
      → Refused ks bytes fault
  tag_repeats : {n : ℕ} {tags : Tags} {k : ℕ} → 0 < length bytes → Passed ks bytes n tags [] → FirstRepeat tags k → Refused ks bytes (Repeat k)

-- a set is accepted with its tags: it has bytes, every entry passed, none are left, and no two tags are equal
pub record Accepted (ks : List TagKind) (bytes : List ℕ) (tags : Tags) : Type 0 where
  pub some : 0 < length bytes
  pub passed : Passed ks bytes (length tags) tags []
  pub distinct : NoRepeats tags

-- what a set is refused with, row by row as the rules' table of refusals has it: the number, and what is returned with it
pub data RefusedAs (ks : List TagKind) (bytes : List ℕ) : ℕ → List ℕ → Type 0 where
  cut_as : {entry : ℕ} → Refused ks bytes (Cut entry) → RefusedAs ks bytes 1 (entry ∷ [])
  many_as : Refused ks bytes (Many 16) → RefusedAs ks bytes 2 (16 ∷ [])
  kind_as : {entry : ℕ} → Refused ks bytes (Kind entry) → RefusedAs ks bytes 3 (entry ∷ [])
  length_as : {entry : ℕ} → Refused ks bytes (Length entry) → RefusedAs ks bytes 4 (entry ∷ [])
  empty_as : Refused ks bytes Empty → RefusedAs ks bytes 5 (0 ∷ [])
  repeat_as : {entry : ℕ} → Refused ks bytes (Repeat entry) → RefusedAs ks bytes 6 (entry ∷ [])
