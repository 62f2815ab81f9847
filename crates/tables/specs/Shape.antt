-- What the parts of the builder say to each other.
use Rattle.std.specs.Prelude.{Err, Ok, Result}
use Rattle.tables.specs.declared.BuildFault.TheVariants as B
use Rattle.std.specs.Prelude.{◌*◌, ◌+◌, ◌<◌, ◌^◌, ◌≤◌, ℕ, List, [], ◌≡◌, get_or, length, take}
use Rattle.machines.specs.Rows.{cell}
use Rattle.matching.specs.Kinds.{folded_kind}
use Rattle.matching.specs.Laws.Dealt.{dealt}
use Rattle.matching.specs.Limits.{longest_tag, most_tags}
use Rattle.matching.specs.Machine.{next, prefixes, states, vector}
use Rattle.matching.specs.Parts as P
use Rattle.matching.specs.Slicing.{Slicing}
use Rattle.matching.specs.Table.{Room, enough_slots, short_of_slots, tags_for}
use Rattle.matching.specs.Tags.{LawfulTags, Tags, word_as}
use Rattle.matching.specs.Words.{AllShort, Word}
use Rattle.tagset.specs.declared.Places.{Places}
use Rattle.choosing.specs.Choosing.{PlacesFit, RoomForAll}
use Rattle.choosing.specs.Dealing.{is_of}
use Rattle.choosing.specs.declared.Chosen.{Chosen}
use Rattle.tables.specs.declared.BuildFault.{BuildFault}
use Rattle.tables.specs.declared.Part.{Part}

-- ---- parts

-- a part of the code, as the definitions have it
abbrev pub as_part : Part → P.Part
as_part part = P.part part.kind part.bits part.machines part.name

-- its machines read the bits of a byte, and it has their letters and the mask that leaves these
pub record Shaped (part : Part) : Type 0 where
  pub slicing : Slicing part.bits part.machines
  pub letters : part.letters ≡ 2 ^ part.bits
  pub mask : part.mask + 1 ≡ part.letters
  pub named : part.name < 256

-- as every part is
pub shape : (part : Part) → Shaped part
shape part = record { slicing = part.sliced.slicing; letters = part.sliced.letters_are; mask = part.sliced.mask_is; named = part.sliced.named }

-- ---- tags

-- a set folded, at the front of an array
pub record Folded (set folded : List ℕ) : Type 0 where
  pub long : length folded ≡ 576
  pub front : take (length set) folded ≡ word_as folded_kind set

-- a good set in hand, as it is and folded, with the places of its tags
pub record Held (set folded : List ℕ) (places : Places) (tags : Tags) : Type 0 where
  pub small : length set ≤ 576
  pub folds : folded ≡ word_as folded_kind set
  pub fit : PlacesFit places
  pub lawful : LawfulTags tags

-- the words of a part's own tags: as many as there are places of them, at most 16 of at most 32 bytes, in at most 576 bytes
pub record Tagged (bytes : List ℕ) (own : Chosen) (ts : List Word) : Type 0 where
  pub many : length ts ≡ own.count
  pub few : length ts ≤ most_tags
  pub short : AllShort longest_tag ts
  pub small : length bytes ≤ 576
  pub roomy : RoomForAll own

-- ---- slots

-- the vector of a prefix over a part's own tags, dealt out to all tags, whose kinds are ks
abbrev pub mark_by : ℕ → List ℕ → ℕ → List Word → ℕ → Word → ℕ
mark_by kind ks n ts m p = dealt (is_of kind) ks (vector (tags_for n ts m) p)

-- slots of m nexts and a vector: those of the machine of ts, with the vectors that `mark` says, and zeros behind them
pub record Marked (ts : List Word) (mark : Word → ℕ) (m : ℕ) (l : List ℕ) : Type 0 where
  pub nexts : (q c : ℕ) → q < states ts → c < m → get_or l (cell m q c) 0 ≡ next (prefixes ts) q c
  pub vectors : (q : ℕ) → q < states ts → get_or l (cell m q m) 0 ≡ mark (get_or (prefixes ts) q [])
  pub blank : (j : ℕ) → states ts * (m + 1) ≤ j → get_or l j 0 ≡ 0

-- ---- answers

-- slots enough, or a machine that is short of them
abbrev pub judged_by : Room → Result (Unit {0}) BuildFault
judged_by enough_slots = Ok tt
judged_by (short_of_slots name needs) = Err (B.Table name needs)
