-- When the machines of a layout have slots enough for some tags, and which is the lowest that has not (docs/RULES.md, 3).
use Rattle.std.specs.Prelude.{◌+◌, ◌<◌, ◌≤◌, ℕ, List, [], ◌∷◌, drop, get_or}
use Rattle.matching.specs.Laws.Tables.{Lowest}
use Rattle.matching.specs.Machine.{states}
use Rattle.matching.specs.Parts.{Layout, Part, first_length, part_slots}
use Rattle.matching.specs.Table.{tags_for}
use Rattle.matching.specs.Tags.{Tags, of_kind}

-- each machine of a part has as many slots as states
abbrev pub EnoughFor : Part → Tags → ℕ → Type 0
EnoughFor p tags s = (m : ℕ) → m < p.machines → states (tags_for p.bits (of_kind p.kind tags) m) ≤ s

-- machine m of a part is its lowest that is short of slots
abbrev pub LowestIn : Part → Tags → ℕ → ℕ → Type 0
LowestIn p tags s m = Lowest p.bits s (of_kind p.kind tags) 0 p.machines m

-- every machine of a layout has slots enough, each part in a run of so many numbers
abbrev pub EnoughIn : Layout → Tags → List ℕ → Type 0
EnoughIn [] tags lens = Unit {0}
EnoughIn (p ∷ ps) tags lens = EnoughFor p tags (part_slots p (first_length lens)) × EnoughIn ps tags (drop 1 lens)

-- each machine of a layout has a slot, where the parts have so many
abbrev pub SlotsFor : Layout → List ℕ → Type 0
SlotsFor [] slots = Unit {0}
SlotsFor (p ∷ ps) slots = (0 < get_or slots 0 0) × SlotsFor ps (drop 1 slots)

-- of a layout's machines the lowest that is short of slots has this name, and needs so many: it stands in the first part that has one
pub data ShortIn (tags : Tags) : Layout → List ℕ → (name needs : ℕ) → Type 0 where
  in_first : (p : Part) (ps : Layout) (lens : List ℕ) (m : ℕ) → LowestIn p tags (part_slots p (first_length lens)) m
      → ShortIn tags (p ∷ ps) lens (p.name + m) (states (tags_for p.bits (of_kind p.kind tags) m))
  in_others : (p : Part) (ps : Layout) (lens : List ℕ) {name needs : ℕ} → EnoughFor p tags (part_slots p (first_length lens))
      → ShortIn tags ps (drop 1 lens) name needs → ShortIn tags (p ∷ ps) lens name needs
