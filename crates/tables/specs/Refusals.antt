-- When building is refused, and when it is done, in the rules' words; Laws.Exact shows that it is exactly then.
use Rattle.std.specs.Prelude.{ℕ, List, [], ◌∷◌, ◌↔◌, ◌≡◌, get_or, length}
use Rattle.matching.specs.Enough.{EnoughIn, ShortIn}
use Rattle.matching.specs.Kinds.{TagKind}
use Rattle.matching.specs.Parts.{Layout, kinds_for}
use Rattle.matching.specs.Tags.{Tags}
use Rattle.tables.specs.Building.{slots_needed}
use Rattle.tagset.specs.Refusals.{Accepted, Refused, RefusedAs}
use Rattle.tagset.specs.declared.SetFault.TheVariants.{Cut, Empty, Kind, Length, Many, Repeat}

-- TABLE: the set is good, and the machine of this name, which needs so many, is the lowest of the layout that is short of slots
pub record TooFewSlots (layout : Layout) (bytes lens : List ℕ) (name needs : ℕ) : Type 0 where
  pub tags : Tags
  pub set : Accepted (kinds_for layout) bytes tags
  pub short : ShortIn tags layout lens name needs

-- done: the set is good, so many are its tags, and every machine has slots enough
pub record Builds (layout : Layout) (bytes lens : List ℕ) (count : ℕ) : Type 0 where
  pub tags : Tags
  pub set : Accepted (kinds_for layout) bytes tags
  pub counted : count ≡ length tags
  pub enough : EnoughIn layout tags lens

-- the number and the values that a builder answers, row by row as the rules' table of refusals has them: 1 to 6 where the set is at fault, then 7,
-- TABLE, with the machine and the states that it needs; 0 and the number of tags where it is done. Which kinds of tag a builder takes, when it is short
-- of slots, and when it is done, is its own: `ks`, `Short` and `Done`
pub data AnswersBy (Done : ℕ → Type 0) (Short : ℕ → ℕ → Type 0) (ks : List TagKind) (bytes : List ℕ) : ℕ → List ℕ → Type 0 where
  a_fault : {number : ℕ} {values : List ℕ} → RefusedAs ks bytes number values → AnswersBy Done Short ks bytes number values
  a_table : {name needs : ℕ} → Short name needs → AnswersBy Done Short ks bytes 7 (name ∷ needs ∷ [])
  a_tags : {count : ℕ} → Done count → AnswersBy Done Short ks bytes 0 (count ∷ [])

-- the same number by number: each, with what is returned with it, exactly if what stands on the right holds
pub record BuildExactBy (Done : ℕ → Type 0) (Short : ℕ → ℕ → Type 0) (ks : List TagKind) (bytes : List ℕ) (number : ℕ) (values : List ℕ) : Type 0 where
  pub done : (count : ℕ) → ((number ≡ 0) × (values ≡ count ∷ [])) ↔ Done count
  pub cut : (entry : ℕ) → ((number ≡ 1) × (values ≡ entry ∷ [])) ↔ Refused ks bytes (Cut entry)
  pub many : (entry : ℕ) → ((number ≡ 2) × (values ≡ entry ∷ [])) ↔ ((entry ≡ 16) × Refused ks bytes (Many 16))
  pub kind : (entry : ℕ) → ((number ≡ 3) × (values ≡ entry ∷ [])) ↔ Refused ks bytes (Kind entry)
  pub length : (entry : ℕ) → ((number ≡ 4) × (values ≡ entry ∷ [])) ↔ Refused ks bytes (Length entry)
  pub empty : (entry : ℕ) → ((number ≡ 5) × (values ≡ entry ∷ [])) ↔ ((entry ≡ 0) × Refused ks bytes Empty)
  pub repeat : (entry : ℕ) → ((number ≡ 6) × (values ≡ entry ∷ [])) ↔ Refused ks bytes (Repeat entry)
  pub table : (machine needs : ℕ) → ((number ≡ 7) × (values ≡ machine ∷ needs ∷ [])) ↔ Short machine needs

-- both, of the builder for a layout: short of slots as `TooFewSlots` says, done as `Builds` says
abbrev pub Answers : Layout → (bytes lens : List ℕ) → ℕ → List ℕ → Type 0
Answers layout bytes lens number values = AnswersBy (Builds layout bytes lens) (TooFewSlots layout bytes lens) (kinds_for layout) bytes number values

abbrev pub BuildExact : Layout → (bytes lens : List ℕ) → ℕ → List ℕ → Type 0
BuildExact layout bytes lens number values = BuildExactBy (Builds layout bytes lens) (TooFewSlots layout bytes lens) (kinds_for layout) bytes number values

-- the number and the values that are answered for the slots a set needs in a layout: 1 to 6 where it is at fault, and else 0, with the most distinct
-- prefixes of a machine of the first part and of one of the second, 0 where there is no second
pub data NeedsAs (layout : Layout) (bytes : List ℕ) : ℕ → List ℕ → Type 0 where
  needs_none : {number : ℕ} {values : List ℕ} → RefusedAs (kinds_for layout) bytes number values → NeedsAs layout bytes number values
  needs_slots : {tags : Tags} → Accepted (kinds_for layout) bytes tags
      → NeedsAs layout bytes 0 (get_or (slots_needed layout tags) 0 0 ∷ get_or (slots_needed layout tags) 1 0 ∷ [])
