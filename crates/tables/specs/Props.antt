-- What a good set and a part's own words hold is said of them in one way only.
use Rattle.std.specs.Prelude.{ℕ, List, [], ◌∷◌}
use Rattle.std.specs.Coded.{×_prop, Unit-prop, le_prop}
use Rattle.std.proofs.Props.{props}
use Rattle.matching.specs.Laws.Tags.{lawful_tags_prop}
use Rattle.matching.specs.Tags.{Tags}
use Rattle.matching.specs.Words.{AllShort, Word}
use Rattle.tagset.specs.declared.Places.{Places}
use Rattle.choosing.specs.declared.Chosen.{Chosen}
use Rattle.tables.specs.Shape.{Held, Tagged}

short_prop : (l : ℕ) (ts : List Word) → IsProp (AllShort l ts)
short_prop l [] = Unit-prop
short_prop l (t ∷ ts) = ×_prop le_prop (short_prop l ts)

pub held_prop : (set folded : List ℕ) (places : Places) (tags : Tags) → IsProp (Held set folded places tags)
held_prop set folded places tags = hlevel (props, lawful_tags_prop tags)

pub tagged_prop : (bytes : List ℕ) (own : Chosen) (ts : List Word) → IsProp (Tagged bytes own ts)
tagged_prop bytes own ts = hlevel (props, short_prop 32 ts)
