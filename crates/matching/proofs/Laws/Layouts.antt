-- Layouts: when there are slots enough, what building leaves, and the place of an input.
use Rattle.std.specs.Prelude.{ℕ, true, List, [], ◌∷◌, ◌≡◌, refl, drop, length, take}
use Rattle.std.proofs.Common.{arith}
use Rattle.matching.specs.Enough.{EnoughIn, SlotsFor}
use Rattle.matching.specs.Laws.Bools.{and_both}
use Rattle.matching.proofs.Laws.Prefixes.{states-some}
use Rattle.matching.proofs.Laws.Readings.{below-place_after}
use Rattle.matching.specs.Parts.{Layout, Runs, first_length, first_run, lengths, part_slots}
use Rattle.matching.specs.Parts.{place_below, place_in, slots_over}
use Rattle.matching.specs.Reading.{all_below}
use Rattle.matching.specs.Table.{tags_for, vector_in}
use Rattle.matching.specs.Tags.{Tags, of_kind, word_as}
use Rattle.matching.specs.Words.{Word}
use Rattle.matching.specs.Laws.Layouts.{Sliced, LeftIn, first-length, other-lengths, place_in-own, place_in-others, left-holds}

-- ---- slots

-- machines with slots enough have one for the start state
pub enough-some : (layout : Layout) (tags : Tags) (lens : List ℕ) → Sliced layout → EnoughIn layout tags lens → SlotsFor layout (slots_over layout lens)
unfolding slots_over
enough-some [] tags lens z f = tt
enough-some (p ∷ ps) tags lens z f = (
  omega (arith, f.0 0 (omega (arith, z.0.machines)), states-some (tags_for p.bits (of_kind p.kind tags) 0)),
  enough-some ps tags (drop 1 lens) z.1 f.1,
)

-- ---- places

-- over runs as left, each state after any input is below the slots
pub place_in-below : (layout : Layout) (tags : Tags) (runs : Runs) → LeftIn layout tags runs → (v : Word)
    → place_below layout (slots_over layout (lengths runs)) (place_in layout tags v) ≡ true
unfolding place_below slots_over
place_in-below [] tags runs l v = refl
place_in-below (p ∷ ps) tags runs l v =
    let place = place_in (p ∷ ps) tags v in
    let s = part_slots p (first_length (lengths runs)) in
    and_both (all_below s (take p.machines place)) (place_below ps (slots_over ps (drop 1 (lengths runs))) (drop p.machines place))
    (rw (place_in-own p ps tags v, first-length runs)
    (below-place_after p.bits p.machines (part_slots p (length (first_run runs))) (of_kind p.kind tags) (vector_in p.kind p.bits tags)
    (first_run runs) (left-holds p tags (first_run runs) l.0) p.machines 0 (word_as p.kind v) (omega arith)))
    (rw (place_in-others p ps tags v, other-lengths runs) (place_in-below ps tags (drop 1 runs) l.1 v))
