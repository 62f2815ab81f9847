-- By the verdict: a refusal changes nothing, and otherwise the loop answers.
use Prim.Native.Nat.{ℕ, ◌+◌, ◌/◌}
use mathlib.Core.Bool.{false, true}
use lib.Dec.{ltb}
use Rattle.matching.specs.Parts.{place_below, read_in, split_layout, width}
use Rattle.reading.specs.Laws.Answers.{answer-read, first-none, read_goes, states-fit}
use Rattle.reading.proofs.Laws.Answers.{read-refused}
use Rattle.reading.specs.Refusals.{verdict_number}
use Rattle.reading.specs.declared.went.Went.{Went}
use borrow.Author.Tests.{ltb-false}
use lib.ListN.{length}
use mathlib.Core.List.{List, [], ◌∷◌}
use mathlib.Core.Path.{◌∙◌, ◌≡◌, ap, refl, sym}
use native.Mathlib.Omega.{arith}
use Rattle.reading.proofs.read_split.Goals as goal
use Rattle.reading.proofs.read_split.Goals.{In_default}

-- where it goes on, each number of the place is a state of its table and the count has room
goes : (c : In_default) → (place_below split_layout c.slots_of-s.result c.args.place ≡ true)
    × (ltb 4294967295 (c.args.count + length c.args.piece.now) ≡ false)
goes c = first-none _ _ (sym (ap verdict_number c.in_default.is) ∙ rw (c.all_states-sound.ensures, c.widened-start.ensures, c.too_long-long.ensures) at c.judge.ensures)

pub returns-in-Err : goal.returns-in-Err
returns-in-Err c =
    let a = c.args in
    -- the verdict by what is refused
    let verdict = rw (c.all_states-sound.ensures, c.widened-start.ensures, c.too_long-long.ensures) at c.judge.ensures in
    rw (read-refused split_layout (a.first.now ∷ a.second.now ∷ []) a.place a.count a.piece.now (length a.list.now) c.slots_of-s.result
    c.slots_of-s.ensures c.in-Err.why (sym (ap verdict_number c.in-Err.is) ∙ verdict)) (c.refused.ensures, refl)

pub on_split-r-requires : goal.on_split-r-requires
on_split-r-requires c =
    let g = goes (goal.at.on_split-r-requires c).In_default in
    let l = ltb-false 4294967295 (c.args.count + length c.args.piece.now) g.1 in
    (record { slots_are = c.slots_of-s.ensures; below = rw c.widened-start.ensures g.0; wide = omega arith }, omega (arith, l))

pub narrowed-requires : goal.narrowed-requires
unfolding read_in width
narrowed-requires c =
    let a = c.args in
    let g = goes (goal.at.narrowed-requires c).In_default in
    let runs = a.first.now ∷ a.second.now ∷ [] in
    let at = ap (λ (r : Went (List ℕ)). r.place) c.on_split-r.ensures.0 in
    λ i l. rw (at, c.widened-start.ensures) (states-fit split_layout runs a.place a.count (length a.list.now / 2) a.piece.now
    (omega (arith, c.well_formed)) (rw (← c.slots_of-s.ensures) g.0) i l)

pub returns : goal.returns
returns c =
    let a = c.args in
    let g = goes (goal.at.returns c).In_default in
    let reads = read_goes split_layout (a.first.now ∷ a.second.now ∷ []) a.place a.count a.piece.now (length a.list.now) _
    c.slots_of-s.ensures
    g.0 g.1 in
    answer-read (λ p. p) a.place _ _ c.on_split-r.result _ a.list.now _ reads
    (rw c.widened-start.ensures at c.on_split-r.ensures.0) c.narrowed.ensures (rw c.widened-start.ensures at c.on_split-r.ensures.1)
