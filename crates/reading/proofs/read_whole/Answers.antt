-- By the verdict: a refusal changes nothing, and otherwise the loop answers.
use Prim.Native.Nat.{ℕ, ◌+◌, ◌/◌}
use mathlib.Core.Bool.{false, true}
use lib.Dec.{ltb}
use mathlib.Core.List.{[], ◌∷◌}
use mathlib.Core.Path.{◌∙◌, ◌≡◌, ap, refl, sym}
use native.Mathlib.Nat.{one-mul}
use native.Mathlib.Omega.{arith}
use lib.ListN.{get_or, length}
use borrow.Author.Tests.{ltb-false, ltb-true}
use Rattle.matching.specs.Laws.Slots.{slots-room}
use Rattle.matching.specs.Parts.{read_in, whole_layout, width}
use Rattle.matching.specs.Reading.{read}
use Rattle.reading.specs.Laws.Answers.{first-none, read_goes, answer-read, states-fit, whole_as_table, whole_below, whole-slots}
use Rattle.reading.proofs.Laws.Answers.{read-refused}
use Rattle.reading.specs.Refusals.{verdict_number}
use Rattle.reading.specs.Walks.{list_of, went_one_of}
use Rattle.reading.specs.declared.went.Went.{Went}
use Rattle.reading.proofs.read_whole.Goals as goal
use Rattle.reading.proofs.read_whole.Goals.{In_default}

-- where it goes on, the state is below s and the count has room
goes : (c : In_default) → (ltb c.args.place c.slots-s.result ≡ true) × (ltb 4294967295 (c.args.count + length c.args.piece.now) ≡ false)
goes c = first-none _ _ (sym (ap verdict_number c.in_default.is) ∙ rw (c.from-start.ensures, c.too_long-long.ensures) at c.judge.ensures)

-- and the loop's reading is that of the layout
loop : (c : In_default) → read 8 c.slots-s.result c.args.table.now (c.from-start.result ∷ []) c.args.count (length c.args.list.now / 2) c.args.piece.now
    ≡ read_in whole_layout (c.args.table.now ∷ []) (c.args.place ∷ []) c.args.count (length c.args.list.now / 2) c.args.piece.now
loop c =
    rw c.from-start.ensures
    (whole_as_table c.args.table.now c.slots-s.result c.slots-s.ensures c.args.place c.args.count (length c.args.list.now / 2) c.args.piece.now)

pub returns-in-Err : goal.returns-in-Err
returns-in-Err c =
    let a = c.args in
    -- the verdict by what is refused
    let verdict = rw (c.from-start.ensures, c.too_long-long.ensures) at c.judge.ensures in
    rw (read-refused whole_layout (a.table.now ∷ []) (a.place ∷ []) a.count a.piece.now (length a.list.now) (c.slots-s.result ∷ [])
    (whole-slots a.table.now c.slots-s.result c.slots-s.ensures) c.in-Err.why
    (rw (whole_below c.slots-s.result a.place) (sym (ap verdict_number c.in-Err.is) ∙ verdict))) (c.refused.ensures, refl)

pub on_whole-r-requires : goal.on_whole-r-requires
on_whole-r-requires c =
    let a = c.args in
    let g = goes (goal.at.on_whole-r-requires c).In_default in
    let l = ltb-false 4294967295 (a.count + length a.piece.now) g.1 in
    (rw c.from-start.ensures (ltb-true a.place c.slots-s.result g.0), omega (arith, l))

pub invariant_of-table : goal.invariant_of-table
invariant_of-table c = record { fits = rw one-mul at (slots-room 8 1 (length c.args.table.now) c.slots-s.result c.slots-s.ensures) }

pub overflow_cast-result : goal.overflow_cast-result
unfolding width
overflow_cast-result c =
    let a = c.args in
    let g = goes (goal.at.overflow_cast-result c).In_default in
    let same = loop (goal.at.overflow_cast-result c).In_default in
    let at = ap (λ (r : Went ℕ). r.place) (c.on_whole-r.ensures.0 ∙ ap went_one_of same) in
    let sound = rw (← whole_below c.slots-s.result a.place) at g.0 in
    let fit = states-fit whole_layout (a.table.now ∷ []) (a.place ∷ []) a.count (length a.list.now / 2) a.piece.now refl
    (rw (← whole-slots a.table.now c.slots-s.result c.slots-s.ensures) sound) 0 (omega arith) in
    omega (arith, at, fit)

pub returns : goal.returns
returns c =
    let a = c.args in
    let g = goes (goal.at.returns c).In_default in
    let same = loop (goal.at.returns c).In_default in
    let reads = read_goes whole_layout (a.table.now ∷ []) (a.place ∷ []) a.count a.piece.now (length a.list.now) (c.slots-s.result ∷ [])
    (whole-slots a.table.now c.slots-s.result c.slots-s.ensures) (whole_below c.slots-s.result a.place ∙ g.0) g.1 in
    answer-read (λ p. get_or p 0 0) a.place _ _ c.on_whole-r.result _ a.list.now _ reads
    (c.on_whole-r.ensures.0 ∙ ap went_one_of same) refl (c.on_whole-r.ensures.1 ∙ ap (list_of a.list.now) same)
