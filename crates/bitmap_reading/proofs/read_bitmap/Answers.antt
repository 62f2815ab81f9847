-- By the verdict: a refusal changes nothing, and otherwise the loop answers.
use Prim.Native.Nat.{◌+◌}
use mathlib.Core.Bool.{false, true}
use lib.Dec.{ltb}
use mathlib.Core.Path.{◌∙◌, ◌≡◌, ap, refl, sym}
use native.Mathlib.Omega.{arith}
use lib.ListN.{length}
use borrow.Author.Tests.{ltb-false, ltb-true}
use Rattle.reading.specs.Laws.Answers.{answer-read, first-none}
use Rattle.reading.specs.Refusals.{verdict_number}
use Rattle.bitmap_reading.specs.Laws.Outside.{map-reads, map-refused}
use Rattle.bitmap_reading.proofs.read_bitmap.Goals as goal
use Rattle.bitmap_reading.proofs.read_bitmap.Goals.{In_default}

-- where it goes on, the state is below s and the count has room
goes : (c : In_default) → (ltb c.args.place c.map_slots-states.result ≡ true) × (ltb 4294967295 (c.args.count + length c.args.piece.now) ≡ false)
goes c = first-none _ _ (sym (ap verdict_number c.in_default.is) ∙ rw (c.from-start.ensures, c.too_long-long.ensures) at c.judge.ensures)

pub returns-in-Err : goal.returns-in-Err
returns-in-Err c =
    let a = c.args in
    -- the verdict by what is refused
    let verdict = rw (c.from-start.ensures, c.too_long-long.ensures) at c.judge.ensures in
    let m = c.map_slots-states in
    rw (map-refused a.table.now a.place a.count a.piece.now (length a.list.now) m.result m.ensures
    c.in-Err.why (sym (ap verdict_number c.in-Err.is) ∙ verdict)) (c.refused.ensures, refl)

pub on_bitmap-r-requires : goal.on_bitmap-r-requires
on_bitmap-r-requires c =
    let a = c.args in
    let m = c.map_slots-states in
    let g = goes (goal.at.on_bitmap-r-requires c).In_default in
    let l = ltb-false 4294967295 (a.count + length a.piece.now) g.1 in
    let b = ltb-true a.place m.result g.0 in
    (omega (arith, c.from-start.ensures, b), omega (arith, l))

pub returns : goal.returns
returns c =
    let a = c.args in
    let m = c.map_slots-states in
    let w = c.from-start in
    let o = c.on_bitmap-r in
    let g = goes (goal.at.returns c).In_default in
    let reads = map-reads a.table.now a.place a.count a.piece.now (length a.list.now) m.result m.ensures g.0 g.1 in
    answer-read (λ p. p) (record { state = a.place; moves = 0 }) _ _ o.result _ a.list.now _ reads (rw w.ensures at o.ensures.is) refl (rw w.ensures at o.ensures.list)
