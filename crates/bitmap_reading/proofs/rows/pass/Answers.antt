-- All bytes so far are quiet.
use mathlib.Core.Path.{◌∙◌, refl, sym}
use Rattle.bitmap.specs.Laws.Steps.{sound}
use native.Mathlib.Omega.{arith}
use Rattle.bitmap_reading.specs.Laws.Rows.{passed-more, passed_start}
use Rattle.bitmap_reading.proofs.rows.pass.Goals as goal

pub loop-i-init : goal.loop-i-init
loop-i-init c = (
  refl,
  passed_start c.args.table.now.states c.args.table.now.numbers.now c.args.piece.now c.args.from.state c.args.from.at c.args.from.moves c.requires.s_in_bounds.0 c.requires.from_in_bounds.0
      c.requires.from_in_bounds.1.1,
)

pub vector-requires : goal.vector-requires
vector-requires c =
    -- the state that the byte leads to, by how many moves
    let fine = sound c.args.table.now.states c.args.table.now.numbers.now c.loop-i.came.state _ _ _ c.loop-i.invariant.1.below (sym (c.quick.ensures c.in-Some.to.state c.in-Some.to.moves c.in-Some.is)) in
    fine.0

pub overflow_add-came-in-loop-i : goal.overflow_add-came-in-loop-i
overflow_add-came-in-loop-i c =
    -- the state that the byte leads to, by how many moves
    let fine = sound c.args.table.now.states c.args.table.now.numbers.now c.loop-i.came.state _ _ _ c.loop-i.invariant.1.below (sym (c.quick.ensures c.in-Some.to.state c.in-Some.to.moves c.in-Some.is)) in
    let l = c.loop-i in
    let p = l.invariant.1 in
    omega (arith, fine.1, p.few, p.below, p.quiet.most, c.args.table.now.few, c.requires.from_in_bounds.1.0)

pub loop-i-preserved : goal.loop-i-preserved
loop-i-preserved c =
    let a = c.args in
    let l = c.loop-i in (
      refl,
      passed-more a.table.now.states a.table.now.numbers.now a.piece.now a.from.state a.from.at a.from.moves l.i l.came.state l.came.moves (rw l.invariant.0 at l.invariant.1) (omega arith) c.args.table.now.few _ _
          (c.quick.ensures c.in-Some.to.state c.in-Some.to.moves c.in-Some.is)
          (sym c.vector.ensures ∙ c.if-vector-ne0.false),
    )
