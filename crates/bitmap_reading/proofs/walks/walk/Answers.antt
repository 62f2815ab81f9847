-- The whole reading is what is done and then what is left, from the state at byte i.
use Prim.Native.Nat.{◌+◌}
use Rattle.bitmap_reading.specs.Walks.{GoingMap}
use mathlib.Core.Path.{◌∙◌, sym}
use native.Mathlib.Omega.{arith}
use Rattle.bitmap.specs.Laws.Steps.{sound}
use Rattle.bitmap_reading.specs.Laws.Walks.{map-all, map_begin, map_damaged, map-full, map-pass, map-took}
use Rattle.bitmap_reading.proofs.walks.walk.Goals as goal
use Rattle.bitmap_reading.proofs.walks.walk.Goals.{In-Some-put_all}

-- the byte is taken, and its records written
taken : (c : In-Some-put_all) → GoingMap c.args.table.now.states c.args.table.now.numbers.now c.args.count c.args.piece.now c.args.list.now c.args.start
    c.put_all.new.list c.in-Some.to.state c.in-Some-put_all.x (c.loop-i.i + 1) (c.loop-i.moves + c.in-Some.to.moves)
taken c =
    map-took c.args.table.now.states c.args.table.now.numbers.now c.args.count c.args.piece.now c.args.list.now c.args.start c.loop-i.list c.loop-i.q c.loop-i.w
    c.loop-i.i c.loop-i.moves c.loop-i.invariant c.loop-i-test.true _ _ (sym c.next.ensures ∙ c.in-Some.is)
    c.vector-hits.result c.vector-hits.ensures c.args.table.now.few _ (sym c.in-Some-put_all.is ∙ c.put_all.ensures.0) _ c.put_all.ensures.1

pub loop-i-init : goal.loop-i-init
loop-i-init c =
    let a = c.args in
    map_begin a.table.now.states a.table.now.numbers.now a.count a.piece.now a.list.now a.start c.requires.start_in_bounds.0

pub returns-in_default : goal.returns-in_default
returns-in_default c =
    let a = c.args in
    let l = c.loop-i in
    map_damaged a.table.now.states a.table.now.numbers.now a.count a.piece.now a.list.now a.start l.list l.q l.w l.i l.moves l.invariant
    c.loop-i-test.true (sym c.next.ensures ∙ c.in_default.is) _
    (rw c.standing.ensures at c.stopped.ensures)

pub vector-hits-requires : goal.vector-hits-requires
vector-hits-requires c =
    let l = c.loop-i in
    let fine =
    sound c.args.table.now.states c.args.table.now.numbers.now l.q _ _ _ l.invariant.below (sym c.in-Some.is ∙ c.next.ensures) in
    fine.0

pub returns-in_default-put_all : goal.returns-in_default-put_all
returns-in_default-put_all c =
    let a = c.args in
    let l = c.loop-i in
    map-full a.table.now.states a.table.now.numbers.now a.count a.piece.now a.list.now a.start l.list l.q l.w l.i l.moves l.invariant
    c.loop-i-test.true _ _
    (sym c.next.ensures ∙ c.in-Some.is) c.vector-hits.result c.vector-hits.ensures
    (sym c.in_default-put_all.is ∙ c.put_all.ensures.0)
    c.put_all.new.list c.put_all.ensures.1 _
    (rw c.standing-in_default-put_all.ensures at c.stopped-in_default-put_all.ensures)

pub overflow_add-moves : goal.overflow_add-moves
overflow_add-moves c =
    let l = c.loop-i in
    let fine =
    sound c.args.table.now.states c.args.table.now.numbers.now l.q _ _ _ l.invariant.below
    (sym c.in-Some.is ∙ c.next.ensures) in
    omega (arith, fine.1, l.invariant.few, l.invariant.below, l.invariant.going.most, c.args.table.now.few, c.requires.start_in_bounds.1)

pub pass-p-requires : goal.pass-p-requires
pass-p-requires c =
    let done = taken (goal.at.pass-p-requires c).In-Some-put_all in
    record {
      s_in_bounds = (done.below, rw c.in-Some-row.is at c.requires.row_leads);
      from_in_bounds = (done.going.most, (omega (arith, c.requires.start_in_bounds.1), done.few));
    }

pub loop-i-preserved-in-loop-i : goal.loop-i-preserved-in-loop-i
loop-i-preserved-in-loop-i c =
    let done = taken (goal.at.loop-i-preserved-in-loop-i c).In-Some-put_all in
    let a = c.args in
    map-pass a.table.now.states a.table.now.numbers.now a.count a.piece.now a.list.now a.start _ _ _ _ _ done
    c.pass-p.result c.pass-p.ensures

pub loop-i-preserved : goal.loop-i-preserved
loop-i-preserved c =
    taken (goal.at.loop-i-preserved c).In-Some-put_all

pub returns : goal.returns
returns c =
    let a = c.args in
    let l = c.loop-i in
    map-all a.table.now.states a.table.now.numbers.now a.count a.piece.now a.list.now a.start l.list l.q l.w l.i l.moves l.invariant
    c.loop-i-test.false _ (rw c.standing-2.ensures at c.stopped-2.ensures)
