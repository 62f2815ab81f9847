-- `tables::parts::Machines::fill` meets its contract. The first `m` machines are laid, and what stands behind them is as it was.
use native.Mathlib.Omega.{arith}
use Rattle.tables.proofs.Machines.{laid-all, laid_more, laid_none, laid-room}
use Rattle.tables.specs.Shape.{shape}
use Rattle.tables.proofs.parts.Machines.fill.Goals as goal

pub loop-m-init : goal.loop-m-init
loop-m-init c = (omega arith, laid_none _ _ _ _ _)

pub overflow_add-end : goal.overflow_add-end
overflow_add-end c =
    omega (arith, laid-room (shape c.args.self.now.part) c.loop-m.invariant.1 c.loop-m-test.true c.requires.1)

pub slice_bounds-fill_machine-end : goal.slice_bounds-fill_machine-end
slice_bounds-fill_machine-end c =
    omega (arith, laid-room (shape c.args.self.now.part) c.loop-m.invariant.1 c.loop-m-test.true c.requires.1)

pub loop-m-preserved : goal.loop-m-preserved
loop-m-preserved c =
    let l = c.loop-m in
    let t = c.loop-m-test.true in
    let fill = c.fill_machine in
    let room = laid-room (shape c.args.self.now.part) l.invariant.1 t c.requires.1 in
    (omega arith, laid_more (shape c.args.self.now.part) l.invariant.1 room (c.requires.2 l.m t) _ fill.auto.run fill.ensures)

pub returns : goal.returns
returns c = laid-all (shape c.args.self.now.part) c.loop-m.invariant.1 (omega arith)
