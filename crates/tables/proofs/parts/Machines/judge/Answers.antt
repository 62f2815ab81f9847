-- `tables::parts::Machines::judge` meets its contract. No machine before `m` is short of slots.
use native.Mathlib.Omega.{arith}
use Rattle.choosing.specs.Choosing.{own_words}
use Rattle.tables.proofs.Judging.{judge_all, judge_more, judge_short}
use Rattle.tables.specs.Shape.{as_part}
use Rattle.tables.proofs.parts.Machines.judge.Goals as goal

pub returns-then-s-needs : goal.returns-then-s-needs
returns-then-s-needs c =
    let a = c.args in
    let l = c.loop-m in
    let states = c.states_of-needs in
    judge_short (as_part a.self.now.part) a.s (own_words a.self.now.bytes.now a.self.now.own) l.m c.loop-m-test.true l.invariant.1
    states.result states.ensures c.if-s-needs.true

pub loop-m-preserved : goal.loop-m-preserved
loop-m-preserved c =
    let a = c.args in
    let l = c.loop-m in
    let states = c.states_of-needs in (
      omega arith,
      judge_more (as_part a.self.now.part) a.s (own_words a.self.now.bytes.now a.self.now.own) l.m c.loop-m-test.true l.invariant.1
          states.result states.ensures c.if-s-needs.false,
    )

pub returns : goal.returns
returns c =
    let a = c.args in
    let l = c.loop-m in
    judge_all (as_part a.self.now.part) a.s (own_words a.self.now.bytes.now a.self.now.own) l.m (omega (arith, c.loop-m-test.false)) l.invariant.1
