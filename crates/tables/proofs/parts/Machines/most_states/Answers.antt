-- `tables::parts::Machines::most_states` meets its contract. From the last machine down: the most that those from `m` on need.
use native.Mathlib.Omega.{arith}
use Rattle.choosing.specs.Choosing.{own_words}
use Rattle.tables.proofs.Judging.{most-more, most-none}
use Rattle.tables.proofs.parts.Machines.most_states.Goals as goal

pub loop-m-init : goal.loop-m-init
loop-m-init c =
    let a = c.args in
    (omega arith, most-none a.self.now.part.bits (own_words a.self.now.bytes.now a.self.now.own) a.self.now.part.machines)

pub loop-m-preserved : goal.loop-m-preserved
loop-m-preserved c =
    let l = c.loop-m in
    let states = c.states_of in (
      omega arith,
      most-more c.args.self.now.part.bits (own_words c.args.self.now.bytes.now c.args.self.now.own) c.args.self.now.part.machines l.m l.most states.result
          c.max-most.result c.loop-m-test.true l.invariant.0 l.invariant.1 states.ensures c.max-most.ensures,
    )
