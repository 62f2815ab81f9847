-- `machines::count_states` meets its contract. The states of the first `t` tags.
use native.Mathlib.Omega.{arith}
use Rattle.machines.proofs.Growing.{states-one}
use Rattle.machines.proofs.Sharing.{count-more, count_small, count_sub}
use Rattle.machines.proofs.count_states.Goals as goal

pub loop-t-init : goal.loop-t-init
loop-t-init c = states-one

pub overflow_sub-count : goal.overflow_sub-count
overflow_sub-count c = count_sub c.requires c.loop-t.t (omega arith) c.tag.result.now c.tag.ensures c.known_front.result c.known_front.ensures

pub overflow_add-count : goal.overflow_add-count
overflow_add-count c =
    omega (
      arith,
      count_small c.requires c.loop-t.t (omega arith) c.tag.result.now c.tag.ensures c.known_front.result c.known_front.ensures
          c.loop-t.count c.loop-t.invariant,
    )

pub loop-t-preserved : goal.loop-t-preserved
loop-t-preserved c =
    count-more c.requires c.loop-t.t (omega arith) c.tag.result.now c.tag.ensures c.known_front.result c.known_front.ensures c.loop-t.count
    c.loop-t.invariant
