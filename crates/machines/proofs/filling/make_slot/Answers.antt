-- `machines::filling::make_slot` meets its contract. The nexts before `c` are made.
use native.Mathlib.Omega.{arith}
use Rattle.machines.proofs.Making.{row_more}
use Rattle.machines.proofs.filling.make_slot.Goals as goal

pub loop-c-preserved : goal.loop-c-preserved
loop-c-preserved c = row_more c.loop-c.invariant _ c.loop-c-test.true (omega arith) c.pick.ensures
