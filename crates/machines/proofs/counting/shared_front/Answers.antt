-- `machines::counting::shared_front` meets its contract. The letters before `i` are shared.
use mathlib.Core.Path.{◌∙◌}
use native.Mathlib.Omega.{arith}
use Rattle.machines.proofs.Sharing.{shared-end, shared-more, shared-stop}
use Rattle.machines.proofs.counting.shared_front.Goals as goal

pub loop-i-preserved : goal.loop-i-preserved
loop-i-preserved c = c.loop-i.invariant ∙ shared-more c.args.v.now c.args.w.now c.loop-i.i (omega arith) (omega arith) c.if-v-i.false

pub returns-then-v-i : goal.returns-then-v-i
returns-then-v-i c = omega (arith, c.loop-i.invariant, shared-stop c.args.v.now c.args.w.now c.loop-i.i (omega arith) (omega arith) c.if-v-i.true)

pub returns : goal.returns
returns c = omega (arith, c.loop-i.invariant, shared-end c.args.v.now c.args.w.now c.loop-i.i (omega arith))
