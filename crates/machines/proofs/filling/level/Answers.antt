-- `machines::filling::level` meets its contract. The tags before `t` have gone on.
use native.Mathlib.Omega.{arith}
use Rattle.machines.proofs.Levels.{level-next}
use Rattle.tagset.specs.Cutting.{words_of}
use Rattle.machines.proofs.filling.level.Goals as goal

pub returns : goal.returns
returns c =
    level-next (words_of c.args.words.now) c.args.m c.args.d c.loop-t.t c.loop-t.walks c.loop-t.part c.loop-t.invariant (omega arith)
