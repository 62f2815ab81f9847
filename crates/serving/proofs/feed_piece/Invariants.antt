-- `serving::feed_piece` meets its contract.
use Rattle.desk.specs.Layout.{lent}
use Prim.Native.Nat.{◌-◌, ◌<◌}
use lib.ListN.{length}
use Rattle.serving.specs.Laws.Serving.{SoFar}
use Rattle.serving.proofs.feed_piece.Given as goal

abbrev pub invariant-loop-from : goal.invariant-loop-from
invariant-loop-from l = SoFar l.serial (lent l.first l.second) l.initial.now l.piece l.initial.out l.now l.from l.out × (length l.piece < 18446744073709551616)

abbrev pub decreases-loop-from : goal.decreases-loop-from
decreases-loop-from l = length l.piece - l.from
