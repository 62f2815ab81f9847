-- The whole reading is what is done and then what is left, from the state at byte i.
use Prim.Native.Nat.{◌-◌}
use lib.ListN.{length}
use Rattle.bitmap_reading.specs.Walks.{GoingMap}
use Rattle.bitmap_reading.proofs.walks.walk.Given as goal

abbrev pub invariant-loop-i : goal.invariant-loop-i
invariant-loop-i l = GoingMap l.table.states l.table.numbers.now l.count l.piece l.initial.list l.start l.list l.q l.w l.i l.moves

abbrev pub decreases-loop-i : goal.decreases-loop-i
decreases-loop-i l = length l.piece - l.i
