-- The whole reading is what is done and then what is left, from the state at byte i.
use Prim.Native.Nat.{◌-◌}
use mathlib.Core.List.{[], ◌∷◌}
use lib.ListN.{length}
use Rattle.reading.specs.Walks.{Going}
use Rattle.reading.proofs.walks.on_whole.Given as goal

abbrev pub invariant-loop-i : goal.invariant-loop-i
invariant-loop-i l = Going 8 l.table.states l.table.numbers.now l.count l.piece l.initial.list (l.start ∷ []) l.list (l.q ∷ []) l.w l.i

abbrev pub decreases-loop-i : goal.decreases-loop-i
decreases-loop-i l = length l.piece - l.i
