-- `kinds::folding::fold_all`: the bytes before `i` are folded, and what stood behind them still does.
use Prim.Native.Nat.{◌≤◌}
use lib.ListN.{length}
use Rattle.matching.specs.Kinds.{lower}
use Rattle.kinds.specs.Laws.Folding.{Folding}
use Rattle.kinds.proofs.folding.fold_all.Given as goal

abbrev pub invariant-loop-i : goal.invariant-loop-i
invariant-loop-i l = (length l.bytes ≤ length l.initial.out) × Folding lower l.bytes l.initial.out l.out l.i
