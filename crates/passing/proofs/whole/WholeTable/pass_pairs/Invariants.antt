-- The bytes up to i are quiet, and two runs of h are left.
use Prim.Native.Nat.{◌+◌, ◌-◌, ◌≤◌}
use mathlib.Core.List.{[], ◌∷◌}
use lib.ListN.{length}
use Rattle.passing.specs.Quiet.{Passes}
use Rattle.passing.proofs.whole.WholeTable.pass_pairs.Given as goal

abbrev pub invariant-loop-h : goal.invariant-loop-h
invariant-loop-h l =
    (Passes 8 l.self.states l.self.numbers.now l.piece (l.initial.q ∷ []) l.from (l.q ∷ []) l.i) × (l.i + l.h + l.h ≤ length l.piece)

abbrev pub decreases-loop-h : goal.decreases-loop-h
decreases-loop-h l = length l.piece - l.i
