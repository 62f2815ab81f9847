-- The bytes up to i are quiet.
use mathlib.Core.List.{[], ◌∷◌}
use Rattle.passing.specs.Quiet.{Passes}
use Rattle.passing.proofs.whole.WholeTable.pass_one.Given as goal

abbrev pub invariant-loop-i : goal.invariant-loop-i
invariant-loop-i l = Passes 8 l.self.states l.self.numbers.now l.piece (l.initial.q ∷ []) l.from (l.q ∷ []) l.i
