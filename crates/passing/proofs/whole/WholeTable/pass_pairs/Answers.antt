-- The bytes up to i are quiet, and two runs of h are left.
use mathlib.Core.List.{[]}
use native.Mathlib.Omega.{arith}
use Rattle.passing.specs.Laws.Passing.{passes_on}
use Rattle.passing.specs.Laws.Runs.{passed_to, whole-start}
use Rattle.passing.proofs.whole.WholeTable.pass_pairs.Goals as goal

pub loop-h-init : goal.loop-h-init
loop-h-init c = (whole-start _ _ _ [] _ _ c.requires.0 c.requires.1, omega (arith, c.run_length-h.ensures))

pub pair-p-requires : goal.pair-p-requires
pair-p-requires c = (passed_to _ _ _ _ _ _ _ c.loop-h.invariant.0, c.loop-h.invariant.1)

pub returns-then-p-i : goal.returns-then-p-i
returns-then-p-i c = passes_on _ _ _ _ _ _ _ _ _ _ c.loop-h.invariant.0 c.pair-p.ensures

pub loop-h-preserved : goal.loop-h-preserved
loop-h-preserved c =
    let p = c.pair-p.ensures in
    (passes_on _ _ _ _ _ _ _ _ _ _ c.loop-h.invariant.0 p, omega (arith, c.run_length-h-in-loop-h.ensures, p.quiet.most))
