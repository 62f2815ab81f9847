-- The bytes up to i are quiet.
use mathlib.Core.List.{[]}
use native.Mathlib.Omega.{arith}
use Rattle.passing.specs.Laws.Runs.{passed_to, whole-more, whole-start}
use Rattle.passing.proofs.whole.WholeTable.pass_one.Goals as goal

pub loop-i-init : goal.loop-i-init
loop-i-init c = whole-start _ _ _ [] _ _ c.requires.0 (omega arith)

pub next-requires : goal.next-requires
next-requires c = passed_to _ _ _ _ _ _ _ c.loop-i.invariant

pub loop-i-preserved : goal.loop-i-preserved
loop-i-preserved c =
    let n = c.in-Some.ensures in
    whole-more _ _ _ _ _ _ _ c.loop-i.invariant (omega arith) _ n.0 n.1 _ c.vector.ensures c.if-vector-ne0.false
