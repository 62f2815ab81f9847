-- The AND of all is the AND so far with those that are left.
use mathlib.Core.Path.{◌∙◌}
use Rattle.passing.specs.Laws.Rows.{ready-vector}
use Rattle.passing.specs.Laws.Vectors.{anding_done, anding_more}
use Rattle.passing.proofs.steps.Machines.vectors.Goals as goal

pub vector_at-r-requires : goal.vector_at-r-requires
vector_at-r-requires g c =
    rw c.letters-size.ensures (ready-vector _ c.args.to _ _ _ c.requires.1.1 c.loop-m.m c.loop-m-test.true)

pub loop-m-preserved : goal.loop-m-preserved
loop-m-preserved g c =
    anding_more _ _ _ _ _ _ _ _ _ c.loop-m.invariant c.loop-m-test.true _ (c.vector_at-r.ensures ∙ rw c.letters-size.ensures)

pub returns : goal.returns
returns g c = anding_done _ _ _ _ _ _ _ _ _ c.loop-m.invariant c.loop-m-test.false
