-- A vector is below 65,536, so the AND with 65,535 is itself.
use Rattle.std.proofs.Common.{rules}
use Rattle.passing.specs.Laws.Runs.{vector-one}
use Rattle.passing.proofs.whole.vector_of.Goals as goal

pub returns : goal.returns
returns c =
    let a = c.args in
    λ s. vector-one s a.table.now a.q (search rules)
