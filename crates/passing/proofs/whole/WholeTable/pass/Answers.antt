-- One way over quiet bytes after another.
use native.Mathlib.Nat.{le_refl}
use Rattle.passing.specs.Laws.Passing.{passes_on}
use Rattle.passing.specs.Laws.Runs.{passed_to}
use Rattle.passing.proofs.whole.WholeTable.pass.Goals as goal

pub pass_pairs-far-requires : goal.pass_pairs-far-requires
pass_pairs-far-requires c =
    let near = c.pass_one-near.ensures in
    (passed_to _ _ _ _ _ _ _ near, near.quiet.most)

pub pass_one-requires : goal.pass_one-requires
pass_one-requires c =
    let far = c.pass_pairs-far.ensures in
    (passed_to _ _ _ _ _ _ _ far, (far.quiet.most, le_refl _))

pub returns : goal.returns
returns c = passes_on _ _ _ _ _ _ _ _ _ _ c.pass_one-near.ensures (passes_on _ _ _ _ _ _ _ _ _ _ c.pass_pairs-far.ensures c.pass_one.ensures)
