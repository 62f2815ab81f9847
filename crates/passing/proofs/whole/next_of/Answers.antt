-- The number at q * 257 + c, read off the table cut at c and at q.
use Rattle.std.proofs.Common.{◌∙◌}
use Rattle.passing.specs.Laws.Runs.{cut-number, next_one}
use Rattle.passing.proofs.whole.next_of.Goals as goal

pub returns : goal.returns
returns c =
    let a = c.args in
    let small = c.ranges.c.fits in
    λ s. next_one s a.table.now a.q a.c _ small (c.from.ensures ∙ rw c.from-x.ensures (cut-number a.table.now a.q a.c c.requires small))
