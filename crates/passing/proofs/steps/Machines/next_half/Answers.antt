-- The next numbers of the machines before are there, and those of the others are still to come.
use Rattle.passing.specs.Laws.Nexts.{halving_more, part-inside}
use mathlib.Core.Path.{◌∙◌}
use Rattle.passing.proofs.steps.Machines.next_half.Goals as goal

pub next_at-requires : goal.next_at-requires
next_at-requires g c =
    rw (c.entry_of-first.ensures, c.letters-row.ensures)
    (part-inside _ _ _ _ _ c.requires.0 c.args.c c.args.h c.loop-j.j c.requires.1.0 c.loop-j-test.true)

pub loop-j-preserved : goal.loop-j-preserved
loop-j-preserved g c =
    halving_more _ _ _ _ _ c.args.c c.args.h c.loop-j.at c.loop-j.j c.requires.0 c.requires.1.0 c.loop-j-test.true c.loop-j.invariant _
    (c.next_at.ensures ∙ rw (c.entry_of-first.ensures, c.letters-row.ensures))
