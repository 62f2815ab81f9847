-- The first j entries of the row are made, behind those before.
use Rattle.passing.specs.Laws.Starts.{listing_next}
use native.Mathlib.Omega.{arith}
use Rattle.passing.proofs.steps.Machines.put_row.Goals as goal

pub loop-j-preserved : goal.loop-j-preserved
loop-j-preserved g c =
    (omega arith, listing_next _ _ _ _ c.loop-j.j _ c.loop-j.invariant.1 c.requires.1.1.0 c.loop-j-test.true c.start_of.ensures)
