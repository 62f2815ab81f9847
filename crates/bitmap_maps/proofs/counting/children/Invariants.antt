-- The ones of the words before j are in the sum.
use Rattle.bitmap_maps.specs.Laws.Counting.{Summed}
use Rattle.bitmap_maps.proofs.counting.children.Given as goal

abbrev pub invariant-loop-j : goal.invariant-loop-j
invariant-loop-j l = Summed l.slot.table.now l.slot.state l.sum l.j
