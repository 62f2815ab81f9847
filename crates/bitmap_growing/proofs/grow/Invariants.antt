-- The states below q are settled, and their children placed.
use Rattle.tagset.specs.Cutting.{words_of}
use Rattle.bitmap_growing.specs.Growing.{Growing}
use Rattle.bitmap_growing.proofs.grow.Given as goal

abbrev pub invariant-loop-q : goal.invariant-loop-q
invariant-loop-q l = Growing (words_of l.words) l.s l.table l.q l.k
