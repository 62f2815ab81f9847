-- The tags before u are sown.
use Rattle.tagset.specs.Cutting.{words_of}
use Rattle.bitmap_growing.specs.Growing.{Sowing}
use Rattle.bitmap_growing.proofs.sowing.sow.Given as goal

abbrev pub invariant-loop-u : goal.invariant-loop-u
invariant-loop-u l = Sowing (words_of l.words) l.s l.table l.turn.state l.turn.placed l.u
