-- Of every word whose depth and mask are lent, the map of the tags before u is laid.
use lib.ListN.{take}
use Rattle.matching.specs.Words.{Word}
use Rattle.tagset.specs.Cutting.{words_of}
use Rattle.bitmap_maps.specs.Laid.{MapLaid}
use Rattle.bitmap_maps.specs.Through.{Waits}
use Rattle.bitmap_maps.proofs.laying.lay_map.Given as goal

abbrev pub invariant-loop-u : goal.invariant-loop-u
invariant-loop-u l = (p : Word) → Waits (words_of l.words) p l.d l.mask → MapLaid (take l.u (words_of l.words)) p l.q l.initial.table l.table
