-- Of every word whose depth and mask are lent, v has the tags from u on that are the word.
use Prim.Native.Nat.{◌-◌, ◌<◌, ◌^◌}
use mathlib.Core.Path.{◌≡◌}
use lib.ListN.{drop, length}
use Rattle.matching.specs.Words.{Word}
use Rattle.tagset.specs.Cutting.{words_of}
use Rattle.bitmap_maps.specs.Through.{Waits, own_tags}
use Rattle.bitmap_maps.proofs.own.own_tags.Given as goal

abbrev pub invariant-loop-u : goal.invariant-loop-u
invariant-loop-u l = record {
  few : l.v < 2 ^ (length (words_of l.words) - l.u);
  own : (p : Word) → Waits (words_of l.words) p l.d l.mask → l.v ≡ own_tags (drop l.u (words_of l.words)) p;
}
