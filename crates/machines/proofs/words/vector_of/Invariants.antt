-- `machines::words::vector_of` meets its contract. From the last tag down: the vector of the tags from `i` on.
use mathlib.Core.Path.{◌≡◌}
use lib.ListN.{drop}
use Rattle.matching.specs.Machine.{vector}
use Rattle.tagset.specs.Cutting.{words_of}
use Rattle.machines.proofs.words.vector_of.Given as goal

abbrev pub invariant-loop-i : goal.invariant-loop-i
invariant-loop-i l = l.v ≡ vector (drop l.i (words_of l.words)) l.word
