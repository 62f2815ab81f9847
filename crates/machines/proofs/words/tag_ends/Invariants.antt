-- `machines::words::tag_ends` meets its contract: from `i` on the letters are those of the tag.
use mathlib.Core.Path.{◌≡◌}
use lib.ListN.{drop}
use Rattle.machines.proofs.words.tag_ends.Given as goal

abbrev pub invariant-loop-i : goal.invariant-loop-i
invariant-loop-i l = drop l.i l.last ≡ drop l.i l.tag
