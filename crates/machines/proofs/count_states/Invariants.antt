-- `machines::count_states` meets its contract. The states of the first `t` tags.
use mathlib.Core.Path.{◌≡◌}
use lib.ListN.{take}
use Rattle.matching.specs.Machine.{states}
use Rattle.tagset.specs.Cutting.{words_of}
use Rattle.machines.proofs.count_states.Given as goal

abbrev pub invariant-loop-t : goal.invariant-loop-t
invariant-loop-t l = l.count ≡ states (take l.t (words_of l.words))
