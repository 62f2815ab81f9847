-- `machines::counting::known_front` meets its contract. The most that is shared with a tag before `i`, and with those from `i` on.
use Prim.Native.Nat.{max}
use mathlib.Core.List.{[]}
use mathlib.Core.Path.{◌≡◌}
use lib.ListN.{drop, get_or, take}
use Rattle.machines.specs.Fronts.{known}
use Rattle.tagset.specs.Cutting.{words_of}
use Rattle.machines.proofs.counting.known_front.Given as goal

abbrev pub invariant-loop-i : goal.invariant-loop-i
invariant-loop-i l = known (take l.t (words_of l.words)) (get_or (words_of l.words) l.t [])
    ≡ max l.most (known (drop l.i (take l.t (words_of l.words))) (get_or (words_of l.words) l.t []))
