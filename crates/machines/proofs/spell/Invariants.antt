-- `machines::spell` meets its contract. What is written is what the machine sees of the bytes before `i`.
use mathlib.Core.List.{map}
use mathlib.Core.Path.{◌≡◌}
use lib.ListN.{take}
use Rattle.machines.specs.Letters.{letter_by}
use Rattle.machines.proofs.spell.Given as goal

abbrev pub invariant-loop-i : goal.invariant-loop-i
invariant-loop-i l = take l.i l.out ≡ map (letter_by l.shift l.mask) (take l.i l.set)
