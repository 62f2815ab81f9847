-- `machines::planting::plant` meets its contract. The first `t` tags are planted.
use lib.ListN.{take}
use Rattle.machines.specs.Rows.{Planted}
use Rattle.tagset.specs.Cutting.{words_of}
use Rattle.machines.proofs.planting.plant.Given as goal

abbrev pub invariant-loop-t : goal.invariant-loop-t
invariant-loop-t l = Planted (take l.t (words_of l.words)) l.m l.count l.part
