-- `machines::planting::plant_tag` meets its contract. The first `i` letters of the tag are in the tree, and `q` is their state.
use lib.ListN.{take}
use Rattle.machines.proofs.Tree.{Path}
use Rattle.tagset.specs.Cutting.{words_of}
use Rattle.machines.proofs.planting.plant_tag.Given as goal

abbrev pub invariant-loop-i : goal.invariant-loop-i
invariant-loop-i l = Path (take l.t (words_of l.words)) l.tag l.m l.i l.k l.q l.part
