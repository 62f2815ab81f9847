-- `machines::filling::fill` meets its contract. The slots of the words of at most `d` letters are made.
use Rattle.machines.specs.Rows.{Level}
use Rattle.tagset.specs.Cutting.{words_of}
use Rattle.machines.proofs.filling.fill.Given as goal

abbrev pub invariant-loop-d : goal.invariant-loop-d
invariant-loop-d l = Level (words_of l.words) l.m l.d 0 l.walks l.part
