-- `machines::filling::level` meets its contract. The tags before `t` have gone on.
use Rattle.machines.specs.Rows.{Level}
use Rattle.tagset.specs.Cutting.{words_of}
use Rattle.machines.proofs.filling.level.Given as goal

abbrev pub invariant-loop-t : goal.invariant-loop-t
invariant-loop-t l = Level (words_of l.words) l.m l.d l.t l.walks l.part
