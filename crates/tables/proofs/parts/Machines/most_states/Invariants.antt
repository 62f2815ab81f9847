-- `tables::parts::Machines::most_states` meets its contract. From the last machine down: the most that those from `m` on need.
use Prim.Native.Nat.{◌≤◌}
use Rattle.choosing.specs.Choosing.{own_words}
use Rattle.tables.proofs.Judging.{MostFrom}
use Rattle.tables.proofs.parts.Machines.most_states.Given as goal

abbrev pub invariant-loop-m : goal.invariant-loop-m
invariant-loop-m l = (l.m ≤ l.self.part.machines) × MostFrom l.self.part.bits (own_words l.self.bytes.now l.self.own) l.self.part.machines l.m l.most
