-- `machines::filling::make_slot` meets its contract. The nexts before `c` are made.
use Rattle.machines.proofs.Making.{Row}
use Rattle.machines.proofs.filling.make_slot.Given as goal

abbrev pub invariant-loop-c : goal.invariant-loop-c
invariant-loop-c l = Row l.m l.q l.x l.c l.initial.part l.part
