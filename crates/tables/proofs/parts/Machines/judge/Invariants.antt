-- `tables::parts::Machines::judge` meets its contract. No machine before `m` is short of slots.
use Prim.Native.Nat.{◌≤◌}
use Rattle.choosing.specs.Choosing.{own_words}
use Rattle.tables.proofs.Judging.{EnoughBefore}
use Rattle.tables.specs.Shape.{as_part}
use Rattle.tables.proofs.parts.Machines.judge.Given as goal

abbrev pub invariant-loop-m : goal.invariant-loop-m
invariant-loop-m l = (l.m ≤ l.self.part.machines) × EnoughBefore (as_part l.self.part) l.s (own_words l.self.bytes.now l.self.own) l.m
