-- `tables::parts::Machines::fill` meets its contract. The first `m` machines are laid, and what stands behind them is as it was.
use Prim.Native.Nat.{◌≤◌}
use Rattle.choosing.specs.Choosing.{own_words}
use Rattle.tables.proofs.Machines.{Laid}
use Rattle.tables.specs.Shape.{mark_by}
use Rattle.tables.proofs.parts.Machines.fill.Given as goal

abbrev pub invariant-loop-m : goal.invariant-loop-m
invariant-loop-m l = (l.m ≤ l.self.part.machines)
    × Laid l.self.part.bits l.s (own_words l.self.bytes.now l.self.own)
    (mark_by l.self.part.kind l.kinds l.self.part.bits (own_words l.self.bytes.now l.self.own)) l.m l.at l.initial.table l.table
