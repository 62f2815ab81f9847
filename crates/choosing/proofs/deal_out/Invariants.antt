-- `choosing::deal_out` meets its contract: the slots before the place are dealt, which is that of the next slot's vector.
use Rattle.std.proofs.Common.{◌≡◌, ◌+◌, ◌*◌}
use Rattle.matching.specs.Laws.Dealt.{dealt}
use Rattle.choosing.specs.Dealing.{DealingOut, is_of}
use Rattle.choosing.proofs.deal_out.Given as goal

abbrev pub invariant-loop : goal.invariant-loop
invariant-loop l =
    DealingOut (dealt (is_of l.kind) l.kinds) l.letters l.initial.slots l.slots l.at × (l.at ≡ l.counter * (l.letters + 1) + l.letters)
