-- What is kept is within the line.
use Rattle.std.proofs.Common.{◌≤◌, IfSome}
use Rattle.replay.proofs.lines.Lines.next_line.Given as goal

abbrev pub invariant-loop : goal.invariant-loop
invariant-loop g l = IfSome l.kept (λ k. k ≤ 20001)
