-- `bench::read_full` meets its contract. The invariant: so many bytes were read that they fit.
use Rattle.std.proofs.Common.{◌≤◌, ◌-◌, length}
use Rattle.bench.proofs.read_full.Given as goal

abbrev pub invariant-loop-n : goal.invariant-loop-n
invariant-loop-n l = l.n ≤ length l.bytes

abbrev pub decreases-loop-n : goal.decreases-loop-n
decreases-loop-n l = length l.bytes - l.n
