-- `script::sets::entries` meets its contract. The invariant: the entries put so far, and the words that are left.
use Rattle.std.proofs.Common.{◌≡◌, ◌-◌, length}
use Rattle.script.specs.Laws.Sets.{Entered}
use Rattle.script.proofs.sets.entries.Given as goal

abbrev pub invariant-loop-done : goal.invariant-loop-done
invariant-loop-done l = (length l.buffer ≡ length l.initial.buffer) × Entered l.words l.buffer l.rest (length l.words - l._done) l.n
