-- `script::words::skipped` meets its contract. The invariant: what is left to skip.
use Prim.Native.Nat.{◌-◌}
use mathlib.Core.Path.{◌≡◌}
use Rattle.script.specs.Words.{skipped}
use Rattle.script.proofs.words.skipped.Given as goal

abbrev pub invariant-loop-i : goal.invariant-loop-i
invariant-loop-i l = skipped l.k l.bytes ≡ skipped (l.k - l._i) l.rest
