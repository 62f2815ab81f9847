-- `machines::counting::shared_front` meets its contract. The letters before `i` are shared.
use Prim.Native.Nat.{◌+◌}
use mathlib.Core.Path.{◌≡◌}
use lib.ListN.{drop}
use Rattle.machines.specs.Fronts.{shared}
use Rattle.machines.proofs.counting.shared_front.Given as goal

abbrev pub invariant-loop-i : goal.invariant-loop-i
invariant-loop-i l = shared l.v l.w ≡ l.i + shared (drop l.i l.v) (drop l.i l.w)
