-- `machines::filling::start` meets its contract. Each tag before `t` has its front.
use Prim.Native.Nat.{◌<◌, ℕ}
use mathlib.Core.Path.{◌≡◌}
use lib.ListN.{get_or, length}
use Rattle.machines.specs.Rows.{front_of, no_walk}
use Rattle.tagset.specs.Cutting.{words_of}
use Rattle.machines.proofs.filling.start.Given as goal

abbrev pub invariant-loop-t : goal.invariant-loop-t
invariant-loop-t l = record {
  room : length l.walks ≡ 16;
  each : (u : ℕ) → u < l.t → get_or l.walks u no_walk ≡ record { front = front_of (words_of l.words) u; at = 0; fail = 0 };
}
