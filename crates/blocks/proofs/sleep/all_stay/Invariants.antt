-- The machines before m stay.
use Rattle.blocks.specs.Laws.Sleep.{Staying}
use lib.ListN.{length}
use mathlib.Core.Path.{◌≡◌}
use Rattle.blocks.proofs.sleep.all_stay.Given as goal

abbrev pub invariant-loop-m : goal.invariant-loop-m
invariant-loop-m l = (length l.place ≡ 8) × Staying l.machines.slots l.machines.numbers.now l.place l.m
