-- The whole reading is what is done and then what is left, from the place at byte i.
use Prim.Native.Nat.{◌-◌}
use Rattle.blocks.specs.Parts.{all_starts, awake_of, runs_of, slots_of}
use Rattle.reading.specs.Walks.{Blockwise}
use lib.ListN.{length}
use Rattle.reading.proofs.split.on_blocks.Given as goal

abbrev pub invariant-loop-i : goal.invariant-loop-i
invariant-loop-i l = Blockwise (runs_of l.tables) (slots_of l.tables) (awake_of l.tables) (all_starts l.tables) l.count l.piece l.initial.list l.initial.at l.list l.hits l.at l.w l.i

abbrev pub decreases-loop-i : goal.decreases-loop-i
decreases-loop-i l = length l.piece - l.i
