-- The ones of the words so far, and then of the own word masked.
use Rattle.bitmap.specs.Laws.Loops.{Counted}
use Rattle.bitmap.proofs.slots.Slot.ones_below.Given as goal

abbrev pub invariant-loop-j : goal.invariant-loop-j
invariant-loop-j l = Counted l.self.table.now l.self.state l.whole l.sum l.j
