-- One half of the byte, then the other.
use Rattle.passing.specs.Laws.Nexts.{part_end}
use Rattle.passing.proofs.steps.Machines.next_numbers.Goals as goal

pub returns : goal.returns
returns g c = part_end _ _ _ _ _ _ c.requires.ready.long c.next_half.ensures
