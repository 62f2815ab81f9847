-- A number of a slot.
use borrow.Author.Rules.{rules}
use Rattle.bitmap.specs.Steps.{number_at}
use Rattle.bitmap.proofs.slots.number.Goals as goal

pub returns : goal.returns
unfolding number_at
returns c = search rules
