use mathlib.Core.Path.{refl}
use Rattle.desk.specs.Layout.{start_place}
use Rattle.matching.specs.Parts.{width}
use Rattle.desk.proofs.rooms.new_ticket.Goals as goal

pub returns : goal.returns
unfolding start_place width
returns c = refl
