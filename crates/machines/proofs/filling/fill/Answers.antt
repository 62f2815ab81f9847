-- `machines::filling::fill` meets its contract. The slots of the words of at most `d` letters are made.
use mathlib.Core.Path.{refl}
use Rattle.machines.proofs.Deepening.{fill_end, fill_start, root_room}
use Rattle.machines.proofs.filling.fill.Goals as goal

pub bounds-part-m : goal.bounds-part-m
bounds-part-m c = root_room c.requires.0 c.requires.1

pub loop-d-init : goal.loop-d-init
loop-d-init c = fill_start c.requires.0 c.requires.1 c.start-walks.ensures c.requires.2 refl c.vector_of.result c.vector_of.ensures

pub returns : goal.returns
returns c = fill_end c.requires.0 c.requires.1 c.loop-d-test.false c.loop-d.invariant
