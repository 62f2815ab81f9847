-- `machines::make_slots` meets its contract.
use Rattle.machines.proofs.Tree.{all-zero, plant_first}
use Rattle.machines.proofs.make_slots.Goals as goal

pub plant-requires : goal.plant-requires
plant-requires c =
    plant_first c.requires.0 c.requires.1 c.fill.ensures.len (all-zero _ (c.fill.ensures.after (λ y h. h)))
