-- Each by itself.
use Rattle.std.proofs.Common.{refl, arith, rules, length-take, length-drop}
use Rattle.blocks.specs.Laws.Starting.{known_split, known-long, split-ready, stands_few}
use Rattle.blocks.proofs.start.tables_at.Goals as goal

pub starts_of-requires : goal.starts_of-requires
starts_of-requires c = (rw c.part_of.ensures (split-ready _ _ _ c.requires 0 (omega arith)), (stands_few _ _ _ _ c.requires 0, search (rules, length-take)))

pub starts_of-requires-2 : goal.starts_of-requires-2
starts_of-requires-2 c = (rw c.part_of-2.ensures (split-ready _ _ _ c.requires 1 (omega arith)), (stands_few _ _ _ _ c.requires 1, search (rules, length-drop)))

pub invariant_of-result : goal.invariant_of-result
invariant_of-result c = record { long = known-long _ _ _ _ c.starts_of.ensures }

pub invariant_of-result-2 : goal.invariant_of-result-2
invariant_of-result-2 c = record { long = known-long _ _ _ _ c.starts_of-2.ensures }

pub returns : goal.returns
returns c =
    (known_split _ _ _ _ _ _ c.requires (rw c.part_of.ensures at c.starts_of.ensures) (rw c.part_of-2.ensures at c.starts_of-2.ensures), refl)
