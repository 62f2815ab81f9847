-- `tables::parts::Machines::states_of` meets its contract.
use mathlib.Core.Path.{◌∙◌, ap}
use Rattle.matching.specs.Machine.{states}
use Rattle.tables.proofs.Seen.{seen, seen-fit}
use Rattle.tables.specs.Shape.{shape}
use Rattle.tables.proofs.parts.Machines.states_of.Goals as goal

pub count_states-requires : goal.count_states-requires
count_states-requires c =
    let a = c.args in
    seen-fit (shape a.self.now.part) a.m c.requires a.self.now.bytes.now a.self.now.own a.self.now.tagged _ c.spell.ensures

pub returns : goal.returns
returns c =
    let a = c.args in
    c.count_states.ensures ∙ ap states (seen (shape a.self.now.part) a.m c.requires a.self.now.bytes.now a.self.now.own a.self.now.tagged _ c.spell.ensures)
