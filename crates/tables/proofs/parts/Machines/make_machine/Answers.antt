-- `tables::parts::Machines::make_machine` meets its contract.
use lib.ListN.{length}
use Rattle.tables.proofs.Seen.{seen_filled, seen-fit, seen-room}
use Rattle.tables.specs.Shape.{shape}
use Rattle.tables.proofs.parts.Machines.make_machine.Goals as goal

pub make_slots-requires : goal.make_slots-requires
make_slots-requires c =
    let a = c.args in
    let spell = c.spell in (
      seen-fit (shape a.self.now.part) a.m c.requires.0 a.self.now.bytes.now a.self.now.own a.self.now.tagged _ spell.ensures,
      seen-room (shape a.self.now.part) a.m c.requires.0 a.self.now.bytes.now a.self.now.own a.self.now.tagged _ spell.ensures (length a.run.now) c.requires.1,
    )

pub returns : goal.returns
returns c =
    let a = c.args in
    seen_filled (shape a.self.now.part) a.m c.requires.0 a.self.now.bytes.now a.self.now.own a.self.now.tagged _ c.spell.ensures _ c.make_slots.ensures
