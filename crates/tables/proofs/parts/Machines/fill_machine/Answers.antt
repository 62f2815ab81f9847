-- `tables::parts::Machines::fill_machine` meets its contract.
use Rattle.choosing.specs.Choosing.{own_words}
use Rattle.tables.proofs.Machines.{filled_marked}
use Rattle.tables.proofs.Seen.{letters-few}
use Rattle.tables.specs.Shape.{shape}
use Rattle.tables.proofs.parts.Machines.fill_machine.Goals as goal

pub deal_out-requires : goal.deal_out-requires
deal_out-requires c = (c.requires.1, letters-few (shape c.args.self.now.part))

pub returns : goal.returns
returns c =
    let a = c.args in
    filled_marked a.self.now.part.kind a.kinds.now a.self.now.part.bits (own_words a.self.now.bytes.now a.self.now.own) a.m a.self.now.part.letters _ _
    c.make_machine.ensures c.deal_out.ensures
