-- `tables::parts::Machines::of` meets its contract: the words are the tags' of one kind.
use Rattle.tables.proofs.OnePart.{own_tagged}
use Rattle.tables.proofs.parts.Machines.of.Goals as goal

pub invariant_of-result : goal.invariant_of-result
invariant_of-result c =
    record { tagged = own_tagged c.args.good.now.held c.args.part.kind _ c.choose.ensures _ c.read_as.ensures }
