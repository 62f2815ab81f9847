-- `tables::parts::part_needs` meets its contract.
use Rattle.tables.proofs.OnePart.{part-most}
use Rattle.tables.proofs.parts.part_needs.Goals as goal

pub returns : goal.returns
returns c =
    let (is, reads, chosen) = c.of.ensures in
    part-most c.args.part c.args.good.now.held _ chosen _ reads _ (rw is at c.most_states.ensures)
