-- `tables::parts::judge_part` meets its contract.
use Rattle.std.proofs.Common.{◌∙◌}
use Rattle.tables.proofs.OnePart.{part_judged}
use Rattle.tables.proofs.parts.judge_part.Goals as goal

pub returns : goal.returns
returns c =
    let (is, reads, chosen) = c.of.ensures in
    rw is at c.judge.ensures ∙ part_judged c.args.part c.args.good.now.held _ chosen _ reads c.args.len _ c.slots.ensures
