use Rattle.std.proofs.Common.{sym}
use Rattle.answers.specs.Laws.Listed.{listed_next}
use Rattle.answers.proofs.texts.put_numbers.Goals as goal

pub loop-number-preserved : goal.loop-number-preserved
loop-number-preserved c =
    listed_next c.args.numbers.now c.loop-number.number-index c.loop-number-test.true c.loop-number.invariant
    (rw (sym c.from.ensures) c.put_blank_number.ensures)
