use Rattle.numbers.specs.Laws.{close_few}
use Rattle.answers.specs.Laws.Said.{say_given, say_refused}
use Rattle.answers.proofs.closed.Goals as goal

pub returns-then-said-gt0 : goal.returns-then-said-gt0
returns-then-said-gt0 c =
    say_refused _ _ _ (close_few c.args.answer)
    c.of_close-said.ensures c.if-said-gt0.true c.refused.ensures

pub returns : goal.returns
returns c = say_given _ _ _ c.of_close-said.ensures c.if-said-gt0.false c.word_line.ensures
