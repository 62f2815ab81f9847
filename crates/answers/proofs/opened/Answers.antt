use Rattle.numbers.specs.Laws.{open_few}
use Rattle.answers.specs.Laws.Said.{say_given, say_refused}
use Rattle.answers.proofs.opened.Goals as goal

pub returns-then-given-gt0 : goal.returns-then-given-gt0
returns-then-given-gt0 c =
    say_refused _ _ _ (open_few c.args.answer)
    c.of_open-said.ensures c.if-given-gt0.true c.refused.ensures

pub returns : goal.returns
returns c =
    say_given _ _ _ c.of_open-said.ensures
    c.if-given-gt0.false c.word_line.ensures
