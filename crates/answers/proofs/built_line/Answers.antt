use Rattle.numbers.specs.Laws.{built-few}
use Rattle.answers.specs.Laws.Said.{say_given, say_refused}
use Rattle.answers.proofs.built_line.Goals as goal

pub returns-then-given-gt0 : goal.returns-then-given-gt0
returns-then-given-gt0 c =
    say_refused _ _ _ (built-few c.args.answer)
    c.of_built-said.ensures c.if-given-gt0.true c.refused.ensures

pub returns : goal.returns
returns c =
    say_given _ _ _ c.of_built-said.ensures
    c.if-given-gt0.false c.word_line.ensures
