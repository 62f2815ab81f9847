use Rattle.numbers.specs.Laws.{feed_few}
use Rattle.output.specs.Laws.Waiting.{put_then}
use Rattle.answers.specs.Laws.Said.{say_given, say_refused}
use Rattle.answers.proofs.fed.Goals as goal

pub returns-then-given-gt0 : goal.returns-then-given-gt0
returns-then-given-gt0 c =
    say_refused _ _ _ (feed_few c.args.answer)
    c.of_feed-said.ensures c.if-given-gt0.true c.refused.ensures

pub returns : goal.returns
returns c =
    say_given _ _ _ c.of_feed-said.ensures
    c.if-given-gt0.false (put_then c.put_fed.ensures c.put_line_end.ensures)
