use mathlib.Core.List.{[], ◌∷◌}
use Rattle.numbers.specs.Laws.{ending-few}
use Rattle.answers.specs.Laws.Said.{say_given, say_refused}
use Rattle.answers.proofs.map_lines.Goals as goal

pub returns-then-given-gt0 : goal.returns-then-given-gt0
returns-then-given-gt0 c =
    let a = c.args in
    say_refused _ _ _ (ending-few (a.moves ∷ []) a.taken a.records a.ending)
    c.of_map_read-said.ensures c.if-given-gt0.true c.refused.ensures

pub returns : goal.returns
returns c = say_given _ _ _ c.of_map_read-said.ensures c.if-given-gt0.false c.moved.ensures
