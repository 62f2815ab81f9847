-- The gate's answers as numbers, each by the gate's own numbers and values.
use Rattle.gate.specs.Given.{PieceAnswer, DecideAnswer}
use Rattle.gate.specs.Numbers.{piece_number, piece_values, verdict_number, verdict_values}
use Rattle.numbers.specs.Answers.{answer_of}
use Rattle.numbers.specs.declared.Answer.{Answer}

abbrev pub piece_answer : PieceAnswer → Answer
piece_answer r = answer_of (piece_number r) (piece_values r)

abbrev pub verdict_answer : DecideAnswer → Answer
verdict_answer r = answer_of (verdict_number r) (verdict_values r)
