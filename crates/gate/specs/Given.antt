-- What each call of the gate gives: the gate after it, and its answer, which is what was asked for, or else why it is refused.
use Rattle.std.specs.Prelude.{Result}
use Rattle.desk.specs.Given.{OpenAnswer, ReplaceAnswer}
use Rattle.desk.specs.declared.NoTicket.{NoTicket}
use Rattle.gate.specs.declared.After.{After}
use Rattle.gate.specs.declared.Piece.{Piece}
use Rattle.gate.specs.declared.PieceRefusal.{PieceRefusal}
use Rattle.gate.specs.declared.Verdict.{Verdict}

-- a replacement, whose answer is the desk's
abbrev pub Changing : Type 0
Changing = After ReplaceAnswer

-- an opening, whose answer is the desk's
abbrev pub Beginning : Type 0
Beginning = After OpenAnswer

-- a piece: whether it was read whole
abbrev pub PieceAnswer : Type 0
PieceAnswer = Result Piece PieceRefusal

abbrev pub Piecing : Type 0
Piecing = After PieceAnswer

-- a decision: the verdict
abbrev pub DecideAnswer : Type 0
DecideAnswer = Result Verdict NoTicket

abbrev pub Deciding : Type 0
Deciding = After DecideAnswer
