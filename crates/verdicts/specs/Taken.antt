-- The bytes that the desk's own ticket counts as taken.
use Rattle.gate.specs.Given.{PieceAnswer, Piecing}
use Rattle.gate.specs.declared.Piece.TheVariants as P
use Rattle.std.specs.Prelude.{ℕ, ◌+◌, ◌<◌, ◌≤◌, true, ◌↔◌, ◌≡◌, length, Ok}
use Rattle.desk.specs.Rooms.{room_of, ticket_in}
use Rattle.desk.specs.declared.Serial.{Serial}
use Rattle.gate.specs.declared.Gate.{Gate}
use Rattle.matching.specs.Words.{Word}
use Rattle.verdicts.specs.GateHistory.{GateWorld, approval_at}
use Rattle.desk.specs.Limits.{most_tickets}
use Rattle.matching.specs.Limits.{largest}

-- the count of the ticket in the room of a serial
abbrev pub taken_in : Gate → Serial → ℕ
taken_in g s = (ticket_in g.desk.tickets (room_of g.desk.tickets s)).taken

-- a gate of 16 rooms in which a serial has one, with a ticket of the edition in force
pub record OpenIn (g : Gate) (s : Serial) : Type 0 where
  pub wide : length g.desk.tickets ≡ most_tickets
  pub room : room_of g.desk.tickets s < most_tickets
  pub current : (ticket_in g.desk.tickets (room_of g.desk.tickets s)).edition.0 ≡ g.desk.edition.0

-- what a piece answers, by the count: Read exactly if it rose by the whole piece, and Cut exactly with the fewer bytes that it rose by
pub record AnswersTaken (g : Gate) (s : Serial) (piece : Word) (r : Piecing) : Type 0 where
  pub read : (r.answer ≡ Ok P.Read) ↔ (taken_in r.gate s ≡ taken_in g s + length piece)
  pub cut : (n : ℕ) → (r.answer ≡ Ok (P.Cut n)) ↔ ((n < length piece) × (taken_in r.gate s ≡ taken_in g s + n))

-- the count is never above the bytes handed in for an approval, and is all of them exactly if it is whole
pub record TakenOfHanded (w : GateWorld) (s : Serial) (k : ℕ) : Type 0 where
  pub most : taken_in w.gate s ≤ length (approval_at w k).handed
  pub whole : ((approval_at w k).whole ≡ true) ↔ (taken_in w.gate s ≡ length (approval_at w k).handed)

-- a piece by what the count would come to: all of it is taken if that is no more than 4,294,967,295, and else none of it
pub record AnswersWithin (g : Gate) (s : Serial) (piece : Word) (answer : PieceAnswer) : Type 0 where
  pub read : (answer ≡ Ok P.Read) ↔ (taken_in g s + length piece ≤ largest)
  pub cut : (n : ℕ) → (answer ≡ Ok (P.Cut n)) ↔ ((n ≡ 0) × (largest < taken_in g s + length piece))
