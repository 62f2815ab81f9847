-- The number of each answer in the rules' table of refusals, 0 where it is none; and its values: what is returned with a refusal, or what
-- the call gives. What a replacement and an opening answer is the desk's.
use Rattle.gate.specs.Given.{PieceAnswer, DecideAnswer}
use Rattle.std.specs.Prelude.{ℕ, List, [], ◌∷◌, Ok, Err}
use Rattle.gate.specs.declared.Piece.TheVariants as P
use Rattle.gate.specs.declared.PieceRefusal.TheVariants as N
use Rattle.gate.specs.declared.Verdict.TheVariants as Q

abbrev pub piece_number : PieceAnswer → ℕ
piece_number (Ok piece) = 0
piece_number (Err N.NoTicket) = 12
piece_number (Err (N.Stale edition)) = 13

-- 1 where the piece was read; 0 and the bytes taken where it was cut; the edition of a stale ticket
abbrev pub piece_values : PieceAnswer → List ℕ
piece_values (Ok P.Read) = 1 ∷ []
piece_values (Ok (P.Cut taken)) = 0 ∷ taken ∷ []
piece_values (Err N.NoTicket) = []
piece_values (Err (N.Stale edition)) = edition.0 ∷ []

abbrev pub verdict_number : DecideAnswer → ℕ
verdict_number (Ok verdict) = 0
verdict_number (Err why) = 12

-- 1 to pass; 2 to hold, and the tags; 3 for a stale ticket, and its edition; 4 where it was not read
abbrev pub verdict_values : DecideAnswer → List ℕ
verdict_values (Ok Q.Pass) = 1 ∷ []
verdict_values (Ok (Q.Hold mask)) = 2 ∷ mask ∷ []
verdict_values (Ok (Q.Stale edition)) = 3 ∷ edition.0 ∷ []
verdict_values (Ok Q.Unread) = 4 ∷ []
verdict_values (Err why) = []
