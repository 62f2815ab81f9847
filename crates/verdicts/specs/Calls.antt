-- What each call but `decide` answers, over every history of the gate's calls and whatever tables the pieces were lent: each answer is given
-- exactly if its case holds.
use Rattle.gate.specs.declared.Piece.TheVariants as P
use Rattle.gate.specs.declared.Verdict.TheVariants as Q
use Rattle.std.specs.Prelude.{ℕ, ◌+◌, ◌<◌, ◌≤◌, List, ◌↔◌, ◌≡◌, length, Ok}
use Rattle.std.proofs.Common.{inr}
use Rattle.desk.specs.declared.Serial.{Serial}
use Rattle.gate.specs.Gate.{begin_of, change_of, decide_of, piece_of}
use Rattle.gate.specs.declared.Gate.{Gate}
use Rattle.matching.specs.Words.{Below, Word}
use Rattle.verdicts.specs.Cases.{BeginExactly, PieceExactly, ReplaceExactly}
use Rattle.verdicts.specs.Exactly.{over_any_tables}
use Rattle.verdicts.specs.GateHistory.{GateProper, GateAct, NotReplaced, Undecided, approval_at, gate_run, gate_start}
use Rattle.verdicts.specs.Laws.Beginning.{begins-exactly, replaces_exactly}
use Rattle.verdicts.specs.Laws.Came.{came-start}
use Rattle.verdicts.specs.Laws.CamePiece.{came}
use Rattle.verdicts.specs.Laws.Held.{held_all}
use Rattle.verdicts.specs.Laws.Piecing.{pieces, pieces_exactly}
use Rattle.verdicts.specs.Laws.Standing.{standing, standing_start}
use Rattle.verdicts.specs.Laws.Taken.{answers_taken, open_in, part-short, short-part, taken-of-handed}
use Rattle.verdicts.specs.Laws.Within.{answers_within}
use Rattle.verdicts.specs.Taken.{AnswersTaken, AnswersWithin, OpenIn, TakenOfHanded, taken_in}
use Rattle.desk.specs.Layout.{Kind, Lent, Order, Sizes}
use Rattle.matching.specs.Limits.{most_tags}
use Rattle.matching.specs.Tags.{tag_count}

-- A PIECE: NO TICKET exactly if no undecided approval has the serial, and STALE, with its edition, exactly if a replacement was accepted since it
-- began, as when it is decided; else it is read, or cut
pub piece-exactly : (kind : Kind) (calls : List GateAct) (s : Serial) (table : Lent) (piece : Word)
    → PieceExactly (gate_run (gate_start kind) calls) s (piece_of (gate_run (gate_start kind) calls).gate s table piece).answer
piece-exactly kind calls s table piece =
    let w = gate_run (gate_start kind) calls in
    let v = standing calls (gate_start kind) (standing_start kind) in
    pieces_exactly w s v.numbered (piece_of w.gate s table piece).answer (pieces w v s table piece)

-- over any gate and any table, of a serial with a ticket of the edition in force: answered Read exactly if the ticket counts the whole piece
-- more, and Cut exactly with the fewer bytes that it counts more
pub piece-counts : (g : Gate) (s : Serial) → OpenIn g s → (table : Lent) (piece : Word) → AnswersTaken g s piece (piece_of g s table piece)
piece-counts = answers_taken

-- so it is after any history, of an approval since whose beginning no replacement was accepted
pub piece-counts-after : (kind : Kind) (calls : List GateAct) (s : Serial) (k : ℕ) → let w = gate_run (gate_start kind) calls in Undecided w s k
    → NotReplaced w k → (table : Lent) (piece : Word) → AnswersTaken w.gate s piece (piece_of w.gate s table piece)
piece-counts-after kind calls s k u n =
    let w = gate_run (gate_start kind) calls in
    answers_taken w.gate s (open_in w (standing calls (gate_start kind) (standing_start kind)) s k u n)

-- THE NUMBER OF A CUT, after any history: fewer than the piece has, and as many as the ticket counts more
pub cut-number : (kind : Kind) (calls : List GateAct) (s : Serial) (table : Lent) (piece : Word) (n : ℕ) → let g = (gate_run (gate_start kind) calls).gate in
    (piece_of g s table piece).answer ≡ Ok (P.Cut n) → (n < length piece) × (taken_in (piece_of g s table piece).gate s ≡ taken_in g s + n)
cut-number kind calls s table piece n q =
    let w = gate_run (gate_start kind) calls in
    let z = (piece-exactly kind calls s table piece).fed.1 (inr (n, q)) in
    ((answers_taken w.gate s (open_in w (standing calls (gate_start kind) (standing_start kind)) s z.0 z.1 z.2) table piece).cut n).0 q

-- TAKEN IS HANDED: after any history the ticket of an undecided approval counts no more bytes than were handed in, and all of them exactly if
-- each piece was answered Read
pub taken-is-handed : (kind : Kind) (calls : List GateAct) (s : Serial) (k : ℕ) → Undecided (gate_run (gate_start kind) calls) s k
    → TakenOfHanded (gate_run (gate_start kind) calls) s k
taken-is-handed kind calls s k u = taken-of-handed (gate_run (gate_start kind) calls) (standing calls (gate_start kind) (standing_start kind)) s k u

-- so Unread is answered exactly if the ticket counts fewer bytes than were handed in, and Pass or Hold only if it counts every one
pub unread-is-short : (kind : Kind) (calls : List GateAct) (s : Serial) → let w = gate_run (gate_start kind) calls in
    ((decide_of w.gate s).answer ≡ Ok Q.Unread) ↔ ((k : ℕ) × Undecided w s k × NotReplaced w k × (taken_in w.gate s < length (approval_at w k).handed))
unread-is-short kind calls s =
    let w = gate_run (gate_start kind) calls in
    let v = standing calls (gate_start kind) (standing_start kind) in
    let u = (over_any_tables kind calls s).unread in (
      λ q. (let z = u.0 q in (z.0, z.1, z.2, part-short w v s z.0 z.1 z.3)),
      λ z. u.1 (z.0, z.1, z.2, short-part w v s z.0 z.1 z.3),
    )

pub pass-is-taken : (kind : Kind) (calls : List GateAct) (s : Serial) → let w = gate_run (gate_start kind) calls in
    (decide_of w.gate s).answer ≡ Ok Q.Pass → (k : ℕ) × Undecided w s k × (taken_in w.gate s ≡ length (approval_at w k).handed)
pass-is-taken kind calls s q =
    let z = (over_any_tables kind calls s).pass q in
    (z.0, z.1.waits, (taken-is-handed kind calls s z.0 z.1.waits).whole.0 z.1.whole)

pub hold-is-taken : (kind : Kind) (calls : List GateAct) (s : Serial) (mask : ℕ) → let w = gate_run (gate_start kind) calls in
    (decide_of w.gate s).answer ≡ Ok (Q.Hold mask) → (k : ℕ) × Undecided w s k × (taken_in w.gate s ≡ length (approval_at w k).handed)
hold-is-taken kind calls s mask q =
    let z = (over_any_tables kind calls s).hold mask q in
    (z.0, z.1.waits, (taken-is-handed kind calls s z.0 z.1.waits).whole.0 z.1.whole)

-- over tables as left, a piece for a current approval is read whole exactly if its ticket then counts no more than 4,294,967,295 bytes, and is
-- else cut before its first byte
pub piece_as_left : (kind : Kind) (calls : List GateAct) → GateProper (gate_start kind) calls → (s : Serial) (k : ℕ) → let w = gate_run (gate_start kind) calls in
    Undecided w s k → NotReplaced w k → (piece : Word) → Below 256 piece → AnswersWithin w.gate s piece (piece_of w.gate s w.table piece).answer
piece_as_left kind calls l s k u n =
    let w = gate_run (gate_start kind) calls in
    answers_within w (came calls (gate_start kind) l (came-start kind)) s (open_in w (standing calls (gate_start kind) (standing_start kind)) s k u n)

-- A BEGINNING: NO SET exactly if no replacement was accepted; then SERIAL exactly if 4,294,967,295 approvals were begun; then NO ROOM exactly if
-- 16 of them are undecided; else the serial one above the number begun
pub begin_exactly : (kind : Kind) (calls : List GateAct) → BeginExactly (gate_run (gate_start kind) calls)
    (begin_of (gate_run (gate_start kind) calls).gate).answer
begin_exactly kind calls = begins-exactly (gate_run (gate_start kind) calls) (standing calls (gate_start kind) (standing_start kind)) (held_all kind calls)

-- A REPLACEMENT: a set fault or TABLE exactly if building answers it; then EDITION exactly if 4,294,967,295 were accepted; else the edition one
-- above the number accepted, and the number of tags
pub replace_exactly : (kind : Kind) (calls : List GateAct) (order : Order) (len : Sizes)
    → ReplaceExactly (gate_run (gate_start kind) calls) order len (change_of (gate_run (gate_start kind) calls).gate order len).answer
replace_exactly kind calls = replaces_exactly (gate_run (gate_start kind) calls) (standing calls (gate_start kind) (standing_start kind)) (held_all kind calls)

-- at most 16 tags are in force, so each has its bit in a mask
pub few-tags : (kind : Kind) (calls : List GateAct) → tag_count (gate_run (gate_start kind) calls).tags ≤ most_tags
few-tags kind calls = (held_all kind calls).few-tags
