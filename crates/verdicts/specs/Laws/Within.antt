-- Over the table as left, a piece is read whole exactly if its ticket then counts no more than 4,294,967,295 bytes, and else none of it is taken.
use Rattle.gate.specs.Given.{PieceAnswer, Piecing}
use Rattle.gate.specs.declared.Piece.TheVariants as P
use Rattle.std.specs.Prelude.{ℕ, suc, ◌+◌, ◌<◌, ◌≤◌, Bool, false, true, List, ◌≡◌, refl, eqb, length, Ok}
use Rattle.std.proofs.Common.{◌∙◌, ap, subst, sym, arith, eqb-true}
use Rattle.std.proofs.Math.Decide.{dec_le}
use Rattle.std.proofs.lemmas.Bool.{eqb-false}
use Rattle.desk.specs.Rooms.{room_of, ticket_in}
use Rattle.desk.specs.declared.Serial.{Serial}
use Rattle.gate.specs.Feeding.{fed_on}
use Rattle.gate.specs.Gate.{ended_by, ended_of, piece_of}
use Rattle.gate.specs.Laws.Calls.{piece-fed}
use Rattle.gate.specs.declared.Seen.{Seen}
use Rattle.gate.specs.declared.feeding.Fed.{Fed}
use Rattle.history.specs.History.{account_at, Proper, run, start, World}
use Rattle.history.specs.Laws.Feeding.{agrees}
use Rattle.history.specs.Laws.Invariant.{Inv, given}
use Rattle.history.specs.Laws.LedgerSteps.{sound-left}
use Rattle.history.specs.Laws.Numbers.{differ}
use Rattle.matching.specs.Words.{Below, Word}
use Rattle.verdicts.specs.GateHistory.{Approval, GateWorld}
use Rattle.verdicts.specs.Laws.Came.{Came, gate_of}
use Rattle.verdicts.specs.Laws.Onward.{Joined}
use Rattle.verdicts.specs.Laws.Taken.{cut_after}
use Rattle.verdicts.specs.Laws.Whole.{fed-all, long-none}
use Rattle.verdicts.specs.Taken.{AnswersWithin, OpenIn, taken_in}
use Rattle.desk.specs.Reached.{Call}
use Rattle.desk.specs.Layout.{Kind}
use Rattle.matching.specs.Limits.{largest}

record FedWithin (g : GateWorld) (s : Serial) (piece : Word) : Type 0 where
  pub small : taken_in g.gate s ≤ largest
  pub all : taken_in g.gate s + length piece ≤ largest → (fed_on (length piece) g.gate s g.table piece 0).taken ≡ length piece
  pub none : largest < taken_in g.gate s + length piece → (fed_on (length piece) g.gate s g.table piece 0).taken ≡ 0

within_by : (kind : Kind) (calls : List Call) → Proper (start kind) calls → (accepted : ℕ) (seen : List Seen) (approvals : List Approval)
    → Joined seen (run (start kind) calls) → (s : Serial)
    → OpenIn (gate_of (run (start kind) calls) accepted seen approvals).gate s → (piece : Word) → Below 256 piece
    → FedWithin (gate_of (run (start kind) calls) accepted seen approvals) s piece
within_by kind calls b accepted seen approvals j s o piece below = record {
  small = omega (arith, count, (v.kept k inside).small);
  all = λ h. fed-all (length piece) kind calls b seen j s w.desk w.table piece 0 refl refl below (omega arith) (omega arith)
      (record { k = k; inside = inside; serial = serial; room = o.room; current = o.current; few = omega (arith, count, h) });
  none = λ h. long-none kind calls b seen s piece k inside serial (omega (arith, count, h));
}
  where
    w : World
    w = run (start kind) calls

    v : Inv (Unit {0}) w
    v = (sound-left kind calls b.0 b.1).inv

    k : ℕ
    k = (given w v s o.room).0

    inside : k < length w.accounts
    inside = (given w v s o.room).1

    serial : s.0 ≡ suc k
    serial = (given w v s o.room).2

    count : (ticket_in w.desk.tickets (room_of w.desk.tickets s)).taken ≡ length (account_at w k).bytes
    count = (agrees w v s k inside serial o.room).taken

fed-within : (g : GateWorld) → Came g → (s : Serial) → OpenIn g.gate s → (piece : Word) → Below 256 piece → FedWithin g s piece
fed-within g c s o piece below =
    subst (λ (x : GateWorld). OpenIn x.gate s → FedWithin x s piece) c.same
    (λ q. within_by c.kind c.calls c.bytes c.accepted c.seen c.approvals c.joined s q piece below) o

pub answers_within : (g : GateWorld) → Came g → (s : Serial) → OpenIn g.gate s → (piece : Word) → Below 256 piece
    → AnswersWithin g.gate s piece (piece_of g.gate s g.table piece).answer
answers_within g c s o piece below =
    subst (λ (r : Piecing). AnswersWithin g.gate s piece r.answer)
    (piece-fed g.gate s i refl g.table piece fed (ended_of fed.gate i fed.taken (length piece)) o.room o.current refl refl)
    (go (eqb fed.taken (length piece)) refl (dec_le (taken_in g.gate s + length piece) largest))
  where
    i : ℕ
    i = room_of g.gate.desk.tickets s

    fed : Fed
    fed = fed_on (length piece) g.gate s g.table piece 0

    f : FedWithin g s piece
    f = fed-within g c s o piece below

    go : (x : Bool) → eqb fed.taken (length piece) ≡ x → Dec (taken_in g.gate s + length piece ≤ largest)
        → AnswersWithin g.gate s piece (ended_by fed.gate i fed.taken x).answer
    go true e (yes h) = record { read = (λ q. h, λ q. refl); cut = λ n. (λ q. differ cc, λ z. absurd (omega (arith, h, z.1))) }
    go true e (no h) = absurd
        (let long : largest < taken_in g.gate s + length piece = omega (arith, h) in
        omega (arith, f.none long, eqb-true fed.taken (length piece) e, long, f.small))
    go false e (yes h) = absurd (eqb-false fed.taken (length piece) e (f.all h))
    go false e (no h) =
        let long : largest < taken_in g.gate s + length piece = omega (arith, h) in
        record {
          read = (λ q. differ cc, λ q. absurd (omega (arith, h, q)));
          cut = λ n. (λ q. (sym (ap cut_after q) ∙ f.none long, long), λ z. ap {B = PieceAnswer} (λ (n : ℕ). Ok (P.Cut n)) (f.none long ∙ sym z.0));
        }
