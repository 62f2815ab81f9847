-- What a piece answers, and whether an approval is whole, by the count of its ticket; over any tables.
use Rattle.gate.specs.Given.{PieceAnswer, Piecing}
use Rattle.gate.specs.declared.Piece.TheVariants as P
use Rattle.std.specs.Prelude.{ℕ, ◌+◌, ◌<◌, Bool, false, true, ◌≡◌, refl, eqb, length, Ok, Err}
use Rattle.std.proofs.Common.{◌∙◌, ap, subst, sym, arith, eqb-true}
use Rattle.std.proofs.lemmas.Bool.{eqb-false}
use Rattle.desk.proofs.Laws.Good.{good}
use Rattle.desk.specs.Rooms.{room_of, ticket_in}
use Rattle.desk.specs.declared.Serial.{Serial}
use Rattle.gate.specs.Feeding.{fed_on}
use Rattle.gate.specs.Gate.{ended_by, ended_of, piece_of}
use Rattle.gate.specs.Laws.Calls.{piece-fed}
use Rattle.gate.specs.declared.Gate.{Gate}
use Rattle.gate.specs.declared.feeding.Fed.{Fed}
use Rattle.history.specs.Laws.Numbers.{differ, lower}
use Rattle.matching.specs.Words.{Word}
use Rattle.verdicts.specs.GateHistory.{GateWorld, NotReplaced, Undecided, approval_at}
use Rattle.verdicts.specs.Laws.Alike.{fed_alike}
use Rattle.verdicts.specs.Laws.Counted.{FedCounted, fed-counted}
use Rattle.verdicts.specs.Laws.Deciding.{seated}
use Rattle.verdicts.specs.Laws.Standing.{Standing, Tally, tally-most}
use Rattle.verdicts.specs.Taken.{AnswersTaken, OpenIn, TakenOfHanded, taken_in}
use Rattle.desk.specs.Layout.{Lent}

abbrev pub cut_after : PieceAnswer → ℕ
cut_after (Ok (P.Cut n)) = n
cut_after (Ok P.Read) = 0
cut_after (Err why) = 0

pub answers_taken : (g : Gate) (s : Serial) → OpenIn g s → (table : Lent) (piece : Word) → AnswersTaken g s piece (piece_of g s table piece)
answers_taken g s o table piece =
    subst (λ (r : Piecing). AnswersTaken g s piece r)
    (piece-fed g s i refl table piece fed (ended_of fed.gate i fed.taken (length piece)) o.room o.current refl refl)
    (go (eqb fed.taken (length piece)) refl)
  where
    i : ℕ
    i = room_of g.desk.tickets s

    fed : Fed
    fed = fed_on (length piece) g s table piece 0

    c : FedCounted g s piece 0 fed
    c = fed-counted (length piece) g s table piece 0 o.wide

    rose : taken_in fed.gate s ≡ taken_in g s + fed.taken
    rose =
        ap (λ (j : ℕ). (ticket_in fed.gate.desk.tickets j).taken) ((fed_alike (length piece) g s table piece 0).same.rooms s)
        ∙ omega (arith, c.counted.own, c.total)

    go : (x : Bool) → eqb fed.taken (length piece) ≡ x → AnswersTaken g s piece (ended_by fed.gate i fed.taken x)
    go true e =
        let all = eqb-true fed.taken (length piece) e in
        record {
          read = (λ q. omega (arith, rose, all), λ q. refl);
          cut = λ n. (λ q. differ cc, λ z. absurd (omega (arith, rose, all, z.0, z.1)));
        }
    go false e =
        let part = eqb-false fed.taken (length piece) e in
        let few : fed.taken < length piece = lower _ _ (c.most (omega arith)) part in
        record {
          read = (λ q. differ cc, λ q. absurd (omega (arith, rose, few, q)));
          cut = λ n. (
            λ q. (let y : fed.taken ≡ n = ap cut_after q in (omega (arith, few, y), omega (arith, rose, y))),
            λ z. (let y : fed.taken ≡ n = omega (arith, rose, z.1) in ap {B = PieceAnswer} (λ (n : ℕ). Ok (P.Cut n)) y),
          );
        }

module _ (w : GateWorld) (v : Standing w) (s : Serial) (k : ℕ) (u : Undecided w s k) where
  pub open_in : NotReplaced w k → OpenIn w.gate s
  open_in n = record { wide = (good v.reached).rooms; room = (seated w v s k u).room; current = (seated w v s k u).kept.edition ∙ n ∙ sym v.editions }

  tally : Tally (taken_in w.gate s) (approval_at w k)
  tally = subst (λ (n : Serial). Tally (taken_in w.gate n) (approval_at w k)) (λ d. record { 0 = u.serial d }) (v.counts k u.inside u.undecided)

  pub taken-of-handed : TakenOfHanded w s k
  taken-of-handed = record { most = tally-most _ (approval_at w k) tally; whole = (tally.all, λ q. go (approval_at w k).whole refl q) }
    where
      go : (x : Bool) → (approval_at w k).whole ≡ x → taken_in w.gate s ≡ length (approval_at w k).handed → (approval_at w k).whole ≡ true
      go true e q = e
      go false e q = absurd (omega (arith, q, tally.part e))

  pub part-short : (approval_at w k).whole ≡ false → taken_in w.gate s < length (approval_at w k).handed
  part-short = tally.part

  pub short-part : taken_in w.gate s < length (approval_at w k).handed → (approval_at w k).whole ≡ false
  short-part h = go (approval_at w k).whole refl
    where
      go : (x : Bool) → (approval_at w k).whole ≡ x → (approval_at w k).whole ≡ false
      go false e = e
      go true e = absurd (omega (arith, h, tally.all e))
