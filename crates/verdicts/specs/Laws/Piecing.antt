-- What a piece is answered, by its cases; over any tables.
use Rattle.gate.specs.Given.{PieceAnswer}
use Rattle.gate.specs.declared.Piece.TheVariants as P
use Rattle.gate.specs.declared.PieceRefusal.TheVariants as N
use Rattle.std.specs.Prelude.{ℕ, suc, ◌<◌, Bool, false, true, ◌⊎◌, ◌≡◌, refl, eqb, ltb, length, Ok, Err}
use Rattle.std.proofs.Common.{inl, inr, ◌∙◌, ap, sym, arith, eqb-true, ltb-false, ltb-true}
use Rattle.std.proofs.lemmas.Bool.{eqb-false}
use Rattle.desk.specs.Rooms.{edition_of, room_of, ticket_in}
use Rattle.desk.specs.declared.Edition.{Edition}
use Rattle.desk.specs.declared.Serial.{Serial}
use Rattle.gate.specs.Feeding.{fed_on}
use Rattle.gate.specs.Gate.{ended_by, piece_by, piece_of}
use Rattle.gate.specs.declared.feeding.Fed.{Fed}
use Rattle.history.specs.Laws.Numbers.{differ, lower}
use Rattle.matching.specs.Words.{Word}
use Rattle.verdicts.specs.Cases.{PieceExactly}
use Rattle.verdicts.specs.GateHistory.{GateWorld, NotReplaced, Replaced, Undecided, approval_at}
use Rattle.verdicts.specs.Laws.Cases.{same, stale-current}
use Rattle.verdicts.specs.Laws.Deciding.{seated, waiting}
use Rattle.verdicts.specs.Laws.Standing.{Standing}
use Rattle.desk.specs.Limits.{most_tickets}
use Rattle.desk.specs.Layout.{Lent}

pub data Pieces (g : GateWorld) (s : Serial) : PieceAnswer → Type 0 where
  pieces_none : ((k : ℕ) → Undecided g s k → ⊥) → Pieces g s (Err N.NoTicket)
  pieces_stale : (k : ℕ) (e : Edition) → Undecided g s k → e.0 ≡ (approval_at g k).accepted → Replaced g k → Pieces g s (Err (N.Stale e))
  pieces_read : (k : ℕ) → Undecided g s k → NotReplaced g k → Pieces g s (Ok P.Read)
  pieces_cut : (k n : ℕ) → Undecided g s k → NotReplaced g k → Pieces g s (Ok (P.Cut n))

pub pieces : (g : GateWorld) → Standing g → (s : Serial) (table : Lent) (piece : Word) → Pieces g s (piece_of g.gate s table piece).answer
unfolding piece_of
pieces g v s table piece = go (ltb i most_tickets) refl (eqb its.0 g.gate.desk.edition.0) refl
  where
    i : ℕ
    i = room_of g.gate.desk.tickets s

    its : Edition
    its = (ticket_in g.gate.desk.tickets i).edition

    fed : Fed
    fed = fed_on (length piece) g.gate s table piece 0

    ended : (k : ℕ) → Undecided g s k → NotReplaced g k → (x : Bool) → Pieces g s (ended_by fed.gate i fed.taken x).answer
    ended k u n true = pieces_read k u n
    ended k u n false = pieces_cut k fed.taken u n

    go : (x : Bool) → ltb i most_tickets ≡ x → (y : Bool) → eqb its.0 g.gate.desk.edition.0 ≡ y
        → Pieces g s (piece_by g.gate s i (ticket_in g.gate.desk.tickets i) table piece x y).answer
    go false e y q = pieces_none (λ k u. omega (arith, ltb-false i most_tickets e, (seated g v s k u).room))
    go true e false q =
        let w = waiting g v s (ltb-true i most_tickets e) in
        let z = seated g v s w.0 w.1 in
        pieces_stale w.0 its w.1 z.kept.edition
        (lower _ _ (v.upto w.0 w.1.inside) (λ d. eqb-false its.0 g.gate.desk.edition.0 q (z.kept.edition ∙ d ∙ sym v.editions)))
    go true e true q =
        let w = waiting g v s (ltb-true i most_tickets e) in
        let z = seated g v s w.0 w.1 in
        ended w.0 w.1 (sym z.kept.edition ∙ eqb-true _ _ q ∙ v.editions) (eqb fed.taken (length piece))

abbrev edition_in : PieceAnswer → Edition
edition_in (Err (N.Stale e)) = e
edition_in (Ok P.Read) = edition_of 0
edition_in (Ok (P.Cut n)) = edition_of 0
edition_in (Err N.NoTicket) = edition_of 0

module _ (w : GateWorld) (s : Serial) (numbered : (k : ℕ) → k < length w.approvals → (approval_at w k).serial ≡ suc k) where
  stale-is : (k : ℕ) (e d : Edition) → Undecided w s k → e.0 ≡ (approval_at w k).accepted → (j : ℕ) → Undecided w s j → d.0 ≡ (approval_at w j).accepted
      → ◌≡◌ {A = PieceAnswer} (Err (N.Stale e)) (Err (N.Stale d))
  stale-is k e d x p j y q =
      let h : e.0 ≡ d.0 = p ∙ sym (same w s numbered (λ n. d.0 ≡ (approval_at w n).accepted) j k y x q) in
      λ t. Err (N.Stale (record { 0 = h t }))

  -- an answer that is neither Read nor Cut
  refused : (answer : PieceAnswer) → (answer ≡ Ok P.Read → ⊥) → ((n : ℕ) → answer ≡ Ok (P.Cut n) → ⊥) → (answer ≡ Ok P.Read) ⊎ ((n : ℕ) × (answer ≡ Ok (P.Cut n))) → ⊥
  refused answer a b (inl e) = a e
  refused answer a b (inr z) = b z.0 z.1

  pub pieces_exactly : (answer : PieceAnswer) → Pieces w s answer → PieceExactly w s answer
  pieces_exactly answer (pieces_none f) = record {
    none = (λ q. f, λ q. refl);
    stale = λ e. (λ q. differ cc, λ z. absurd (f z.0 z.1));
    fed = (λ z. absurd (f z.0 z.1), λ q. absurd (refused (Err N.NoTicket) (λ e. differ cc) (λ n e. differ cc) q));
  }
  pieces_exactly answer (pieces_stale k e x p l) = record {
    none = (λ q. differ cc, λ f. absurd (f k x));
    stale = λ d. (λ q. (k, x, l, ap (λ (y : PieceAnswer). (edition_in y).0) (sym q) ∙ p), λ z. stale-is k e d x p z.0 z.1 z.3);
    fed = (λ z. absurd (stale-current w s numbered k z.0 x l z.1 z.2), λ q. absurd (refused (Err (N.Stale e)) (λ e. differ cc) (λ n e. differ cc) q));
  }
  pieces_exactly answer (pieces_read k x p) = record {
    none = (λ q. differ cc, λ f. absurd (f k x));
    stale = λ d. (λ q. differ cc, λ z. absurd (stale-current w s numbered z.0 k z.1 z.2 x p));
    fed = (λ z. inl refl, λ q. (k, x, p));
  }
  pieces_exactly answer (pieces_cut k n x p) = record {
    none = (λ q. differ cc, λ f. absurd (f k x));
    stale = λ d. (λ q. differ cc, λ z. absurd (stale-current w s numbered z.0 k z.1 z.2 x p));
    fed = (λ z. inr (n, refl), λ q. (k, x, p));
  }
