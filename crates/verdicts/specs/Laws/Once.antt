-- An approval that was decided stays so.
use Rattle.desk.specs.Given.{OpenAnswer, ReplaceAnswer}
use Rattle.gate.specs.Given.{PieceAnswer, DecideAnswer}
use Rattle.gate.specs.declared.Piece.TheVariants as P
use Rattle.std.specs.Prelude.{ℕ, suc, ◌<◌, Bool, false, true, List, [], ◌++◌, ◌∷◌, ◌≡◌, refl, eqb, get_or, length, Ok, Err}
use Rattle.std.proofs.Common.{◌∙◌, sym, ap, subst, arith, lt-ltb}
use Rattle.desk.specs.Rooms.{room_of, ticket_in}
use Rattle.desk.specs.declared.Serial.{Serial}
use Rattle.gate.specs.Gate.{begin_of, change_of, decide_by, decide_of, piece_of}
use Rattle.gate.specs.Noting.{seen_in}
use Rattle.gate.specs.declared.Gate.{Gate}
use Rattle.history.specs.Laws.Snoc.{snoc_length, snoc_old}
use Rattle.matching.specs.Laws.Bools.{not-both}
use Rattle.matching.specs.Words.{Word}
use Rattle.verdicts.specs.GateHistory.{Approval, GateAct, GateWorld, Undecided, approval_at, begun_with, decided_with, gate_begin, gate_decide, gate_piece}
use Rattle.verdicts.specs.GateHistory.{gate_replace, gate_run, gate_step, handed_cut, handed_whole, handed_with, new_approval, no_approval, on_approval}
use Rattle.verdicts.specs.GateHistory.{replaced_with, settled}
use Rattle.verdicts.specs.Laws.Approvals.{on-each, on-length, verdict_settles}
use Rattle.verdicts.specs.Laws.Deciding.{seated}
use Rattle.verdicts.specs.Laws.Standing.{Standing}
use Rattle.desk.specs.Layout.{Lent, Order, sizes_of}
use Rattle.desk.specs.Limits.{most_tickets}

-- approval k is there and was decided
pub record Done (l : List Approval) (k : ℕ) : Type 0 where
  pub inside : k < length l
  pub decided : (get_or l k no_approval).decided ≡ true

on-done : (n : ℕ) (f : Approval → Approval) (l : List Approval) (k : ℕ) → ((p : Approval) → p.decided ≡ true → (f p).decided ≡ true) → Done l k
    → Done (on_approval n f l) k
on-done n f l k keeps d =
    let inside : k < length (on_approval n f l) = subst (λ (m : ℕ). k < m) (sym (on-length n f l)) d.inside in
    record {
      inside = inside;
      decided = on-each n f l (λ j p. j ≡ k → p.decided ≡ true)
          (λ j h e q. keeps (get_or l j no_approval) (ap (λ (m : ℕ). (get_or l m no_approval).decided) q ∙ d.decided))
          (λ j h e q. ap (λ (m : ℕ). (get_or l m no_approval).decided) q ∙ d.decided) k inside refl;
    }

module _ (w : GateWorld) (k : ℕ) (d : Done w.approvals k) where
  after_replace : (order : Order) (run : Lent) (g : Gate) (a : ReplaceAnswer) → Done (replaced_with w order run g a).approvals k
  after_replace order run g (Ok given) = d
  after_replace order run g (Err why) = d

  after_begin : (g : Gate) (a : OpenAnswer) → Done (begun_with w g a).approvals k
  after_begin g (Ok s) = record {
    inside = omega (arith, snoc_length w.approvals (new_approval w s.0) no_approval, d.inside);
    decided = ap (λ (p : Approval). p.decided) (snoc_old w.approvals (new_approval w s.0) no_approval k d.inside) ∙ d.decided;
  }
  after_begin g (Err why) = d

  after-piece : (s : Serial) (piece : Word) (g : Gate) (a : PieceAnswer) → Done (handed_with w s piece g a).approvals k
  after-piece s piece g (Ok P.Read) = on-done s.0 (handed_whole piece) w.approvals k (λ p h. h) d
  after-piece s piece g (Ok (P.Cut taken)) = on-done s.0 (handed_cut piece) w.approvals k (λ p h. h) d
  after-piece s piece g (Err why) = d

  after_decide : (s : Serial) (g : Gate) (a : DecideAnswer) → Done (decided_with w s g a).approvals k
  after_decide s g (Ok verdict) = on-done s.0 settled w.approvals k (λ p h. refl) d
  after_decide s g (Err why) = d

  done-step : (act : GateAct) → Done (gate_step w act).approvals k
  done-step (gate_replace order run) = after_replace order run (change_of w.gate order (sizes_of run)).gate (change_of w.gate order (sizes_of run)).answer
  done-step gate_begin = after_begin (begin_of w.gate).gate (begin_of w.gate).answer
  done-step (gate_piece s table piece) = after-piece s piece (piece_of w.gate s table piece).gate (piece_of w.gate s table piece).answer
  done-step (gate_decide s) = after_decide s (decide_of w.gate s).gate (decide_of w.gate s).answer

pub done-run : (calls : List GateAct) (w : GateWorld) (k : ℕ) → Done w.approvals k → Done (gate_run w calls).approvals k
unfolding gate_run
done-run [] w k d = d
done-run (act ∷ calls) w k d = done-run calls (gate_step w act) k (done-step w k d act)

-- deciding decides
pub decided_now : (w : GateWorld) → Standing w → (s : Serial) (k : ℕ) → Undecided w s k → Done (gate_step w (gate_decide s)).approvals k
unfolding decide_of
decided_now w v s k u =
    subst (λ (b : Bool). Done (decided_with w s (decide_by w.gate s i b).gate (decide_by w.gate s i b).answer).approvals k)
    (sym (lt-ltb i most_tickets (seated w v s k u).room))
    (subst (λ (x : GateWorld). Done x.approvals k)
    (sym (verdict_settles w s (decide_by w.gate s i true).gate (ticket_in w.gate.desk.tickets i).edition (seen_in w.gate.seen i)
    (eqb (ticket_in w.gate.desk.tickets i).edition.0 w.gate.desk.edition.0))) done)
  where
    i : ℕ
    i = room_of w.gate.desk.tickets s

    done : Done (on_approval s.0 settled w.approvals) k
    done =
        let inside : k < length (on_approval s.0 settled w.approvals) =
        subst (λ (m : ℕ). k < m) (sym (on-length s.0 settled w.approvals)) u.inside in
        record {
          inside = inside;
          decided = on-each s.0 settled w.approvals (λ j p. j ≡ k → p.decided ≡ true) (λ j h e q. refl)
              (λ j h e q. absurd (e (ap (λ (m : ℕ). (approval_at w m).serial) q ∙ u.serial))) k inside refl;
        }

pub run_append : (w : GateWorld) (a b : List GateAct) → gate_run w (a ++ b) ≡ gate_run (gate_run w a) b
unfolding gate_run
run_append w [] b = refl
run_append w (x ∷ a) b = run_append (gate_step w x) a b

-- an approval that was decided is none that waits, since a serial is that of one approval
pub done_none : (w : GateWorld) → Standing w → (s : Serial) (k : ℕ) → s.0 ≡ suc k → Done w.approvals k → (j : ℕ) → Undecided w s j → ⊥
done_none w v s k e d j u =
    let same : j ≡ k = omega (arith, e, u.serial, v.numbered j u.inside) in
    not-both d.decided (subst (λ (n : ℕ). (approval_at w n).decided ≡ false) same u.undecided)

pub none_after : (calls more : List GateAct) (w : GateWorld) (s : Serial) (k : ℕ) → Standing (gate_run w calls)
    → Standing (gate_run w (calls ++ gate_decide s ∷ more))
    → Undecided (gate_run w calls) s k → (j : ℕ) → Undecided (gate_run w (calls ++ gate_decide s ∷ more)) s j → ⊥
unfolding gate_run
none_after calls more w s k v x u =
    done_none (gate_run w (calls ++ gate_decide s ∷ more)) x s k (sym u.serial ∙ v.numbered k u.inside)
    (subst (λ (y : GateWorld). Done y.approvals k) (sym (run_append w calls (gate_decide s ∷ more)))
    (done-run more (gate_step (gate_run w calls) (gate_decide s)) k (decided_now (gate_run w calls) v s k u)))
