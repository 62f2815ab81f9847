-- The cases of a decision shut one another out, since a serial is that of one approval.
use Rattle.gate.specs.Given.{DecideAnswer}
use Rattle.gate.specs.declared.Verdict.TheVariants as Q
use Rattle.std.specs.Prelude.{ℕ, suc, ◌<◌, false, true, ◌≡◌, refl, length, Ok, Err}
use Rattle.std.proofs.Common.{◌∙◌, ap, subst, sym, arith}
use Rattle.desk.specs.Rooms.{edition_of}
use Rattle.desk.specs.declared.Edition.{Edition}
use Rattle.desk.specs.declared.Serial.{Serial}
use Rattle.history.specs.Laws.Numbers.{differ}
use Rattle.matching.specs.Laws.Bools.{not-both}
use Rattle.verdicts.specs.Cases.{Clean, Exactly, IsRead, IsUnread, OverAnyTables}
use Rattle.verdicts.specs.GateHistory.{GateWorld, NotReplaced, Readable, Replaced, Undecided, approval_at}
use Rattle.verdicts.specs.Laws.Deciding.{Decides, decides_hold, decides_none, decides_pass, decides_stale, decides_unread, mask_in}
use Rattle.verdicts.specs.Laws.Found.{Found}
use Rattle.verdicts.specs.Laws.Mask.{mask-none}
use Rattle.verdicts.specs.Mask.{mask_of}

abbrev edition_in : DecideAnswer → Edition
edition_in (Ok (Q.Stale e)) = e
edition_in (Ok Q.Pass) = edition_of 0
edition_in (Ok (Q.Hold mask)) = edition_of 0
edition_in (Ok Q.Unread) = edition_of 0
edition_in (Err why) = edition_of 0

abbrev held_in : DecideAnswer → ℕ
held_in (Ok (Q.Stale e)) = 0
held_in (Ok Q.Pass) = 0
held_in (Ok (Q.Hold mask)) = mask
held_in (Ok Q.Unread) = 0
held_in (Err why) = 0

module _ (w : GateWorld) (s : Serial) (numbered : (k : ℕ) → k < length w.approvals → (approval_at w k).serial ≡ suc k) where
  pub same : (P : ℕ → Type 0) (j k : ℕ) → Undecided w s j → Undecided w s k → P j → P k
  same P j k x y = subst P (let e : j ≡ k = omega (arith, numbered j x.inside, numbered k y.inside, x.serial, y.serial) in e)

  pub stale-current : (j k : ℕ) → Undecided w s j → Replaced w j → Undecided w s k → NotReplaced w k → ⊥
  stale-current j k x p y q = omega (arith, same (λ n. Replaced w n) j k x y p, q)

  unread-whole : (j k : ℕ) → Undecided w s j → (approval_at w j).whole ≡ false → Undecided w s k → (approval_at w k).whole ≡ true → ⊥
  unread-whole j k x p y q = not-both q (same (λ n. (approval_at w n).whole ≡ false) j k x y p)

  stale-is : (k : ℕ) (e d : Edition) → Undecided w s k → e.0 ≡ (approval_at w k).accepted → (j : ℕ) → Undecided w s j → d.0 ≡ (approval_at w j).accepted
      → ◌≡◌ {A = DecideAnswer} (Ok (Q.Stale e)) (Ok (Q.Stale d))
  stale-is k e d x p j y q =
      let h : e.0 ≡ d.0 = p ∙ sym (same (λ n. d.0 ≡ (approval_at w n).accepted) j k y x q) in
      λ t. Ok (Q.Stale (record { 0 = h t }))

  pub small-read : (k : ℕ) → Undecided w s k → (approval_at w k).whole ≡ true → IsUnread w s → ⊥
  small-read k x h z = unread-whole z.0 k z.1 z.3 x h

  pub over_any : (answer : DecideAnswer) → Decides w s answer → OverAnyTables w s answer
  over_any answer (decides_none f) = record {
    none = (λ q. f, λ q. refl);
    stale = λ e. (λ q. differ cc, λ z. absurd (f z.0 z.1));
    unread = (λ q. differ cc, λ z. absurd (f z.0 z.1));
    pass = λ q. differ cc;
    hold = λ mask q. differ cc;
  }
  over_any answer (decides_stale k e x p l) = record {
    none = (λ q. differ cc, λ f. absurd (f k x));
    stale = λ d. (λ q. (k, x, l, ap (λ (y : DecideAnswer). (edition_in y).0) (sym q) ∙ p), λ z. stale-is k e d x p z.0 z.1 z.3);
    unread = (λ q. differ cc, λ z. absurd (stale-current k z.0 x l z.1 z.2));
    pass = λ q. differ cc;
    hold = λ mask q. differ cc;
  }
  over_any answer (decides_unread k x p u) = record {
    none = (λ q. differ cc, λ f. absurd (f k x));
    stale = λ d. (λ q. differ cc, λ z. absurd (stale-current z.0 k z.1 z.2 x p));
    unread = (λ q. (k, x, p, u), λ z. refl);
    pass = λ q. differ cc;
    hold = λ mask q. differ cc;
  }
  over_any answer (decides_pass k r m) = record {
    none = (λ q. differ cc, λ f. absurd (f k r.waits));
    stale = λ d. (λ q. differ cc, λ z. absurd (stale-current z.0 k z.1 z.2 r.waits r.current));
    unread = (λ q. differ cc, λ z. absurd (unread-whole z.0 k z.1 z.3 r.waits r.whole));
    pass = λ q. (k, r);
    hold = λ mask q. differ cc;
  }
  over_any answer (decides_hold k r m) = record {
    none = (λ q. differ cc, λ f. absurd (f k r.waits));
    stale = λ d. (λ q. differ cc, λ z. absurd (stale-current z.0 k z.1 z.2 r.waits r.current));
    unread = (λ q. differ cc, λ z. absurd (unread-whole z.0 k z.1 z.3 r.waits r.whole));
    pass = λ q. differ cc;
    hold = λ mask q. (k, r);
  }

  module _ (found : (k : ℕ) → Readable w s k → Found w s k) where
    -- what is kept for the serial is the mask of each of its approvals that can be read, of which there is one
    kept : (k : ℕ) → Readable w s k → mask_in w s ≡ mask_of w.tags (approval_at w k).handed
    kept k r = (found k r).mask

    clean_iff : (k : ℕ) (r : Readable w s k) → (mask_in w s ≡ 0 → Clean w.tags (approval_at w k).handed) ×
        (Clean w.tags (approval_at w k).handed → mask_in w s ≡ 0)
    clean_iff k r =
        let z = mask-none w.tags (approval_at w k).handed (omega (arith, (found k r).few)) in
        (λ h. z.0 (sym (kept k r) ∙ h), λ c. kept k r ∙ z.1 c)

    -- a case in which no approval can be read
    unreadable : (answer : DecideAnswer) → OverAnyTables w s answer → (IsRead w s → ⊥) → (answer ≡ Ok Q.Pass → ⊥) → ((mask : ℕ) → answer ≡ Ok (Q.Hold mask) → ⊥)
        → Exactly w s answer
    unreadable answer a f p h = record {
      none = a.none;
      stale = a.stale;
      unread = a.unread;
      pass = (λ q. absurd (p q), λ z. absurd (f (z.0, z.1)));
      hold = λ mask. (λ q. absurd (h mask q), λ z. absurd (f (z.0, z.1)));
    }

    pub exactly-by : (answer : DecideAnswer) → Decides w s answer → Exactly w s answer
    exactly-by answer (decides_none f) = unreadable _ (over_any _ (decides_none f)) (λ z. f z.0 z.1.waits) (λ q. differ cc) (λ mask q. differ cc)
    exactly-by answer (decides_stale k e x p l) =
        unreadable _ (over_any _ (decides_stale k e x p l)) (λ z. stale-current k z.0 x l z.1.waits z.1.current) (λ q. differ cc)
        (λ mask q. differ cc)
    exactly-by answer (decides_unread k x p u) =
        unreadable _ (over_any _ (decides_unread k x p u)) (λ z. unread-whole k z.0 x u z.1.waits z.1.whole) (λ q. differ cc) (λ mask q. differ cc)
    exactly-by answer (decides_pass k r m) =
        let a = over_any _ (decides_pass k r m) in
        record {
          none = a.none;
          stale = a.stale;
          unread = a.unread;
          pass = (λ q. (k, r, (clean_iff k r).0 m), λ z. refl);
          hold = λ mask. (λ q. differ cc, λ z. absurd (z.3 (z.2 ∙ sym (kept z.0 z.1) ∙ m)));
        }
    exactly-by answer (decides_hold k r m) =
        let a = over_any _ (decides_hold k r m) in
        record {
          none = a.none;
          stale = a.stale;
          unread = a.unread;
          pass = (λ q. differ cc, λ z. absurd (m ((clean_iff z.0 z.1).1 z.2)));
          hold = λ mask. (
            λ q. (let e : mask_in w s ≡ mask = ap held_in q in (k, r, sym e ∙ kept k r, λ z. m (e ∙ z))),
            λ z. ap {B = DecideAnswer} (λ (m : ℕ). Ok (Q.Hold m)) (kept z.0 z.1 ∙ sym z.2),
          );
        }
