-- What the desk shows of a serial is what the history says of it.
use Rattle.std.specs.Prelude.{◌<◌, suc, ℕ, Bool, false, not, true, List, ◌↔◌, ◌⊎◌, ◌≡◌, refl, eqb, length}
use Rattle.std.proofs.Common.{inl, inr, ◌∙◌, ap, subst, sym, arith, eqb-true}
use Rattle.std.proofs.lemmas.Bool.{eqb-false}
use Rattle.desk.specs.Rooms.{edition_of, serial_of}
use Rattle.desk.specs.State.{state_by, state_of}
use Rattle.desk.specs.declared.Edition.{Edition}
use Rattle.desk.specs.declared.Serial.{Serial}
use Rattle.desk.specs.declared.StateAnswer.{StateAnswer}
use Rattle.desk.specs.declared.StateAnswer.TheVariants as A
use Rattle.history.specs.History.{account_at, AllBytes, AsLeft, OpenOrStale, OpenTicket, run, StaleTicket, start, World}
use Rattle.history.specs.Laws.Invariant.{Inv, Stranger}
use Rattle.history.specs.Laws.LedgerSteps.{sound}
use Rattle.history.specs.Laws.Numbers.{differ, lower}
use Rattle.history.specs.Laws.States.{known_or_not, state-is, state-none, state_of_account}
use Rattle.matching.specs.Laws.Bools.{not-both}
use Rattle.desk.specs.Reached.{Call}
use Rattle.desk.specs.Layout.{Kind}

-- account k is that of a serial
pub record IsOf (w : World) (s : Serial) (k : ℕ) : Type 0 where
  pub inside : k < length w.accounts
  pub serial : (account_at w k).serial ≡ s.0

-- account k is of an edition, and has taken so many bytes
pub record Has (w : World) (k : ℕ) (e : Edition) (n : ℕ) : Type 0 where
  pub edition : (account_at w k).edition ≡ e.0
  pub taken : length (account_at w k).bytes ≡ n

-- never given: no opening answered it; closed: its account is; stale and open: its account is not closed, of an older edition or that in force,
-- and the edition and the number are those of its account
pub record StatesAre (w : World) (s : Serial) (state : StateAnswer) : Type 0 where
  pub never : (state ≡ A.Never) ↔ ((k : ℕ) → IsOf w s k → ⊥)
  pub closed : (state ≡ A.Closed) ↔ ((k : ℕ) × IsOf w s k × ((account_at w k).closed ≡ true))
  pub stale : (e : Edition) (n : ℕ) → (state ≡ A.Stale e n) ↔ ((k : ℕ) × StaleTicket w s k × Has w k e n)
  pub current : (e : Edition) (n : ℕ) → (state ≡ A.Open e n) ↔ ((k : ℕ) × OpenTicket w s k × Has w k e n)

-- the cases
data Shows (w : World) (s : Serial) : StateAnswer → Type 0 where
  shows-never : ((k : ℕ) → IsOf w s k → ⊥) → Shows w s A.Never
  shows-closed : (k : ℕ) → IsOf w s k → (account_at w k).closed ≡ true → Shows w s A.Closed
  shows-stale : (k : ℕ) → StaleTicket w s k → Shows w s (A.Stale (edition_of (account_at w k).edition) (length (account_at w k).bytes))
  shows_open : (k : ℕ) → OpenTicket w s k → Shows w s (A.Open (edition_of (account_at w k).edition) (length (account_at w k).bytes))

shows : {Left : Type 0} (w : World) → Inv Left w → (s : Serial) → Shows w s (state_of w.desk s)
shows w v s = go (known_or_not w v s.0)
  where
    by : (k : ℕ) → IsOf w s k → (c : Bool) → (account_at w k).closed ≡ c → (e : Bool) → eqb (account_at w k).edition w.edition ≡ e
        → Shows w s (state_by (edition_of (account_at w k).edition) (length (account_at w k).bytes) (not c) e true)
    by k i true c e q = shows-closed k i c
    by k i false c true q = shows_open k (record { inside = i.inside; serial = i.serial; not-closed = c }, eqb-true _ _ q)
    by k i false c false q =
        shows-stale k (record { inside = i.inside; serial = i.serial; not-closed = c }, lower _ _ (v.kept k i.inside).upto (eqb-false _ _ q))

    go : ((k : ℕ) × (k < length w.accounts) × (s.0 ≡ suc k)) ⊎ Stranger (length w.accounts) s.0 → Shows w s (state_of w.desk s)
    go (inl z) =
        let e : state_of w.desk s ≡ state_of_account w.edition (account_at w z.0) =
        ap (λ (n : ℕ). state_of w.desk (serial_of n)) z.2 ∙ state-is w v z.0 z.1 in
        subst (Shows w s) (sym e)
        (by z.0 (record { inside = z.1; serial = v.numbered z.0 z.1 ∙ sym z.2 }) _ refl _ refl)
    go (inr z) = subst (Shows w s) (sym (state-none w v s z)) (shows-never (no z))
      where
        no : Stranger (length w.accounts) s.0 → (k : ℕ) → IsOf w s k → ⊥
        no (inl e) k i = omega (arith, e, i.serial, v.numbered k i.inside)
        no (inr e) k i = omega (arith, e, i.serial, v.numbered k i.inside, i.inside)

-- NEVER GIVEN, CLOSED, STALE OR OPEN: after any history the desk shows of every serial what its account says
pub states_are : (kind : Kind) (calls : List Call) → AllBytes calls → (s : Serial)
    → StatesAre (run (start kind) calls) s (state_of (run (start kind) calls).desk s)
states_are kind calls b s = go _ (shows w v s)
  where
    w : World
    w = run (start kind) calls

    v : Inv (AsLeft (start kind) calls) w
    v = (sound kind calls b).inv

    of : (k : ℕ) → OpenOrStale w s k → IsOf w s k
    of k o = record { inside = o.inside; serial = o.serial }

    -- two accounts of the serial are one
    same : (P : ℕ → Type 0) (j k : ℕ) → IsOf w s j → IsOf w s k → P j → P k
    same P j k x y = subst P (omega (arith, x.serial, y.serial, v.numbered j x.inside, v.numbered k y.inside))

    live : (j k : ℕ) → IsOf w s j → (account_at w j).closed ≡ true → OpenOrStale w s k → ⊥
    live j k i c o = not-both (same (λ m. (account_at w m).closed ≡ true) j k i (of k o) c) o.not-closed

    apart : (j k : ℕ) → OpenTicket w s j → StaleTicket w s k → ⊥
    apart j k x y = omega (arith, y.1, same (λ m. (account_at w m).edition ≡ w.edition) j k (of j x.0) (of k y.0) x.1)

    -- the numbers that are told are the account's
    has_stale : (k : ℕ) (e : Edition) (n : ℕ) → A.Stale (edition_of (account_at w k).edition) (length (account_at w k).bytes) ≡ A.Stale e n → Has w k e n
    has_stale k e n q = record { edition = cc; taken = cc }

    has_open : (k : ℕ) (e : Edition) (n : ℕ) → A.Open (edition_of (account_at w k).edition) (length (account_at w k).bytes) ≡ A.Open e n → Has w k e n
    has_open k e n q = record { edition = cc; taken = cc }

    go : (t : StateAnswer) → Shows w s t → StatesAre w s t
    go t (shows-never f) = record {
      never = (λ e. f, λ e. refl);
      closed = (λ e. differ cc, λ z. absurd (f z.0 z.1));
      stale = λ e n. (λ q. differ cc, λ z. absurd (f z.0 (of z.0 z.1.0)));
      current = λ e n. (λ q. differ cc, λ z. absurd (f z.0 (of z.0 z.1.0)));
    }
    go t (shows-closed k i c) = record {
      never = (λ e. differ cc, λ f. absurd (f k i));
      closed = (λ e. (k, i, c), λ z. refl);
      stale = λ e n. (λ q. differ cc, λ z. absurd (live k z.0 i c z.1.0));
      current = λ e n. (λ q. differ cc, λ z. absurd (live k z.0 i c z.1.0));
    }
    go t (shows-stale k x) = record {
      never = (λ e. differ cc, λ f. absurd (f k (of k x.0)));
      closed = (λ e. differ cc, λ z. absurd (live z.0 k z.1 z.2 x.0));
      stale = λ e n. (
        λ q. (k, x, has_stale k e n q),
        λ z. let h = same (λ m. Has w m e n) z.0 k (of z.0 z.1.0) (of k x.0) z.2 in λ i. A.Stale (record { 0 = h.edition i }) (h.taken i),
      );
      current = λ e n. (λ q. differ cc, λ z. absurd (apart z.0 k z.1 x));
    }
    go t (shows_open k x) = record {
      never = (λ e. differ cc, λ f. absurd (f k (of k x.0)));
      closed = (λ e. differ cc, λ z. absurd (live z.0 k z.1 z.2 x.0));
      stale = λ e n. (λ q. differ cc, λ z. absurd (apart k z.0 x z.1));
      current = λ e n. (
        λ q. (k, x, has_open k e n q),
        λ z. let h = same (λ m. Has w m e n) z.0 k (of z.0 z.1.0) (of k x.0) z.2 in λ i. A.Open (record { 0 = h.edition i }) (h.taken i),
      );
    }
