-- What the desk shows of a serial, by its account.
use Rattle.std.specs.Prelude.{◌<◌, ◌≤◌, suc, zero, ℕ, Bool, List, ◌⊎◌, ◌≡◌, refl, eqb, ltb, get_or, length}
use Rattle.std.proofs.Math.Bool.{not, true}
use Rattle.std.proofs.Common.{inl, inr, ◌∙◌, ap, subst, sym, arith}
use Rattle.std.proofs.Math.Path.{ap₂}
use Rattle.std.proofs.Math.Decide.{dec_le}
use borrow.Author.Tests.{eqb-false, le-ltb, lt-ltb, ltb-false, ne_eqb, not-true}
use Rattle.desk.specs.Rooms.{edition_of, room_of, serial_of, ticket_in}
use Rattle.desk.specs.State.{held_by, is_given, state_by, state_in, state_of}
use Rattle.desk.specs.declared.Serial.{Serial}
use Rattle.desk.specs.declared.StateAnswer.{StateAnswer}
use Rattle.desk.specs.declared.StateAnswer.TheVariants as A
use Rattle.desk.specs.declared.Ticket.{Ticket}
use Rattle.history.specs.History.{Account, World, account_at, no_account, records_due, stream}
use Rattle.history.specs.Laws.Invariant.{Inv, Stranger, strangers}
use Rattle.history.specs.Laws.Numbers.{ltb_no}
use Rattle.history.specs.Laws.Seats.{Seat, no_seat, seated}
use Rattle.matching.specs.Laws.Bools.{and_both, and_l, and_r, is_false}
use Rattle.desk.specs.Limits.{most_tickets}
use Rattle.desk.specs.Shared.{records_for}

-- what an account says of its ticket, under an edition in force
abbrev pub state_of_account : ℕ → Account → StateAnswer
state_of_account edition a = state_by (edition_of a.edition) (length a.bytes) (not a.closed) (eqb a.edition edition) true

module _ {Left : Type 0} (w : World) (v : Inv Left w) where
  given_test : (k : ℕ) → k < length w.accounts → is_given (serial_of (suc k)) w.desk.serial ≡ true
  given_test k h =
      and_both (not (eqb (suc k) 0)) (not (ltb w.desk.serial.0 (suc k))) (ap not (ne_eqb (suc k) 0 (λ e. omega (arith, e))))
      (ap not (le-ltb w.desk.serial.0 (suc k) (omega (arith, h, v.serials))))

  pub state-is : (k : ℕ) → k < length w.accounts → state_of w.desk (serial_of (suc k)) ≡ state_of_account w.edition (account_at w k)
  unfolding state_of
  state-is k h = go (subst (λ (n : ℕ). Seat Left w.desk.tickets (numbered n)) (v.numbered k h) (v.seats k h))
    where
      a : Account
      a = account_at w k

      room : ℕ
      room = room_of w.desk.tickets (serial_of (suc k))

      t : Ticket
      t = ticket_in w.desk.tickets room

      -- the account under a number
      numbered : ℕ → Account
      numbered n = record {
        serial = n;
        edition = (account_at w k).edition;
        tags = (account_at w k).tags;
        bytes = (account_at w k).bytes;
        closed =
            (account_at w k).closed;
      }

      -- the account, closed or not
      told : Bool → StateAnswer
      told b = state_by (edition_of a.edition) (length a.bytes) (not b) (eqb a.edition w.edition) true

      go : Seat Left w.desk.tickets (numbered (suc k)) → state_in w.desk (serial_of (suc k)) room ≡ told a.closed
      go (no_seat c q) =
          ap₂ (λ (x y : Bool). state_by t.edition t.taken x (eqb t.edition.0 w.desk.edition.0) y) (ltb_no room most_tickets q) (given_test k h)
          ∙ ap told (sym c)
      go (seated c q g) =
          ap (λ (x : Bool). state_by t.edition t.taken x (eqb t.edition.0 w.desk.edition.0) (is_given (serial_of (suc k)) w.desk.serial))
          (lt-ltb room most_tickets q)
          ∙ (λ i. held_by (record { 0 = g.edition i }) (g.taken i) (eqb (g.edition i) (sym v.edition i)))
          ∙ ap told (sym c)

  pub state-none : (s : Serial) → Stranger (length w.accounts) s.0 → state_of w.desk s ≡ A.Never
  unfolding state_of
  state-none s h =
      let t = ticket_in w.desk.tickets (room_of w.desk.tickets s) in
      ap₂ (λ (x y : Bool). state_by t.edition t.taken x (eqb t.edition.0 w.desk.edition.0) y)
      (ltb_no (room_of w.desk.tickets s) most_tickets (strangers w v s h))
      (is_false (is_given s w.desk.serial)
      (λ e. no h (and_l (not (eqb s.0 0)) (not (ltb w.desk.serial.0 s.0)) e)
      (and_r (not (eqb s.0 0)) (not (ltb w.desk.serial.0 s.0)) e)))
    where
      no : Stranger (length w.accounts) s.0 → not (eqb s.0 0) ≡ true → not (ltb w.desk.serial.0 s.0) ≡ true → ⊥
      no (inl z) p q = eqb-false s.0 0 (not-true _ p) z
      no (inr z) p q = omega (arith, z, v.serials, ltb-false w.desk.serial.0 s.0 (not-true _ q))

  -- a serial is that of an account, or a stranger
  pub known_or_not : (n : ℕ) → ((k : ℕ) × (k < length w.accounts) × (n ≡ suc k)) ⊎ Stranger (length w.accounts) n
  known_or_not zero = inr (inl refl)
  known_or_not (suc k) = go (dec_le (suc k) (length w.accounts))
    where
      go : Dec (suc k ≤ length w.accounts) → ((j : ℕ) × (j < length w.accounts) × (suc k ≡ suc j)) ⊎ Stranger (length w.accounts) (suc k)
      go (yes h) = inl (k, h, refl)
      go (no h) = inr (inr (omega arith))

-- two worlds with the same accounts under the same edition show the same of every serial
pub states-same : {Left : Type 0} (w v : World) → Inv Left w → Inv Left v → v.accounts ≡ w.accounts → v.edition ≡ w.edition → (s : Serial)
    → state_of v.desk s ≡ state_of w.desk s
states-same w v i j e f s = go (known_or_not w i s.0)
  where
    go : ((k : ℕ) × (k < length w.accounts) × (s.0 ≡ suc k)) ⊎ Stranger (length w.accounts) s.0 → state_of v.desk s ≡ state_of w.desk s
    go (inl z) =
        let q : serial_of (suc z.0) ≡ s = λ d. record { 0 = sym z.2 d } in
        subst (λ (x : Serial). state_of v.desk x ≡ state_of w.desk x) q
        (state-is v j z.0 (subst (λ (l : List Account). z.0 < length l) (sym e) z.1)
        ∙ ap₂ (λ (n : ℕ) (l : List Account). state_of_account n (get_or l z.0 no_account)) f e ∙ sym (state-is w i z.0 z.1))
    go (inr h) = state-none v j s (subst (λ (l : List Account). Stranger (length l) s.0) (sym e) h) ∙ sym (state-none w i s h)

-- and have the same records of every serial
pub records-same : {Left : Type 0} (w v : World) → Inv Left w → Inv Left v → Left → v.accounts ≡ w.accounts → (n : ℕ)
    → records_for n (stream v) ≡ records_for n (stream w)
records-same w v i j l e n = go (known_or_not w i n)
  where
    go : ((k : ℕ) × (k < length w.accounts) × (n ≡ suc k)) ⊎ Stranger (length w.accounts) n → records_for n (stream v) ≡ records_for n (stream w)
    go (inl z) =
        subst (λ (x : ℕ). records_for x (stream v) ≡ records_for x (stream w)) (sym z.2)
        (j.records l z.0 (subst (λ (x : List Account). z.0 < length x) (sym e) z.1)
        ∙ ap (λ (l : List Account). records_due (get_or l z.0 no_account)) e ∙ sym (i.records l z.0 z.1))
    go (inr h) = j.nobody n (subst (λ (l : List Account). Stranger (length l) n) (sym e) h) ∙ sym (i.nobody n h)
