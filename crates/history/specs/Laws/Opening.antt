-- An opening: one account more, and its ticket in a room that was free.
use Rattle.desk.specs.Given.{Opening}
use Prim.Native.Nat.{◌+◌, ◌<◌, ◌≤◌, suc, zero, ℕ}
use Rattle.std.specs.Prelude.{false, true, List, [], ◌++◌, ◌∷◌, ◌≡◌, refl, length, set}
use Rattle.std.proofs.Common.{inr, subst, sym}
use native.Mathlib.Omega.{arith}
use Rattle.desk.specs.Calls.{opened_in}
use Rattle.desk.specs.Laws.Rooms.{first_room-holds, for_held, free-held, held_for, new-held}
use Rattle.desk.specs.Laws.Views.{Opens, open_done, open_no-room, open_no-set, open_serial-end, opens}
use Rattle.desk.specs.Reached.{by_call, call_open, Reached}
use Rattle.desk.specs.Rooms.{free_room, is_for, is_free, is_held, new_ticket, room_of, serial_of, ticket_in}
use Rattle.desk.specs.declared.Serial.{Serial}
use Rattle.desk.specs.declared.Ticket.{Ticket}
use Rattle.history.specs.History.{Account, World, account_at, new_account, no_account, opening, records_due, step, stream, with_accounts}
use Rattle.history.specs.Laws.Invariant.{InForce, Inv, Kept, stranger_less, strangers, wide}
use Rattle.history.specs.Laws.Seats.{Agrees, Seat, for_other, seat_kept, seat_new, seated}
use Rattle.history.specs.Laws.Snoc.{snoc_each, snoc_length}
use Rattle.matching.specs.Laws.Bools.{is_false, not-both}
use Rattle.matching.specs.Occurrence.{occurrences_by}
use Rattle.desk.specs.Laws.Layout.{start-after}
use Rattle.desk.specs.Limits.{most_tickets}
use Rattle.desk.specs.Shared.{records_for}

module _ {Left : Type 0} (w : World) (v : Inv Left w) (i : ℕ) (ei : i ≡ free_room w.desk.tickets) (hi : i < most_tickets)
    (some : w.desk.edition.0 ≡ 0 → ⊥) (p : Reached (opened_in w.desk i)) where
  abbrev rooms : List Ticket
  rooms = w.desk.tickets

  abbrev serial : Serial
  serial = serial_of (w.desk.serial.0 + 1)

  abbrev ticket : Ticket
  ticket = new_ticket serial w.desk.edition

  abbrev new : Account
  new = new_account w (w.desk.serial.0 + 1)

  abbrev after : World
  after = with_accounts w (opened_in w.desk i) (w.accounts ++ new ∷ [])

  count : length after.accounts ≡ suc (length w.accounts)
  count = snoc_length w.accounts new no_account

  number : w.desk.serial.0 + 1 ≡ suc (length w.accounts)
  number = omega (arith, v.serials)

  each : (P : ℕ → Account → Type 0) → ((k : ℕ) → k < length w.accounts → P k (account_at w k)) → P (length w.accounts) new
      → (k : ℕ) → k < length after.accounts → P k (account_at after k)
  each = snoc_each w.accounts new no_account

  -- the room was free, and no ticket has the new serial
  free : (s : Serial) → is_for s (ticket_in rooms i) ≡ false
  free s =
      let f : is_held (ticket_in rooms i) ≡ false = free-held (ticket_in rooms i)
      (subst (λ (j : ℕ). is_free (ticket_in rooms j) ≡ true) (sym ei) (first_room-holds is_free rooms (omega (arith, wide w v)))) in
      is_false (is_for s (ticket_in rooms i)) (λ h. not-both (for_held s (ticket_in rooms i) h).0 f)

  unseen : most_tickets ≤ room_of rooms serial
  unseen = strangers w v serial (inr (omega (arith, number)))

  mine : is_for serial ticket ≡ true
  mine = held_for serial ticket (new-held w.desk.serial.0 w.desk.edition) refl

  others : (s : Serial) → (s.0 ≡ serial.0 → ⊥) → is_for s ticket ≡ false
  others s n = for_other serial s ticket mine (λ e. n (sym e))

  pub inv_opened : Inv Left after
  unfolding occurrences_by
  inv_opened = record {
    reached = p;
    serials = omega (arith, count, v.serials);
    numbered = each (λ k a. a.serial ≡ suc k) v.numbered number;
    edition = v.edition;
    force = v.force;
    kept = each (λ k a. Kept w.edition w.tags a) v.kept new-kept;
    seats = each (λ k a. Seat Left (set rooms i ticket) a)
        (λ k h. seat_kept rooms (wide w v) i ticket hi (account_at w k) (free _) (others _ (λ e. omega (arith, e, v.numbered k h, h, number)))
        (v.seats k h)) new_seat;
    records = λ l. each (λ k a. records_for (suc k) (stream w) ≡ records_due a) (v.records l) (v.nobody (suc (length w.accounts)) (inr (omega arith)));
    nobody = λ n h. v.nobody n (stranger_less (length w.accounts) (length after.accounts) n (omega (arith, count)) h);
  }
    where
      pos : (n : ℕ) → (n ≡ 0 → ⊥) → 0 < n
      pos zero f = absurd (f refl)
      pos (suc n) f = omega arith

      force : InForce w.table w.tags w.desk.slots
      force = v.force (rw v.edition (pos w.desk.edition.0 some))

      new-kept : Kept w.edition w.tags new
      new-kept = record {
        from = rw v.edition (pos w.desk.edition.0 some);
        upto = omega arith;
        current = λ e. refl;
        lawful = force.lawful;
        bytes = tt;
        small = omega arith;
      }

      new_seat : Seat Left (set rooms i ticket) new
      new_seat =
          let s = seat_new rooms (wide w v) i ticket hi serial mine unseen in
          seated refl (omega (arith, s.0)) (subst (λ (x : Ticket). Agrees Left x new) (sym s.1)
          (record { edition = sym v.edition; taken = refl; place = λ l. sym (start-after w.tags) }))

pub inv_opens : {Left : Type 0} (w : World) → Inv Left w → Inv Left (step w call_open)
inv_opens {Left} w v = go _ (opens w.desk) (by_call v.reached call_open)
  where
    go : (r : Opening) → Opens w.desk r → Reached r.desk → Inv Left (opening w r.desk r.answer)
    go r (open_no-set a) p = v
    go r (open_serial-end a b) p = v
    go r (open_no-room a b c) p = v
    go r (open_done a b i e h) p = inv_opened w v i e h a p
