-- A closing: the account is closed and its room is free.
use Rattle.desk.specs.Given.{Closing}
use Rattle.std.specs.Prelude.{◌<◌, ◌≤◌, suc, ℕ, false, true, List, ◌≡◌, refl, length, set}
use Rattle.std.proofs.Common.{◌∙◌, subst, sym, arith}
use Rattle.desk.specs.Calls.{with_ticket}
use Rattle.desk.specs.Laws.Views.{Closes, close_done, close_no-ticket, closes}
use Rattle.desk.specs.Reached.{by_call, call_close, Reached}
use Rattle.desk.specs.Rooms.{free_ticket, is_for, room_of, serial_of, ticket_in}
use Rattle.desk.specs.declared.Serial.{Serial}
use Rattle.desk.specs.declared.Ticket.{Ticket}
use Rattle.history.specs.History.{Account, World, account_at, closing, on_serial, records_due, shut, step, stream, with_accounts}
use Rattle.history.specs.Laws.Accounts.{on_serial-length}
use Rattle.history.specs.Laws.Invariant.{changed_each, given, Inv, Kept, Stranger, unique, wide}
use Rattle.history.specs.Laws.Seats.{Seat, for_other, no_seat, room_for, seat_gone, seat_kept}
use Rattle.desk.specs.Limits.{most_tickets}
use Rattle.desk.specs.Shared.{records_for}

module _ {Left : Type 0} (w : World) (v : Inv Left w) (s : Serial) (i : ℕ) (ei : i ≡ room_of w.desk.tickets s) (hi : i < most_tickets)
    (p : Reached (with_ticket w.desk i free_ticket))
    (k : ℕ) (hk : k < length w.accounts) (ek : s.0 ≡ suc k) where
  abbrev rooms : List Ticket
  rooms = w.desk.tickets

  abbrev after : World
  after = with_accounts w (with_ticket w.desk i free_ticket) (on_serial s.0 shut w.accounts)

  count : length after.accounts ≡ length w.accounts
  count = on_serial-length s.0 shut w.accounts

  mine : is_for s (ticket_in rooms i) ≡ true
  mine = subst (λ (j : ℕ). is_for s (ticket_in rooms j) ≡ true) (sym ei) (room_for rooms (wide w v) s (omega (arith, ei)))

  each : (P : ℕ → Account → Type 0) → ((j : ℕ) → j < length w.accounts → (j ≡ k → ⊥) → P j (account_at w j)) → P k (shut (account_at w k))
      → (j : ℕ) → j < length after.accounts → P j (account_at after j)
  each = changed_each w v s k hk ek shut

  -- another serial keeps its room
  apart : (j : ℕ) → j < length w.accounts → (j ≡ k → ⊥) → is_for (serial_of (account_at w j).serial) (ticket_in rooms i) ≡ false
  apart j h n = for_other s (serial_of (account_at w j).serial) (ticket_in rooms i) mine (λ e. n (omega (arith, e, ek, v.numbered j h)))

  gone : Seat Left (set rooms i free_ticket) (shut (account_at w k))
  gone =
      no_seat refl
      (subst (λ (n : Serial). most_tickets ≤ room_of (set rooms i free_ticket) n) (λ d. record { 0 = (ek ∙ sym (v.numbered k hk)) d })
      (seat_gone rooms (wide w v) s i (unique w v) ei hi))

  pub inv_closed : Inv Left after
  inv_closed = record {
    reached = p;
    serials = count ∙ v.serials;
    numbered = each (λ j a. a.serial ≡ suc j) (λ j h n. v.numbered j h) (v.numbered k hk);
    edition = v.edition;
    force = v.force;
    kept = each (λ j a. Kept w.edition w.tags a) (λ j h n. v.kept j h) (same_kept (v.kept k hk));
    seats = each (λ j a. Seat Left (set rooms i free_ticket) a)
        (λ j h n. seat_kept rooms (wide w v) i free_ticket hi (account_at w j) (apart j h n) refl (v.seats j h)) gone;
    records = λ l. each (λ j a. records_for (suc j) (stream w) ≡ records_due a) (λ j h n. v.records l j h) (v.records l k hk);
    nobody = λ n h. v.nobody n (subst (λ (c : ℕ). Stranger c n) count h);
  }
    where
      same_kept : Kept w.edition w.tags (account_at w k) → Kept w.edition w.tags (shut (account_at w k))
      same_kept a = record { from = a.from; upto = a.upto; current = a.current; lawful = a.lawful; bytes = a.bytes; small = a.small }

pub inv_closes : {Left : Type 0} (w : World) (s : Serial) → Inv Left w → Inv Left (step w (call_close s))
inv_closes {Left} w s v = go _ (closes w.desk s) (by_call v.reached (call_close s))
  where
    go : (r : Closing) → Closes w.desk s r → Reached r.desk → Inv Left (closing w s r.desk r.answer)
    go r (close_no-ticket h) p = v
    go r (close_done i e h) p = let g = given w v s (omega (arith, e)) in inv_closed w v s i e h p g.0 g.1 g.2
