-- The rooms of every desk that calls have made tell serials apart, whatever tables its feeds were lent.
use Rattle.std.specs.Prelude.{ℕ, zero, suc, ◌<◌, ◌≤◌, false, true, ◌≡◌, refl, replicate, ◌⊎◌}
use Rattle.std.proofs.Common.{◌∙◌, sym, arith, inl, inr, eq-eqb}
use Rattle.std.proofs.Math.Decide.{dec_le}
use Rattle.desk.specs.Calls.{new_desk}
use Rattle.desk.specs.Laws.Good.{room-held}
use Rattle.desk.proofs.Laws.Good.{good}
use Rattle.desk.specs.Laws.Rooms.{for_held, free-held}
use Rattle.desk.specs.Laws.Views.{closes}
use Rattle.desk.proofs.Laws.Views.{feeds}
use Rattle.desk.specs.Laws.Views.{opens}
use Rattle.desk.specs.Laws.Views.{replaces}
use Rattle.desk.specs.Laws.Views.{takes}
use Rattle.desk.specs.Reached.{Reached, by_call, call_close, call_feed, call_open, call_replace, call_take, from_new}
use Rattle.desk.specs.Rooms.{Apart, free_ticket, is_for, is_held, room_of, ticket_in}
use Rattle.desk.specs.declared.Desk.{Desk}
use Rattle.desk.specs.declared.Serial.{Serial}
use Rattle.desk.specs.declared.Ticket.{Ticket}
use Rattle.matching.specs.Laws.Bools.{not-both}
use Rattle.desk.specs.Layout.{Kind, sizes_of}
use Rattle.desk.specs.Limits.{most_tickets}
use Rattle.desk.specs.Laws.Apart.{Told, told_opens, told_closes, told_takes, told_replaces, told_feeds}

none : (n i : ℕ) → is_held (ticket_in (replicate n free_ticket) i) ≡ false
none zero i = refl
none (suc n) zero = refl
none (suc n) (suc i) = none n i

told-new : (kind : Kind) → Told (new_desk kind)
told-new kind = record { given = λ i h. absurd (not-both h (none most_tickets i)); apart = λ i j h k e. absurd (not-both h (none most_tickets i)) }

told : {d : Desk} → Reached d → Told d
told (from_new kind) = told-new kind
told (by_call {d = d} r (call_replace order run)) = told_replaces d (good r).rooms (told r) order (sizes_of run) _ (replaces d order (sizes_of run))
told (by_call {d = d} r call_open) = told_opens d (good r).rooms (told r) _ (opens d)
told (by_call {d = d} r (call_feed s table piece)) =
    told_feeds d (good r).rooms (told r) (room_of d.tickets s) table piece _
    (λ h. (for_held s (ticket_in d.tickets (room_of d.tickets s)) (room-held d s (good r) h)).0) (feeds d s table piece)
told (by_call {d = d} r (call_close s)) = told_closes d (good r).rooms (told r) s _ (closes d s)
told (by_call {d = d} r call_take) = told_takes d (good r).rooms (told r) _ (takes d)

pub reached-apart : {d : Desk} → Reached d → Apart d.tickets
reached-apart r = (told r).apart

-- a serial's room is the only one that it has
pub reached_unique : {d : Desk} → Reached d → (s : Serial) (i j : ℕ) → is_for s (ticket_in d.tickets i) ≡ true
    → is_for s (ticket_in d.tickets j) ≡ true → i ≡ j
reached_unique {d} r s i j h k =
    let a = for_held s (ticket_in d.tickets i) h in
    let b = for_held s (ticket_in d.tickets j) k in
    reached-apart r i j a.0 b.0 (a.1 ∙ sym b.1)

-- a serial that was not given has no room
pub unknown_room : {d : Desk} → Reached d → (s : Serial) → (s.0 ≡ 0) ⊎ (d.serial.0 < s.0) → most_tickets ≤ room_of d.tickets s
unknown_room {d} r s z = go (dec_le most_tickets (room_of d.tickets s)) z
  where
    go : Dec (most_tickets ≤ room_of d.tickets s) → (s.0 ≡ 0) ⊎ (d.serial.0 < s.0) → most_tickets ≤ room_of d.tickets s
    go (yes h) z = h
    go (no h) z = absurd (known z)
      where
        t : Ticket
        t = ticket_in d.tickets (room_of d.tickets s)

        its : (is_held t ≡ true) × (t.serial.0 ≡ s.0)
        its = for_held s t (room-held d s (good r) (omega arith))

        known : (s.0 ≡ 0) ⊎ (d.serial.0 < s.0) → ⊥
        known (inl e) = not-both its.0 (free-held t (eq-eqb t.serial.0 0 (its.1 ∙ e)))
        known (inr e) = omega (arith, e, its.1, (told r).given (room_of d.tickets s) its.0)
