-- The rooms of every desk that calls have made tell serials apart, whatever tables its feeds were lent.
use Rattle.desk.specs.Given.{Opening, Feeding, Closing, Taking, Replacing}
use Rattle.std.specs.Prelude.{ℕ, ◌+◌, ◌<◌, ◌≤◌, true, List, ◌≡◌, length, set}
use Rattle.std.proofs.lemmas.Bool.{false≢true}
use Rattle.std.proofs.Common.{◌∙◌, ap, subst, sym, arith}
use Rattle.std.proofs.Math.Decide.{ℕ_discrete}
use Rattle.desk.specs.Feed.{read_for, read_on}
use Rattle.desk.specs.Laws.Good.{set_places}
use Rattle.desk.specs.Laws.Rooms.{set_other, set_same}
use Rattle.desk.specs.Laws.Views.{Closes, close_done, close_no-ticket}
use Rattle.desk.specs.Laws.Views.{Feeds, feed_long, feed_no-place, feed_no-ticket, feed_other-slots, feed_read, feed_stale}
use Rattle.desk.specs.Laws.Views.{Opens, open_done, open_no-room, open_no-set, open_serial-end}
use Rattle.desk.specs.Laws.Views.{Replaces, replace_done, replace_edition-end, replace_fault, replace_table}
use Rattle.desk.specs.Laws.Views.{Takes, take-nothing, take-oldest}
use Rattle.desk.specs.Rooms.{Apart, free_ticket, is_held, new_ticket, serial_of, ticket_in}
use Rattle.desk.specs.declared.Desk.{Desk}
use Rattle.desk.specs.declared.Serial.{Serial}
use Rattle.desk.specs.declared.Ticket.{Ticket}
use Rattle.matching.specs.Words.{Word}
use Rattle.desk.specs.Layout.{Lent, Order, Sizes}
use Rattle.desk.specs.Limits.{most_tickets}

-- no room is held under a serial that was not given yet, and no two under one
pub record Told (d : Desk) : Type 0 where
  pub given : (i : ℕ) → is_held (ticket_in d.tickets i) ≡ true → (ticket_in d.tickets i).serial.0 ≤ d.serial.0
  pub apart : Apart d.tickets

-- one room set, with a serial that no other room has
apart-set : (rooms : List Ticket) (i : ℕ) (t : Ticket) → i < length rooms → Apart rooms
    → ((j : ℕ) → (j ≡ i → ⊥) → is_held (ticket_in rooms j) ≡ true → is_held t ≡ true → (ticket_in rooms j).serial.0 ≡ t.serial.0 → ⊥) → Apart (set rooms i t)
apart-set rooms i t h u f a b ha hb e = go (ℕ_discrete a i) (ℕ_discrete b i)
  where
    now : ℕ → Ticket
    now j = ticket_in (set rooms i t) j

    at_i : (j : ℕ) → j ≡ i → now j ≡ t
    at_i j q = ap (λ (x : ℕ). ticket_in (set rooms i t) x) q ∙ set_same rooms i t h

    off-i : (j : ℕ) → (j ≡ i → ⊥) → now j ≡ ticket_in rooms j
    off-i j n = set_other rooms i j t n

    still : {x y : Ticket} → x ≡ y → is_held x ≡ true → is_held y ≡ true
    still q k = subst (λ (x : Ticket). is_held x ≡ true) q k

    its : {x y : Ticket} → x ≡ y → x.serial.0 ≡ y.serial.0
    its q = ap (λ (x : Ticket). x.serial.0) q

    go : Dec (a ≡ i) → Dec (b ≡ i) → a ≡ b
    go (yes p) (yes q) = p ∙ sym q
    go (yes p) (no q) = absurd (f b q (still (off-i b q) hb) (still (at_i a p) ha) (sym (its (off-i b q)) ∙ sym e ∙ its (at_i a p)))
    go (no p) (yes q) = absurd (f a p (still (off-i a p) ha) (still (at_i b q) hb) (sym (its (off-i a p)) ∙ e ∙ its (at_i b q)))
    go (no p) (no q) = u a b (still (off-i a p) ha) (still (off-i b q) hb) (sym (its (off-i a p)) ∙ e ∙ its (off-i b q))

module _ (d : Desk) (wide : length d.tickets ≡ most_tickets) (k : Told d) where
  pub told_opens : (r : Opening) → Opens d r → Told r.desk
  told_opens r (open_no-set a) = k
  told_opens r (open_serial-end a b) = k
  told_opens r (open_no-room a b c) = k
  told_opens r (open_done a b i e h) = record {
    given =
        set_places (λ (t : Ticket). t.serial.0 ≤ d.serial.0 + 1) d.tickets i (new_ticket (serial_of (d.serial.0 + 1)) d.edition)
        (λ j q. omega (arith, k.given j q)) (λ _. omega arith);
    apart =
        apart-set d.tickets i (new_ticket (serial_of (d.serial.0 + 1)) d.edition) (omega (arith, wide, h)) k.apart
        (λ j n q _ z. omega (arith, k.given j q, z));
  }

  pub told_closes : (s : Serial) (r : Closing) → Closes d s r → Told r.desk
  told_closes s r (close_no-ticket h) = k
  told_closes s r (close_done i e h) = record {
    given = set_places (λ (t : Ticket). t.serial.0 ≤ d.serial.0) d.tickets i free_ticket k.given (λ q. absurd (false≢true q));
    apart = apart-set d.tickets i free_ticket (omega (arith, wide, h)) k.apart (λ j n q z _. false≢true z);
  }

  pub told_takes : (r : Taking) → Takes d r → Told r.desk
  told_takes r (take-nothing e) = k
  told_takes r (take-oldest h) = record { given = k.given; apart = k.apart }

  pub told_replaces : (order : Order) (len : Sizes) (r : Replacing) → Replaces d order len r → Told r.desk
  told_replaces order len r (replace_fault fault e) = k
  told_replaces order len r (replace_table machine needs e) = k
  told_replaces order len r (replace_edition-end count e l) = k
  told_replaces order len r (replace_done count e l) = record { given = k.given; apart = k.apart }

  pub told_feeds : (i : ℕ) (table : Lent) (piece : Word) (r : Feeding) → (i < most_tickets → is_held (ticket_in d.tickets i) ≡ true) → Feeds d i table piece r
      → Told r.desk
  told_feeds i table piece r f (feed_no-ticket a) = k
  told_feeds i table piece r f (feed_stale a b) = k
  told_feeds i table piece r f (feed_other-slots a b c) = k
  told_feeds i table piece r f (feed_long a b c l) = k
  told_feeds i table piece r f (feed_no-place a b c l n) = k
  told_feeds i table piece r f (feed_read a b c l) =
      let t = ticket_in d.tickets i in
      let after = read_on t (read_for d t table piece) in
      record {
        given = set_places (λ (x : Ticket). x.serial.0 ≤ d.serial.0) d.tickets i after k.given (λ _. k.given i (f a));
        apart = apart-set d.tickets i after (omega (arith, wide, a)) k.apart (λ j n q _ z. n (k.apart j i q (f a) z));
      }
