-- Each call by its cases, with what holds in each: shown once, and every fact about a call goes by these cases.
use Rattle.desk.specs.Given.{Opening, Feeding, Closing, Taking, Replacing, not_held, replaced_as}
use Rattle.desk.specs.declared.ReplaceRefusal.TheVariants as R
use Rattle.desk.specs.declared.OpenRefusal.TheVariants as O
use Rattle.desk.specs.declared.FeedRefusal.TheVariants as F
use Rattle.desk.specs.declared.StateAnswer.TheVariants as A
use Rattle.tables.specs.declared.BuildFault.TheVariants as B
use Rattle.std.specs.Prelude.{◌%◌, ◌+◌, ◌<◌, ◌≤◌, suc, zero, ℕ, Bool, ◌&&◌, false, not, true, ◌⊎◌, ◌≡◌, refl, eqb, ltb, get_or, length, Ok, Err, Some, None}
use Rattle.std.proofs.Common.{true≢false, inl, inr, arith, eqb-true, ltb-false, ltb-true}
use Rattle.std.proofs.lemmas.Bool.{eqb-false, not-true}
use Rattle.desk.specs.Calls.{close_by, close_of, open_by, open_of, opened_in, take_by, take_of, with_records, with_ticket}
use Rattle.desk.specs.Feed.{advance, fed_by, feed_by, feed_in, read_for}
use Rattle.desk.specs.Replace.{replace_by, replace_of, under_next}
use Rattle.desk.specs.Rooms.{edition_of, free_room, free_ticket, room_of, serial_of, ticket_in}
use Rattle.desk.specs.Shared.{no_record, popped}
use Rattle.desk.specs.State.{is_given, state_by, state_of}
use Rattle.desk.specs.declared.Desk.{Desk}
use Rattle.desk.specs.declared.Serial.{Serial}
use Rattle.desk.specs.declared.StateAnswer.{StateAnswer}
use Rattle.desk.specs.declared.Ticket.{Ticket}
use Rattle.matching.specs.Laws.Bools.{and_l, and_r}
use Rattle.matching.specs.Words.{Word}
use Rattle.matching.specs.declared.Stop.TheVariants.{Damaged}
use Rattle.tables.specs.Building.{Built}
use Rattle.tagset.specs.declared.SetFault.{SetFault}
use Rattle.desk.specs.Layout.{desk_built, desk_slots, Fits, Lent, lent_fits, Order, place_fits, Sizes, sizes_of}
use Rattle.desk.specs.Laws.Layout.{fits_not, fits_so}
use Rattle.desk.specs.Limits.{most_records, most_tickets}
use Rattle.matching.specs.Limits.{largest}

abbrev pub Not : {A : Type 0} → A → A → Type 0
Not a b = a ≡ b → ⊥

pub data Opens (d : Desk) : Opening → Type 0 where
  open_no-set : d.edition.0 ≡ 0 → Opens d (record { desk = d; answer = Err O.NoSet })
  open_serial-end : Not d.edition.0 0 → d.serial.0 ≡ largest → Opens d (record { desk = d; answer = Err O.SerialEnd })
  open_no-room : Not d.edition.0 0 → Not d.serial.0 largest → most_tickets ≤ free_room d.tickets → Opens d (record { desk = d; answer = Err O.NoRoom })
  open_done : Not d.edition.0 0 → Not d.serial.0 largest → (i : ℕ) → i ≡ free_room d.tickets → i < most_tickets
      → Opens d (record { desk = opened_in d i; answer = Ok (serial_of (d.serial.0 + 1)) })

pub opens : (d : Desk) → Opens d (open_of d)
unfolding open_of
opens d = go _ _ _ refl refl refl
  where
    go : (a b c : Bool) → eqb d.edition.0 0 ≡ a → eqb d.serial.0 largest ≡ b → ltb (free_room d.tickets) most_tickets ≡ c → Opens d (open_by d a b c)
    go true b c p q r = open_no-set (eqb-true _ _ p)
    go false true c p q r = open_serial-end (eqb-false _ _ p) (eqb-true _ _ q)
    go false false false p q r = open_no-room (eqb-false _ _ p) (eqb-false _ _ q) (ltb-false _ _ r)
    go false false true p q r = open_done (eqb-false _ _ p) (eqb-false _ _ q) (free_room d.tickets) refl (ltb-true _ _ r)

pub data Closes (d : Desk) (s : Serial) : Closing → Type 0 where
  close_no-ticket : most_tickets ≤ room_of d.tickets s → Closes d s (record { desk = d; answer = Err not_held })
  close_done : (i : ℕ) → i ≡ room_of d.tickets s → i < most_tickets → Closes d s (record { desk = with_ticket d i free_ticket; answer = Ok tt })

pub closes : (d : Desk) (s : Serial) → Closes d s (close_of d s)
unfolding close_of
closes d s = go _ refl
  where
    go : (a : Bool) → ltb (room_of d.tickets s) most_tickets ≡ a → Closes d s (close_by d s a)
    go true p = close_done (room_of d.tickets s) refl (ltb-true _ _ p)
    go false p = close_no-ticket (ltb-false _ _ p)

pub data Takes (d : Desk) : Taking → Type 0 where
  take-nothing : d.records.count ≡ 0 → Takes d (record { desk = d; answer = None })
  take-oldest : 0 < d.records.count
      → Takes d (record { desk = with_records d (popped d.records); answer = Some (get_or d.records.ring (d.records.first % most_records) no_record) })

pub takes : (d : Desk) → Takes d (take_of d)
unfolding take_of
takes d = go _ refl
  where
    pos : (n : ℕ) → Not n 0 → 0 < n
    pos zero h = absurd (h refl)
    pos (suc n) h = omega arith

    go : (a : Bool) → eqb d.records.count 0 ≡ a → Takes d (take_by d a)
    go true p = take-nothing (eqb-true _ _ p)
    go false p = take-oldest (pos _ (eqb-false _ _ p))

pub data Replaces (d : Desk) (order : Order) (len : Sizes) : Replacing → Type 0 where
  replace_fault : (fault : SetFault) → desk_built order len ≡ Err (B.Set fault) → Replaces d order len (record { desk = d; answer = Err (R.Fault fault) })
  replace_table : (machine needs : ℕ) → desk_built order len ≡ Err (B.Table machine needs)
      → Replaces d order len (record { desk = d; answer = Err (R.Table machine needs) })
  replace_edition-end : (count : ℕ) → desk_built order len ≡ Ok count → d.edition.0 ≡ largest
      → Replaces d order len (record { desk = d; answer = Err R.EditionEnd })
  replace_done : (count : ℕ) → desk_built order len ≡ Ok count → Not d.edition.0 largest
      → Replaces d order len (record { desk = under_next d (desk_slots order len); answer = Ok (replaced_as (edition_of (d.edition.0 + 1)) count) })

pub replaces : (d : Desk) (order : Order) (len : Sizes) → Replaces d order len (replace_of d order len)
unfolding replace_of
replaces d order len = go _ _ refl refl
  where
    go : (b : Built) (e : Bool) → desk_built order len ≡ b → eqb d.edition.0 largest ≡ e → Replaces d order len (replace_by d (desk_slots order len) b e)
    go (Err (B.Set fault)) e p q = replace_fault fault p
    go (Err (B.Table machine needs)) e p q = replace_table machine needs p
    go (Ok count) true p q = replace_edition-end count p (eqb-true _ _ q)
    go (Ok count) false p q = replace_done count p (eqb-false _ _ q)

-- by the room that the serial has
pub data Feeds (d : Desk) (i : ℕ) (table : Lent) (piece : Word) : Feeding → Type 0 where
  feed_no-ticket : most_tickets ≤ i → Feeds d i table piece (record { desk = d; answer = Err F.NoTicket })
  feed_stale : i < most_tickets → Not (ticket_in d.tickets i).edition.0 d.edition.0
      → Feeds d i table piece (record { desk = d; answer = Err (F.Stale (ticket_in d.tickets i).edition) })
  feed_other-slots : i < most_tickets → (ticket_in d.tickets i).edition.0 ≡ d.edition.0 → (Fits (sizes_of table) d.slots → ⊥)
      → Feeds d i table piece (record { desk = d; answer = Ok (advance 0 0 Damaged) })
  feed_long : i < most_tickets → (ticket_in d.tickets i).edition.0 ≡ d.edition.0 → Fits (sizes_of table) d.slots
      → largest < (ticket_in d.tickets i).taken + length piece → Feeds d i table piece (record { desk = d; answer = Err F.Long })
  feed_no-place : i < most_tickets → (ticket_in d.tickets i).edition.0 ≡ d.edition.0 → Fits (sizes_of table) d.slots
      → (ticket_in d.tickets i).taken + length piece ≤ largest → place_fits (sizes_of table) d.slots (ticket_in d.tickets i).place ≡ false
      → Feeds d i table piece (record { desk = d; answer = Ok (advance 0 0 Damaged) })
  feed_read : i < most_tickets → (ticket_in d.tickets i).edition.0 ≡ d.edition.0 → Fits (sizes_of table) d.slots
      → (ticket_in d.tickets i).taken + length piece ≤ largest
      → Feeds d i table piece (fed_by d i (ticket_in d.tickets i) (read_for d (ticket_in d.tickets i) table piece))

pub feeds_in : (d : Desk) (i : ℕ) (table : Lent) (piece : Word) → Feeds d i table piece (feed_in d i table piece)
feeds_in d i table piece = go _ _ _ _ _ refl refl refl refl refl
  where
    go : (a b c e f : Bool) → ltb i most_tickets ≡ a → eqb (ticket_in d.tickets i).edition.0 d.edition.0 ≡ b → lent_fits (sizes_of table) d.slots ≡ c
        → ltb largest ((ticket_in d.tickets i).taken + length piece) ≡ e → place_fits (sizes_of table) d.slots (ticket_in d.tickets i).place ≡ f
        → Feeds d i table piece (feed_by d i (ticket_in d.tickets i) table piece a b c e f)
    go false b c e f p q r u z = feed_no-ticket (ltb-false _ _ p)
    go true false c e f p q r u z = feed_stale (ltb-true _ _ p) (eqb-false _ _ q)
    go true true false e f p q r u z = feed_other-slots (ltb-true _ _ p) (eqb-true _ _ q) (fits_not _ _ r)
    go true true true true f p q r u z = feed_long (ltb-true _ _ p) (eqb-true _ _ q) (fits_so _ _ r) (ltb-true _ _ u)
    go true true true false false p q r u z = feed_no-place (ltb-true _ _ p) (eqb-true _ _ q) (fits_so _ _ r) (ltb-false _ _ u) z
    go true true true false true p q r u z = feed_read (ltb-true _ _ p) (eqb-true _ _ q) (fits_so _ _ r) (ltb-false _ _ u)

pub data States (d : Desk) (s : Serial) : StateAnswer → Type 0 where
  state-never : most_tickets ≤ room_of d.tickets s → (s.0 ≡ 0) ⊎ (d.serial.0 < s.0) → States d s A.Never
  state-closed : most_tickets ≤ room_of d.tickets s → Not s.0 0 → s.0 ≤ d.serial.0 → States d s A.Closed
  state-stale : (t : Ticket) → t ≡ ticket_in d.tickets (room_of d.tickets s) → room_of d.tickets s < most_tickets → Not t.edition.0 d.edition.0
      → States d s (A.Stale t.edition t.taken)
  state_open : (t : Ticket) → t ≡ ticket_in d.tickets (room_of d.tickets s) → room_of d.tickets s < most_tickets → t.edition.0 ≡ d.edition.0
      → States d s (A.Open t.edition t.taken)

pub states : (d : Desk) (s : Serial) → States d s (state_of d s)
unfolding state_of
states d s = go _ _ _ refl refl refl
  where
    t : Ticket
    t = ticket_in d.tickets (room_of d.tickets s)

    neither : (a b : Bool) → eqb s.0 0 ≡ a → ltb d.serial.0 s.0 ≡ b → not a && not b ≡ false → (s.0 ≡ 0) ⊎ (d.serial.0 < s.0)
    neither true b p q r = inl (eqb-true _ _ p)
    neither false true p q r = inr (ltb-true _ _ q)
    neither false false p q r = absurd (true≢false r)

    go : (a b c : Bool) → ltb (room_of d.tickets s) most_tickets ≡ a → eqb t.edition.0 d.edition.0 ≡ b → is_given s d.serial ≡ c
        → States d s (state_by t.edition t.taken a b c)
    go true true c p q r = state_open t refl (ltb-true _ _ p) (eqb-true _ _ q)
    go true false c p q r = state-stale t refl (ltb-true _ _ p) (eqb-false _ _ q)
    go false b true p q r =
        state-closed (ltb-false _ _ p) (eqb-false _ _ (not-true _ (and_l (not (eqb s.0 0)) (not (ltb d.serial.0 s.0)) r)))
        (ltb-false _ _ (not-true _ (and_r (not (eqb s.0 0)) (not (ltb d.serial.0 s.0)) r)))
    go false b false p q r = state-never (ltb-false _ _ p) (neither _ _ refl refl r)
