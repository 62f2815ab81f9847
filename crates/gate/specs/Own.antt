-- EVERY RECORD TO ITS OWN TICKET: where the list is emptied, each record that was held sets its bit in what is kept for the room of its own
-- serial, and in no other; a record whose serial has no room sets none; and no record is held then.
use Rattle.std.specs.Prelude.{ℕ, ◌≤◌, false, true, List, [], ◌∷◌, ◌++◌, ◌≡◌, length}
use Rattle.std.proofs.Common.{subst, sym}
use Rattle.desk.proofs.Laws.Good.{good}
use Rattle.desk.specs.Reached.{Reached}
use Rattle.desk.specs.Rooms.{Apart, is_held, room_of, serial_of, ticket_in}
use Rattle.desk.specs.Shared.{held, records_for}
use Rattle.desk.specs.declared.Desk.{Desk}
use Rattle.desk.specs.declared.Record.{Record}
use Rattle.desk.specs.declared.Ticket.{Ticket}
use Rattle.gate.specs.Bits.{with_bits}
use Rattle.gate.specs.Feeding.{emptied_of}
use Rattle.gate.specs.Laws.Own.{all-oldest, noted-free, noted-length, noted-nowhere, noted-own, noted-unread, none-held}
use Rattle.gate.specs.Noting.{noted, seen_in}
use Rattle.gate.specs.declared.Gate.{Gate}
use Rattle.gate.specs.declared.Seen.{Seen}
use Rattle.desk.specs.Limits.{most_records, most_tickets}
use Rattle.desk.proofs.Laws.Apart.{reached-apart}

-- a gate's masks and a desk: 16 of each, no two rooms held under one serial, and at most 256 records held
pub record Roomed (g : Gate) (d : Desk) : Type 0 where
  pub masks : length g.seen ≡ most_tickets
  pub rooms : length d.tickets ≡ most_tickets
  pub apart : Apart d.tickets
  pub most : d.records.count ≤ most_records

-- so is a gate with its 16 masks and every desk that the calls make
pub reached_roomed : (g : Gate) (d : Desk) → length g.seen ≡ most_tickets → Reached d → Roomed g d
reached_roomed g d w r = record { masks = w; rooms = (good r).rooms; apart = reached-apart r; most = (good r).count }

-- what is kept for some rooms, before some records were noted and after
pub record ToTheirOwn (rooms : List Ticket) (before after : List Seen) (records : List Record) : Type 0 where
  -- for a room that is held: the mask from before, with the bits of the records of its serial set, and of no others
  pub own : (i : ℕ) → is_held (ticket_in rooms i) ≡ true → (seen_in after i).mask ≡ with_bits (seen_in before i).mask
      (records_for (ticket_in rooms i).serial.0 records)
  -- for a free room: all as before
  pub free : (i : ℕ) → is_held (ticket_in rooms i) ≡ false → seen_in after i ≡ seen_in before i
  -- for any room: unread or not, as before
  pub unread : (i : ℕ) → (seen_in after i).unread ≡ (seen_in before i).unread
  pub kept : length after ≡ length before

-- the list emptied: the records that were held are noted, each with its own
pub emptied-own : (g : Gate) (d : Desk) → Roomed g d → ToTheirOwn d.tickets g.seen (emptied_of g d).seen (held d.records)
emptied-own g d p =
    subst (λ (l : List Record). ToTheirOwn d.tickets g.seen (noted d.tickets g.seen l) (held d.records)) (sym (all-oldest d p.most))
    (record {
      own = noted-own d.tickets p.rooms p.apart g.seen (held d.records) p.masks;
      free = noted-free d.tickets p.rooms g.seen (held d.records) p.masks;
      unread = noted-unread d.tickets g.seen (held d.records);
      kept = noted-length d.tickets g.seen (held d.records);
    })

-- a record of a serial that has no room, wherever it stands among others, is noted nowhere: all is kept as if it were not there
pub nowhere : (rooms : List Ticket) (seen : List Seen) (before : List Record) (r : Record) (after : List Record) → length seen ≡ most_tickets
    → most_tickets ≤ room_of rooms (serial_of r.serial.0) → noted rooms seen (before ++ r ∷ after) ≡ noted rooms seen (before ++ after)
nowhere = noted-nowhere

-- no record is held then, and the tickets are as before
pub emptied-none : (g : Gate) (d : Desk) → d.records.count ≤ most_records
    → (held (emptied_of g d).desk.records ≡ []) × ((emptied_of g d).desk.tickets ≡ d.tickets)
emptied-none = none-held
