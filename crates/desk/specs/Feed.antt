-- Feeding a piece to one ticket.
use Rattle.desk.specs.Given.{FeedAnswer, Feeding}
use Rattle.std.specs.Prelude.{ℕ, ◌+◌, ◌-◌, Bool, true, false, eqb, ltb, length, Ok, Err}
use Rattle.matching.specs.Words.{Word}
use Rattle.matching.specs.Reading.{Outcome}
use Rattle.matching.specs.declared.Stop.TheVariants.{Damaged}
use Rattle.desk.specs.Calls.{with_records, with_ticket}
use Rattle.desk.specs.Rooms.{ticket_in, room_of}
use Rattle.desk.specs.Shared.{records_of, push_all}
use Rattle.desk.specs.declared.Serial.{Serial}
use Rattle.desk.specs.declared.Ticket.{Ticket}
use Rattle.desk.specs.declared.Desk.{Desk}
use Rattle.desk.specs.declared.FeedRefusal.TheVariants as F
use Rattle.desk.specs.Layout.{Lent, desk_read, lent_fits, place_fits, sizes_of}
use Rattle.desk.specs.Limits.{most_records, most_tickets}
use Rattle.matching.specs.Limits.{largest}
use Rattle.desk.specs.declared.Advance.{Advance}
use Rattle.matching.specs.declared.Stop.{Stop}

-- the reading of a piece for a ticket, into the room that the list has left
abbrev pub read_for : Desk → Ticket → Lent → Word → Outcome
read_for d t table piece = desk_read d.slots table t.place t.taken (most_records - d.records.count) piece

-- the ticket after a reading
abbrev pub read_on : Ticket → Outcome → Ticket
read_on t r = record { serial = t.serial; edition = t.edition; taken = t.taken + r.taken; place = r.place }

-- what a feed answers that is not refused: the bytes taken, the records added, and why it stopped
abbrev pub advance : ℕ → ℕ → Stop → Advance
advance taken records stop = record { taken = taken; records = records; stop = stop }

-- the desk after a reading for the ticket in room i: the records have the ticket's serial and edition
abbrev pub fed_by : Desk → ℕ → Ticket → Outcome → Feeding
fed_by d i t r = record {
  desk = with_records (with_ticket d i (read_on t r)) (push_all d.records (records_of t.serial t.edition r.found));
  answer = Ok (advance r.taken (length r.found) r.stop);
}

-- by whether the serial has a room, whether its ticket is of the edition in force, whether each run has the slots of the last
-- replacement, whether the bytes taken and the piece pass 4,294,967,295, and whether the ticket's states are below the slots, as those of
-- a desk that the calls have made always are
abbrev pub feed_by : Desk → ℕ → Ticket → Lent → Word → Bool → Bool → Bool → Bool → Bool → Feeding
feed_by d i t table piece false ours same long below = record { desk = d; answer = Err F.NoTicket }
feed_by d i t table piece true false same long below = record { desk = d; answer = Err (F.Stale t.edition) }
feed_by d i t table piece true true false long below = record { desk = d; answer = Ok (advance 0 0 Damaged) }
feed_by d i t table piece true true true true below = record { desk = d; answer = Err F.Long }
feed_by d i t table piece true true true false false = record { desk = d; answer = Ok (advance 0 0 Damaged) }
feed_by d i t table piece true true true false true = fed_by d i t (read_for d t table piece)

-- for the ticket in room i, once nothing refuses it
abbrev pub read_in : Desk → ℕ → Ticket → Lent → Word → Feeding
read_in d i t table piece = feed_by d i t table piece true true true false (place_fits (sizes_of table) d.slots t.place)

-- with the room that the serial has
abbrev pub feed_in : Desk → ℕ → Lent → Word → Feeding
feed_in d i table piece =
    feed_by d i (ticket_in d.tickets i) table piece
    (ltb i most_tickets)
    (eqb (ticket_in d.tickets i).edition.0 d.edition.0)
    (lent_fits (sizes_of table) d.slots)
    (ltb largest ((ticket_in d.tickets i).taken + length piece))
    (place_fits (sizes_of table) d.slots (ticket_in d.tickets i).place)

unfoldable pub feed_of : Desk → Serial → Lent → Word → Feeding
feed_of d s table piece = feed_in d (room_of d.tickets s) table piece

-- the bytes that a feed took; none where it was refused
abbrev pub taken_by : FeedAnswer → ℕ
taken_by (Ok a) = a.taken
taken_by (Err why) = 0
