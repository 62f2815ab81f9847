-- The conditions under which each call is refused, in the rules' words; the grounds in their order; and for each number exactly when it
-- is given: its condition holds and none earlier in the order does.
use Rattle.desk.specs.Given.{OpenAnswer, FeedAnswer, CloseAnswer, TakeAnswer, ReplaceAnswer, replaced_as}
use Rattle.std.specs.Prelude.{ℕ, ◌+◌, ◌<◌, not, List, [], ◌∷◌, ◌↔◌, ◌≡◌, eqb, ltb, length, Ok, Some}
use Rattle.matching.specs.Refusal.{Ground, ◌if◌}
use Rattle.matching.specs.Words.{Word}
use Rattle.desk.specs.Rooms.{serial_of, edition_of, ticket_in, room_of, tickets_held}
use Rattle.desk.specs.Shared.{held}
use Rattle.desk.specs.Numbers.{replace_number, replace_values, open_number, feed_number, close_number, take_number}
use Rattle.desk.specs.declared.Serial.{Serial}
use Rattle.desk.specs.declared.Edition.{Edition}
use Rattle.desk.specs.declared.Ticket.{Ticket}
use Rattle.desk.specs.declared.Record.{Record}
use Rattle.desk.specs.declared.Desk.{Desk}
use Rattle.desk.specs.Layout.{DeskAnswers, DeskBuilds, Fits, Lent, lent_fits, Order, Sizes, sizes_of}
use Rattle.desk.specs.Limits.{most_tickets}
use Rattle.matching.specs.Limits.{largest}

-- no set was ever accepted
abbrev pub NoSet : Desk → Type 0
NoSet d = d.edition.0 ≡ 0

-- the largest serial is given
abbrev pub LastSerial : Desk → Type 0
LastSerial d = d.serial.0 ≡ largest

-- 16 tickets are open or stale
abbrev pub AllHeld : Desk → Type 0
AllHeld d = tickets_held d.tickets ≡ most_tickets

-- the edition is the largest
abbrev pub LastEdition : Desk → Type 0
LastEdition d = d.edition.0 ≡ largest

-- a ticket with this serial, open or stale, has a room
abbrev pub HasRoom : Desk → Serial → Type 0
HasRoom d s = room_of d.tickets s < most_tickets

-- that ticket
abbrev pub ticket_of : Desk → Serial → Ticket
ticket_of d s = ticket_in d.tickets (room_of d.tickets s)

-- it is of the edition in force
abbrev pub Current : Desk → Serial → Type 0
Current d s = (ticket_of d s).edition.0 ≡ d.edition.0

-- each run that is lent has the slot count of the last replacement
abbrev pub SameSlots : Desk → Lent → Type 0
SameSlots d table = Fits (sizes_of table) d.slots

-- the bytes taken and the piece pass 4,294,967,295
abbrev pub TooLong : Desk → Serial → Word → Type 0
TooLong d s piece = largest < (ticket_of d s).taken + length piece

-- the list is empty
abbrev pub NoneHeld : Desk → Type 0
NoneHeld d = d.records.count ≡ 0

-- ---- the grounds for refusing each call, in their order

abbrev pub open_grounds : Desk → List Ground
open_grounds d = (9 if eqb d.edition.0 0) ∷ (10 if eqb d.serial.0 largest) ∷ (11 if eqb (tickets_held d.tickets) most_tickets) ∷ []

-- a run of another slot count is a stop and no refusal, so it has number 0; but it comes before LONG
abbrev pub feed_grounds : Desk → Serial → Lent → Word → List Ground
feed_grounds d s table piece =
    (12 if not (ltb (room_of d.tickets s) most_tickets))
    ∷ (13 if not (eqb (ticket_of d s).edition.0 d.edition.0))
    ∷ (0 if not (lent_fits (sizes_of table) d.slots))
    ∷ (14 if ltb largest ((ticket_of d s).taken + length piece))
    ∷ []

abbrev pub close_grounds : Desk → Serial → List Ground
close_grounds d s = (12 if not (ltb (room_of d.tickets s) most_tickets)) ∷ []

abbrev pub take_grounds : Desk → List Ground
take_grounds d = (16 if eqb d.records.count 0) ∷ []

-- ---- each number, exactly

-- open: 9, 10, 11; else the next serial
pub record OpenExact (d : Desk) (a : OpenAnswer) : Type 0 where
  pub no-set : (open_number a ≡ 9) ↔ NoSet d
  pub last_serial : (open_number a ≡ 10) ↔ ((NoSet d → ⊥) × LastSerial d)
  pub no_room : (open_number a ≡ 11) ↔ ((NoSet d → ⊥) × (LastSerial d → ⊥) × AllHeld d)
  pub opened : (s : Serial) → (a ≡ Ok s) ↔ ((NoSet d → ⊥) × (LastSerial d → ⊥) × (AllHeld d → ⊥) × (s ≡ serial_of (d.serial.0 + 1)))

-- feed: 12, 13, then a run of another slot count, which is a stop and no refusal, then 14; else none. What is answered then: `other-slots`, and
-- `feed_reads`
pub record FeedExact (d : Desk) (s : Serial) (table : Lent) (piece : Word) (a : FeedAnswer) : Type 0 where
  pub no-ticket : (feed_number a ≡ 12) ↔ (HasRoom d s → ⊥)
  pub stale : (feed_number a ≡ 13) ↔ (HasRoom d s × (Current d s → ⊥))
  pub long : (feed_number a ≡ 14) ↔ (HasRoom d s × Current d s × SameSlots d table × TooLong d s piece)
  pub fed : (feed_number a ≡ 0) ↔ (HasRoom d s × Current d s × (SameSlots d table → TooLong d s piece → ⊥))

-- close: 12; a stale ticket is closed like any
pub record CloseExact (d : Desk) (s : Serial) (a : CloseAnswer) : Type 0 where
  pub no-ticket : (close_number a ≡ 12) ↔ (HasRoom d s → ⊥)
  pub closed : (close_number a ≡ 0) ↔ HasRoom d s

-- take: 16; else the oldest of the records held
pub record TakeExact (d : Desk) (a : TakeAnswer) : Type 0 where
  pub nothing : (take_number a ≡ 16) ↔ NoneHeld d
  pub taken : (r : Record) → (a ≡ Some r) ↔ ((rest : List Record) × (held d.records ≡ r ∷ rest))

-- replace: set faults and TABLE with their values, as building gives them; then 8; else the next edition and the number of tags
pub record ReplaceExact (d : Desk) (order : Order) (len : Sizes) (a : ReplaceAnswer) : Type 0 where
  pub building : (n : ℕ) (values : List ℕ) → 0 < n → n < 8 → ((replace_number a ≡ n) × (replace_values a ≡ values)) ↔ DeskAnswers order len n values
  pub last_edition : (replace_number a ≡ 8) ↔ (((count : ℕ) × DeskBuilds order len count) × LastEdition d)
  pub replaced : (e : Edition) (count : ℕ) → (a ≡ Ok (replaced_as e count)) ↔
      (DeskBuilds order len count × (LastEdition d → ⊥) × (e ≡ edition_of (d.edition.0 + 1)))
