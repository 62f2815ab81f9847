-- The state of a ticket: what the desk tells of a serial. It changes nothing.
use Rattle.std.specs.Prelude.{ℕ, Bool, ◌&&◌, false, not, true, eqb, ltb}
use Rattle.desk.specs.Rooms.{room_of, ticket_in}
use Rattle.desk.specs.declared.Desk.{Desk}
use Rattle.desk.specs.declared.Edition.{Edition}
use Rattle.desk.specs.declared.Serial.{Serial}
use Rattle.desk.specs.declared.StateAnswer.{StateAnswer}
use Rattle.desk.specs.declared.StateAnswer.TheVariants as A
use Rattle.desk.specs.Limits.{most_tickets}

-- openings give 1, 2, .. up to the last serial
abbrev pub is_given : Serial → Serial → Bool
is_given s last = not (eqb s.0 0) && not (ltb last.0 s.0)

-- without a room, by whether the serial was given
abbrev pub gone_by : Bool → StateAnswer
gone_by true = A.Closed
gone_by false = A.Never

-- with a room, by whether its ticket is of the edition in force: the ticket's edition and the bytes taken for it
abbrev pub held_by : Edition → ℕ → Bool → StateAnswer
held_by e n true = A.Open e n
held_by e n false = A.Stale e n

-- by whether the serial has a room, whether its ticket is of the edition in force, and whether the serial was given
abbrev pub state_by : Edition → ℕ → Bool → Bool → Bool → StateAnswer
state_by e n true current given = held_by e n current
state_by e n false current given = gone_by given

-- with the room that the serial has
abbrev pub state_in : Desk → Serial → ℕ → StateAnswer
state_in d s i =
    state_by (ticket_in d.tickets i).edition (ticket_in d.tickets i).taken
    (ltb i most_tickets)
    (eqb (ticket_in d.tickets i).edition.0 d.edition.0)
    (is_given s d.serial)

unfoldable pub state_of : Desk → Serial → StateAnswer
state_of d s = state_in d s (room_of d.tickets s)
