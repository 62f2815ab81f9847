-- What the code looks for in a room.
use Rattle.std.specs.Prelude.{Bool}
use Rattle.desk.specs.Rooms.{is_free, is_for}
use Rattle.desk.specs.declared.Ticket.{Ticket}
use Rattle.desk.specs.declared.rooms.Wanted.{Wanted}
use Rattle.desk.specs.declared.rooms.Wanted.TheVariants.{Free, For}

abbrev pub is_wanted : Wanted → Ticket → Bool
is_wanted Free = is_free
is_wanted (For s) = is_for s
