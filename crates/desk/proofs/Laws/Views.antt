-- Each call by its cases, with what holds in each: shown once, and every fact about a call goes by these cases.
use Rattle.desk.specs.Feed.{feed_of}
use Rattle.desk.specs.Rooms.{room_of}
use Rattle.desk.specs.declared.Desk.{Desk}
use Rattle.desk.specs.declared.Serial.{Serial}
use Rattle.matching.specs.Words.{Word}
use Rattle.desk.specs.Layout.{Lent}
use Rattle.desk.specs.Laws.Views.{Feeds, feeds_in}

pub feeds : (d : Desk) (s : Serial) (table : Lent) (piece : Word) → Feeds d (room_of d.tickets s) table piece (feed_of d s table piece)
unfolding feed_of
feeds d s table piece = feeds_in d (room_of d.tickets s) table piece
