-- What each call gives: the desk after it, and its answer, which is what was asked for, or else why it is refused.
use Rattle.std.specs.Prelude.{ℕ, Option, Result}
use Rattle.desk.specs.declared.Advance.{Advance}
use Rattle.desk.specs.declared.After.{After}
use Rattle.desk.specs.declared.Edition.{Edition}
use Rattle.desk.specs.declared.FeedRefusal.{FeedRefusal}
use Rattle.desk.specs.declared.NoTicket.{NoTicket}
use Rattle.desk.specs.declared.OpenRefusal.{OpenRefusal}
use Rattle.desk.specs.declared.Record.{Record}
use Rattle.desk.specs.declared.ReplaceRefusal.{ReplaceRefusal}
use Rattle.desk.specs.declared.Replaced.{Replaced}
use Rattle.desk.specs.declared.Serial.{Serial}

-- a replacement: the next edition and the number of tags
abbrev pub ReplaceAnswer : Type 0
ReplaceAnswer = Result Replaced ReplaceRefusal

abbrev pub Replacing : Type 0
Replacing = After ReplaceAnswer

abbrev pub replaced_as : Edition → ℕ → Replaced
replaced_as edition tags = record { edition = edition; tags = tags }

-- an opening: the serial of the new ticket
abbrev pub OpenAnswer : Type 0
OpenAnswer = Result Serial OpenRefusal

abbrev pub Opening : Type 0
Opening = After OpenAnswer

-- a feed: the bytes taken, the records added, and why it stopped
abbrev pub FeedAnswer : Type 0
FeedAnswer = Result Advance FeedRefusal

abbrev pub Feeding : Type 0
Feeding = After FeedAnswer

-- a closing, which gives nothing
abbrev pub CloseAnswer : Type 0
CloseAnswer = Result (Unit {0}) NoTicket

abbrev pub Closing : Type 0
Closing = After CloseAnswer

abbrev pub not_held : NoTicket
not_held = record {}

-- a taking: the oldest record, where there is one
abbrev pub TakeAnswer : Type 0
TakeAnswer = Option Record

abbrev pub Taking : Type 0
Taking = After TakeAnswer

-- a taking of many: how many
abbrev pub TakingMany : Type 0
TakingMany = After ℕ
