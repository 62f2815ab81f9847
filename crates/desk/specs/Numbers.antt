-- The number of each answer in the rules' table of refusals, 0 where it is none; and its values: what is returned with a refusal, or what
-- the call gives.
use Rattle.desk.specs.Given.{OpenAnswer, FeedAnswer, CloseAnswer, TakeAnswer, ReplaceAnswer}
use Rattle.std.specs.Prelude.{ℕ, List, [], ◌∷◌, Ok, Err, Some, None}
use Rattle.matching.specs.declared.Stop.{Stop}
use Rattle.matching.specs.declared.Stop.TheVariants as S
use Rattle.tagset.specs.Answer.{fault_number, fault_values}
use Rattle.desk.specs.declared.ReplaceRefusal.TheVariants as R
use Rattle.desk.specs.declared.OpenRefusal.TheVariants as O
use Rattle.desk.specs.declared.FeedRefusal.TheVariants as F
use Rattle.desk.specs.declared.StateAnswer.{StateAnswer}
use Rattle.desk.specs.declared.StateAnswer.TheVariants as A

-- why a reading stopped: ALL, FULL, DAMAGED
abbrev pub stop_number : Stop → ℕ
stop_number S.All = 0
stop_number S.Full = 1
stop_number S.Damaged = 2

abbrev pub replace_number : ReplaceAnswer → ℕ
replace_number (Ok given) = 0
replace_number (Err (R.Fault fault)) = fault_number fault
replace_number (Err (R.Table machine needs)) = 7
replace_number (Err R.EditionEnd) = 8

-- the new edition and the number of tags; the fault's entry; the machine short of slots and the states it needs
abbrev pub replace_values : ReplaceAnswer → List ℕ
replace_values (Ok given) = given.edition.0 ∷ given.tags ∷ []
replace_values (Err (R.Fault fault)) = fault_values fault
replace_values (Err (R.Table machine needs)) = machine ∷ needs ∷ []
replace_values (Err R.EditionEnd) = []

abbrev pub open_number : OpenAnswer → ℕ
open_number (Ok serial) = 0
open_number (Err O.NoSet) = 9
open_number (Err O.SerialEnd) = 10
open_number (Err O.NoRoom) = 11

-- the next serial
abbrev pub open_values : OpenAnswer → List ℕ
open_values (Ok serial) = serial.0 ∷ []
open_values (Err why) = []

abbrev pub feed_number : FeedAnswer → ℕ
feed_number (Ok a) = 0
feed_number (Err F.NoTicket) = 12
feed_number (Err (F.Stale edition)) = 13
feed_number (Err F.Long) = 14

-- the bytes taken, why it stopped and the records added; the edition of a stale ticket
abbrev pub feed_values : FeedAnswer → List ℕ
feed_values (Ok a) = a.taken ∷ stop_number a.stop ∷ a.records ∷ []
feed_values (Err F.NoTicket) = []
feed_values (Err (F.Stale edition)) = edition.0 ∷ []
feed_values (Err F.Long) = []

abbrev pub close_number : CloseAnswer → ℕ
close_number (Ok done) = 0
close_number (Err why) = 12

abbrev pub close_values : CloseAnswer → List ℕ
close_values (Ok done) = []
close_values (Err why) = []

abbrev pub take_number : TakeAnswer → ℕ
take_number (Some record') = 0
take_number None = 16

-- serial, edition, end, tag
abbrev pub take_values : TakeAnswer → List ℕ
take_values (Some record') = record'.serial.0 ∷ record'.edition.0 ∷ record'.end ∷ record'.tag.0 ∷ []
take_values None = []

-- never given, closed, stale or open; and of the last two the ticket's edition and the bytes taken. It is never a refusal
abbrev pub state_values : StateAnswer → List ℕ
state_values A.Never = 0 ∷ []
state_values A.Closed = 1 ∷ []
state_values (A.Stale edition taken) = 2 ∷ edition.0 ∷ taken ∷ []
state_values (A.Open edition taken) = 3 ∷ edition.0 ∷ taken ∷ []
