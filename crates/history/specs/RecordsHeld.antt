-- What each call makes of the records that a desk holds, and of the stream of all records of a history.
use Rattle.std.specs.Prelude.{◌+◌, ◌-◌, ℕ, List, [], ◌++◌, ◌∷◌, ◌≡◌, length, Ok, Some, None}
use Rattle.desk.specs.Calls.{take_of}
use Rattle.desk.specs.Conditions.{Current, HasRoom, SameSlots, TooLong, ticket_of}
use Rattle.desk.specs.Feed.{feed_of}
use Rattle.desk.specs.Layout.{Lent, desk_read}
use Rattle.desk.specs.Limits.{most_records}
use Rattle.desk.specs.Numbers.{feed_number}
use Rattle.desk.specs.Reached.{Call, after_call, call_close, call_feed, call_open, call_replace, call_take}
use Rattle.desk.specs.Shared.{held, records_for, records_of}
use Rattle.desk.specs.declared.Desk.{Desk}
use Rattle.desk.specs.declared.Record.{Record}
use Rattle.desk.specs.declared.Serial.{Serial}
use Rattle.matching.specs.Occurrence.{Occurrence, Ordered}
use Rattle.matching.specs.Words.{Word}
use Rattle.history.specs.History.{Account, World, stream}
use Rattle.matching.specs.Tags.{found_in}
use Rattle.desk.specs.declared.Advance.{Advance}

-- a taking hands out the oldest of those held, and leaves the others; where none is held it hands out none
pub record HandsOut (d : Desk) : Type 0 where
  pub none : held d.records ≡ [] → ((take_of d).answer ≡ None) × (held (take_of d).desk.records ≡ [])
  pub oldest : (r : Record) (rest : List Record) → held d.records ≡ r ∷ rest → ((take_of d).answer ≡ Some r) × (held (take_of d).desk.records ≡ rest)

-- a feed puts what it found behind all others, as records of its serial and its ticket's edition, by end and then by tag number; a refused
-- one found nothing, one that reads found what the reading over the lent table finds, and the number that it answers is theirs
pub record PutsBehind (d : Desk) (s : Serial) (table : Lent) (piece : Word) : Type 0 where
  pub found : List Occurrence
  pub ordered : Ordered found
  pub behind : held (feed_of d s table piece).desk.records ≡ held d.records ++ records_of s (ticket_of d s).edition found
  pub refused : (feed_number (feed_of d s table piece).answer ≡ 0 → ⊥) → found ≡ []
  pub counted : (a : Advance) → (feed_of d s table piece).answer ≡ Ok a → a.records ≡ length found
  pub read : HasRoom d s → Current d s → SameSlots d table → (TooLong d s piece → ⊥)
      → found ≡ (desk_read d.slots table (ticket_of d s).place (ticket_of d s).taken (most_records - d.records.count) piece).found

-- and any other call leaves them
abbrev pub HeldAfter : Desk → Call → Type 0
HeldAfter d (call_replace order run) = held (after_call d (call_replace order run)).records ≡ held d.records
HeldAfter d call_open = held (after_call d call_open).records ≡ held d.records
HeldAfter d (call_feed s table piece) = PutsBehind d s table piece
HeldAfter d (call_close s) = held (after_call d (call_close s)).records ≡ held d.records
HeldAfter d call_take = HandsOut d

-- ---- the stream

-- what a call adds to the stream: records of its serial, if it is a feed, and else none
abbrev pub AddedBy : Call → List Record → Type 0
AddedBy (call_replace order run) rs = rs ≡ []
AddedBy call_open rs = rs ≡ []
AddedBy (call_feed s table piece) rs = records_for s.0 rs ≡ rs
AddedBy (call_close s) rs = rs ≡ []
AddedBy call_take rs = rs ≡ []

pub record Adds (w v : World) (a : Call) : Type 0 where
  pub records : List Record
  pub behind : stream v ≡ stream w ++ records
  pub of_call : AddedBy a records

-- the occurrences in all bytes taken for some accounts
unfoldable pub occurrences_in : List Account → ℕ
occurrences_in [] = 0
occurrences_in (a ∷ l) = length (found_in a.tags a.bytes) + occurrences_in l
