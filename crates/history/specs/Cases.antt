-- What each call answers after a history, in the history's own words: by the replacements accepted, the accounts, the tags and the bytes. The
-- desk's feeds are so held to demand 2: a feed that stops FULL while its matches find room is none of these.
use Rattle.desk.specs.Given.{OpenAnswer, FeedAnswer, CloseAnswer, TakeAnswer, ReplaceAnswer, not_held, replaced_as}
use Rattle.desk.specs.declared.FeedRefusal.TheVariants as F
use Rattle.desk.specs.declared.OpenRefusal.TheVariants as O
use Rattle.desk.specs.declared.ReplaceRefusal.TheVariants as R
use Rattle.matching.specs.declared.Stop.TheVariants as S
use Rattle.std.specs.Prelude.{◌+◌, ◌-◌, ◌<◌, ◌≤◌, suc, ℕ, List, [], ◌++◌, ◌∷◌, ◌↔◌, ◌≡◌, length, take, Ok, Err, Some, None}
use Rattle.desk.specs.Conditions.{SameSlots, ticket_of}
use Rattle.desk.specs.Layout.{DeskBuilds, desk_place, DeskRefused, DeskShort, desk_slots, desk_table, Lent, Order, order_tags, Sizes, sizes_of}
use Rattle.desk.specs.Limits.{most_records, most_tickets}
use Rattle.desk.specs.Reached.{call_feed}
use Rattle.desk.specs.Rooms.{edition_of}
use Rattle.desk.specs.Shared.{held, records_of}
use Rattle.desk.specs.declared.Edition.{Edition}
use Rattle.desk.specs.declared.Record.{Record}
use Rattle.desk.specs.declared.Serial.{Serial}
use Rattle.history.specs.History.{Account, account_at, Gone, lives, OpenOrStale, OpenTicket, Replacement, StaleTicket, step, stream, World}
use Rattle.history.specs.Readings.{Demanded}
use Rattle.matching.specs.Limits.{largest}
use Rattle.matching.specs.Reading.{Outcome}
use Rattle.matching.specs.Words.{Below, Word}
use Rattle.tagset.specs.declared.SetFault.{SetFault}
use Rattle.desk.specs.Feed.{advance}
use Rattle.desk.specs.declared.Advance.{Advance}

-- ---- a feed

-- a feed that reads for an account, over the table as left: its outcome is as demanded, from the account's bytes on and with the room that the
-- list has left; it answers that outcome's numbers; the outcome's records, of its serial and its ticket's edition, are what it adds behind all
-- others; and the ticket's place is then that after the bytes
pub record FedAsDemanded (w : World) (s : Serial) (a : Account) (piece : Word) (answer : FeedAnswer) : Type 0 where
  pub outcome : Outcome
  pub demanded : Demanded a.tags a.bytes piece (most_records - length (held w.desk.records)) outcome
  pub answered : answer ≡ Ok (advance outcome.taken (length outcome.found) outcome.stop)
  pub added : stream (step w (call_feed s w.table piece)) ≡ stream w ++ records_of s (edition_of a.edition) outcome.found
  pub place : (ticket_of (step w (call_feed s w.table piece)).desk s).place ≡ desk_place a.tags (a.bytes ++ take outcome.taken piece)

-- what a feed answers over any table: NO TICKET exactly if its serial was never given or is closed; STALE, with the ticket's edition, exactly if
-- that is older than the one in force; a table with a run of another slot count than the last replacement's is a damaged one; then LONG exactly if the
-- ticket's bytes and the piece pass the largest count; and where it is lent the table as left, as was each feed before it (`Left`), every byte
-- up to the first whose matches find no room
pub record FeedAnswers (Left : Type 0) (w : World) (s : Serial) (table : Lent) (piece : Word) (answer : FeedAnswer) : Type 0 where
  pub no-ticket : (answer ≡ Err F.NoTicket) ↔ Gone w s
  pub stale : (e : Edition) → (answer ≡ Err (F.Stale e)) ↔ ((k : ℕ) × StaleTicket w s k × (e.0 ≡ (account_at w k).edition))
  pub other-slots : (k : ℕ) → OpenTicket w s k → (SameSlots w.desk table → ⊥) → answer ≡ Ok (advance 0 0 S.Damaged)
  pub long : (answer ≡ Err F.Long) ↔ ((k : ℕ) × OpenTicket w s k × SameSlots w.desk table × (largest < length (account_at w k).bytes + length piece))
  pub fed : (a : Advance) → answer ≡ Ok a
      → (k : ℕ) × OpenTicket w s k × (SameSlots w.desk table → length (account_at w k).bytes + length piece ≤ largest)
  pub reads : Left → table ≡ w.table → Below 256 piece → (k : ℕ) → OpenTicket w s k → length (account_at w k).bytes + length piece ≤ largest
      → FedAsDemanded w s (account_at w k) piece answer

-- ---- an opening

-- by how many replacements were accepted, how many tickets were opened, and how many of these are not closed: NO SET exactly if no replacement
-- was accepted; then SERIAL exactly if the largest serial was given; then NO ROOM exactly if as many as there are rooms are not closed, so that a
-- closed ticket's room is used again; else the serial one above the number opened
pub record OpensAs (accepted given waiting : ℕ) (answer : OpenAnswer) : Type 0 where
  pub no-set : (answer ≡ Err O.NoSet) ↔ (accepted ≡ 0)
  pub serial-end : (answer ≡ Err O.SerialEnd) ↔ ((0 < accepted) × (given ≡ largest))
  pub no_room : (answer ≡ Err O.NoRoom) ↔ ((0 < accepted) × (given < largest) × (waiting ≡ most_tickets))
  pub opened : (s : Serial) → (answer ≡ Ok s) ↔ ((0 < accepted) × (given < largest) × (waiting < most_tickets) × (s.0 ≡ suc given))

abbrev pub OpenAnswers : World → OpenAnswer → Type 0
OpenAnswers w answer = OpensAs (length w.orders) (length w.accounts) (lives w.accounts) answer

-- ---- a replacement

-- by how many were accepted: a set fault or TABLE exactly if building does; then EDITION exactly if the largest edition is in force; else the edition
-- one above the number accepted, and the number of tags
pub record ReplacesAs (accepted : ℕ) (order : Order) (len : Sizes) (answer : ReplaceAnswer) : Type 0 where
  pub fault : (x : SetFault) → (answer ≡ Err (R.Fault x)) ↔ DeskRefused order x
  pub table : (machine states : ℕ) → (answer ≡ Err (R.Table machine states)) ↔ DeskShort order len machine states
  pub edition-end : (answer ≡ Err R.EditionEnd) ↔ ((count : ℕ) × DeskBuilds order len count × (accepted ≡ largest))
  pub replaced : (e : Edition) (count : ℕ) → (answer ≡ Ok (replaced_as e count)) ↔ (DeskBuilds order len count × (accepted < largest) × (e.0 ≡ suc accepted))

abbrev pub ReplaceAnswers : World → Order → Sizes → ReplaceAnswer → Type 0
ReplaceAnswers w order len answer = ReplacesAs (length w.orders) order len answer

-- what is in force is what a replacement left: its tags, the run that it was lent as building leaves it, and the slots of that as the desk
-- remembers them
pub record LeftBy (w : World) (o : Replacement) : Type 0 where
  pub tags : w.tags ≡ order_tags o.order
  pub table : w.table ≡ desk_table o.order o.run
  pub slots : w.desk.slots ≡ desk_slots o.order (sizes_of o.run)

-- ---- a closing, and a taking

-- NO TICKET exactly if its serial was never given or is closed; an open ticket, and a stale one, it closes
pub record CloseAnswers (w : World) (s : Serial) (answer : CloseAnswer) : Type 0 where
  pub no-ticket : (answer ≡ Err not_held) ↔ Gone w s
  pub closed : (answer ≡ Ok tt) ↔ ((k : ℕ) × OpenOrStale w s k)

-- NOTHING exactly if no record is held, and else the oldest of those held
pub record TakeAnswers (w : World) (answer : TakeAnswer) : Type 0 where
  pub nothing : (answer ≡ None) ↔ (held w.desk.records ≡ [])
  pub taken : (x : Record) → (answer ≡ Some x) ↔ ((rest : List Record) × (held w.desk.records ≡ x ∷ rest))
