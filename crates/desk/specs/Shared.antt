-- The list of records that all tickets share: a ring of 256, the oldest at first.
use Rattle.std.specs.Prelude.{ℕ, zero, suc, ◌+◌, ◌-◌, ◌%◌, List, [], ◌∷◌, map, drop, get_or, set, replicate, cond, eqb}
use Rattle.matching.specs.Occurrence.{Occurrence}
use Rattle.desk.specs.Rooms.{serial_of, edition_of, tag_of}
use Rattle.desk.specs.declared.Serial.{Serial}
use Rattle.desk.specs.declared.Edition.{Edition}
use Rattle.desk.specs.declared.Record.{Record}
use Rattle.desk.specs.declared.Records.{Records}
use Rattle.desk.specs.Limits.{most_records}

abbrev pub no_record : Record
no_record = record { serial = serial_of 0; edition = edition_of 0; end = 0; tag = tag_of 0 }

abbrev pub no_records : Records
no_records = record { ring = replicate most_records no_record; first = 0; count = 0 }

-- count records from first on, round the ring
unfoldable pub round : List Record → ℕ → ℕ → List Record
round ring first zero = []
round ring first (suc count) = get_or ring (first % most_records) no_record ∷ round ring (suc first) count

-- the records held, the oldest first
abbrev pub held : Records → List Record
held q = round q.ring q.first q.count

-- one more record, behind those held
abbrev pub push : Records → Record → Records
push q r = record { ring = set q.ring ((q.first + q.count) % most_records) r; first = q.first; count = q.count + 1 }

unfoldable pub push_all : Records → List Record → Records
push_all q [] = q
push_all q (r ∷ rs) = push_all (push q r) rs

-- without the oldest
abbrev pub popped : Records → Records
popped q = record { ring = q.ring; first = (q.first + 1) % most_records; count = q.count - 1 }

-- occurrences as records of a ticket, with its serial and its edition
abbrev pub record_of : Serial → Edition → Occurrence → Record
record_of s e o = record { serial = s; edition = e; end = o.end; tag = tag_of o.tag }

abbrev pub records_of : Serial → Edition → List Occurrence → List Record
records_of s e os = map (record_of s e) os

-- the first n ends and tags of a run of numbers, a tag being a number of 8 bits
unfoldable pub paired : ℕ → List ℕ → List Occurrence
paired zero run = []
paired (suc n) run = record { end = get_or run 0 0; tag = get_or run 1 0 % 256 } ∷ paired n (drop 2 run)

-- the records of a serial among some, in order
unfoldable pub records_for : ℕ → List Record → List Record
records_for n [] = []
records_for n (r ∷ rs) = cond (eqb r.serial.0 n) (r ∷ records_for n rs) (records_for n rs)
