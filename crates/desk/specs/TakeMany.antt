-- Taking many records at once: as many of the oldest as a lent list has room for, four numbers each. It is so many takings in one call.
use Rattle.desk.specs.Given.{TakingMany}
use Rattle.std.specs.Prelude.{ℕ, zero, suc, ◌*◌, ◌/◌, ◌%◌, min, List, [], ◌∷◌, ◌++◌, drop, get_or}
use Rattle.desk.specs.Calls.{with_records}
use Rattle.desk.specs.Shared.{no_record, popped}
use Rattle.desk.specs.declared.Desk.{Desk}
use Rattle.desk.specs.declared.Record.{Record}
use Rattle.desk.specs.declared.Records.{Records}
use Rattle.desk.specs.Limits.{most_records}

-- what n takings hand out, and the records held after them
unfoldable pub oldest : ℕ → Records → List Record
oldest zero q = []
oldest (suc n) q = get_or q.ring (q.first % most_records) no_record ∷ oldest n (popped q)

unfoldable pub without : ℕ → Records → Records
without zero q = q
without (suc n) q = without n (popped q)

-- records as numbers: serial, edition, end, tag
unfoldable pub record_numbers : List Record → List ℕ
record_numbers [] = []
record_numbers (r ∷ rs) = r.serial.0 ∷ r.edition.0 ∷ r.end ∷ r.tag.0 ∷ record_numbers rs

-- how many a list of so many numbers takes
abbrev pub many_of : Desk → ℕ → ℕ
many_of d len = min d.records.count (len / 4)

unfoldable pub take_many_of : Desk → ℕ → TakingMany
take_many_of d len = record { desk = with_records d (without (many_of d len) d.records); answer = many_of d len }

-- the list after it
unfoldable pub list_taken : Desk → List ℕ → ℕ → List ℕ
list_taken d list n = record_numbers (oldest n d.records) ++ drop (4 * n) list
