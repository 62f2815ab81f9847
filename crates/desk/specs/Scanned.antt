-- What a reading into the desk's own list leaves.
use Rattle.std.specs.Prelude.{ℕ, List, ◌≡◌, length}
use Rattle.desk.specs.Shared.{paired}
use Rattle.desk.specs.declared.scan.Scan.{Scan}
use Rattle.matching.specs.Reading.{Outcome}
use Rattle.reading.specs.Outside.{ReadOf, read_to, split_by}

-- the answer of the reading R, and its occurrences in the list
pub record Scanned (place : List ℕ) (R : ReadOf) (r : Scan) : Type 0 where
  pub read : r.read ≡ split_by place R
  pub list : (o : Outcome) → R ≡ read_to o → paired (length o.found) r.list ≡ o.found
  pub long : length r.list ≡ 512
