-- Feeding a piece to its end: a feed takes no more than it is given, and a list of 1,024 numbers has room for all records.
use Rattle.desk.specs.Given.{TakingMany}
use Rattle.std.specs.Prelude.{ℕ, ◌≤◌, List, ◌≡◌, length}
use Rattle.std.proofs.Math.Nat.{min-le_right}
use Rattle.desk.specs.TakeMany.{take_many_of}
use Rattle.desk.specs.declared.Desk.{Desk}
use Rattle.desk.specs.Limits.{most_records}

-- a list of 1,024 numbers has room for 256 records
pub at-most-held : (d : Desk) (t : TakingMany) (list : List ℕ) → 1024 ≡ length list → t ≡ take_many_of d (length list) → t.answer ≤ most_records
unfolding take_many_of
at-most-held d t list h e = rw (e, ← h) (min-le_right d.records.count most_records)
