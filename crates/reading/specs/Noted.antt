-- The records of what a block's walk noted.
use Rattle.std.specs.Prelude.{◌*◌, ◌+◌, ◌-◌, ◌/◌, ◌<◌, ◌≤◌, ℕ, List, [], ◌≡◌, get_or, length, take}
use Rattle.std.proofs.lemmas.List.Edits.{sets}
use Rattle.matching.specs.Occurrence.{flat}
use Rattle.blocks.specs.Running.{records_of}
use Rattle.reading.specs.declared.noted.Wrote.{Wrote}

-- the records of the first i rows are written, behind the first `from` records of the list l₀, which became l; there are w of them then
pub record Writing (rows : List (List ℕ)) (count : ℕ) (l₀ l : List ℕ) (from w i : ℕ) : Type 0 where
  pub most : i ≤ length rows
  pub records : w ≡ from + length (records_of count (take i rows))
  pub fits : 2 * w ≤ length l₀
  pub list : l ≡ sets l₀ (2 * from) (flat (records_of count (take i rows)))

-- all of them, or as many as there are before the first whose records find no room
pub record WroteTo (rows : List (List ℕ)) (count : ℕ) (l₀ l : List ℕ) (from : ℕ) (r : Wrote) : Type 0 where
  pub writing : Writing rows count l₀ l from r.records r.at
  pub full : r.at < length rows → length l₀ / 2 - r.records < length (get_or rows r.at [])
