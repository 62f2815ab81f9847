-- When a part is asleep: its machines stay where they are, whatever they read, and find nothing.
use Rattle.std.specs.Prelude.{ℕ, List, [], ◌≡◌, Option, None, Some, replicate}
use denote.Ref.{Bor}
use Rattle.matching.specs.Reading.{nexts, table_step}
use Rattle.matching.specs.Stepping.{goes_to}

-- no byte leads the machines of a table away from a place
abbrev pub Stay : ℕ → List ℕ → List ℕ → Type 0
Stay s table place = (c : ℕ) → nexts 1 s table 0 place c ≡ place

-- and nothing is found there
abbrev pub Still : ℕ → List ℕ → List ℕ → Type 0
Still s table place = (c : ℕ) → table_step 1 s table place c ≡ goes_to place []

-- the starts of a part that is awake; those of one that is asleep are never looked at
abbrev pub starts_in : Option (Bor (List ℕ)) → List ℕ
starts_in (Some starts) = starts.now
starts_in None = replicate 128 0
