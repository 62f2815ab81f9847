-- What the walk of one part over some bytes gives.
use Rattle.std.specs.Prelude.{ℕ, Bool, false, true, List, ◌≡◌, length, take}
use Rattle.matching.specs.Stepping.{Step}
use Rattle.matching.specs.Words.{Word}
use Rattle.blocks.specs.Noting.{ored, tag_rows}
use Rattle.blocks.specs.Running.{Came}
use Rattle.blocks.specs.declared.walks.Walked.{Walked}

-- what it answers, where it noted the numbers vs into a run, which was h₀ and is h
pub record Noted (step : Step (List ℕ)) (start : List ℕ) (w : Word) (r : Walked 8) (h₀ h : List ℕ) : Type 0 where
  pub vs : List ℕ
  pub came : Came step start w r.at r.place (tag_rows vs)
  pub wide : length r.place ≡ length start
  pub noted : h ≡ ored vs h₀
  pub quiet : r.loud ≡ false → h ≡ h₀

-- over the first bytes, if the part is awake; else it stays, and notes nothing
abbrev pub NotedIf : Bool → Step (List ℕ) → List ℕ → Word → ℕ → Walked 8 → List ℕ → List ℕ → Type 0
NotedIf true step start w to r h₀ h = Noted step start (take to w) r h₀ h
NotedIf false step start w to r h₀ h = (r ≡ record { at = to; place = start; loud = false }) × (h ≡ h₀)
