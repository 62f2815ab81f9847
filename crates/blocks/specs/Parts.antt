-- What is known of the parts of a layout at a place, and what their walk over a block gives. Of the runs, slots and tests that are given, the first
-- is the first part's.
use Rattle.std.specs.Prelude.{◌*◌, ◌<◌, ℕ, Bool, false, true, List, [], ◌++◌, ◌∷◌, ◌≡◌, drop, get_or, is_some, length, replicate, take}
use Rattle.matching.specs.Parts.{Layout, Part, Runs, first_run, lengths, part, part_slots, place_below, slots_over, split_layout, step_in}
use Rattle.matching.specs.Tags.{word_as}
use Rattle.matching.specs.Words.{Word}
use Rattle.passing.specs.Steps.{Ready, Starts}
use Rattle.blocks.specs.Noting.{tag_rows}
use Rattle.blocks.specs.Running.{Came}
use Rattle.blocks.specs.Sleep.{Still, starts_in}
use Rattle.blocks.specs.declared.tables.SplitTables.{SplitTables}
use Rattle.blocks.specs.declared.walks.Walked.{Walked}

-- the states of a place are below the slots of their parts, which are those of the runs
pub record Stands (layout : Layout) (runs : Runs) (slots place : List ℕ) : Type 0 where
  pub slots_are : slots ≡ slots_over layout (lengths runs)
  pub below : place_below layout slots place ≡ true
  pub wide : length place ≡ length layout * 8

-- a part that is not awake is still
pub record Rests (layout : Layout) (runs : Runs) (slots : List ℕ) (awake : List Bool) (place : List ℕ) : Type 0 where
  pub of_part : (g : ℕ) → g < length layout → get_or awake g false ≡ false → Still (get_or slots g 0) (get_or runs g []) (take 8 (drop (g * 8) place))

-- for each part that is awake there are its starts
pub record Begins (layout : Layout) (slots : List ℕ) (awake : List Bool) (starts : List ℕ) : Type 0 where
  pub of_part : (g : ℕ) → g < length layout → get_or awake g false ≡ true → Starts 1 (get_or slots g 0) (take 128 (drop (g * 128) starts))
  pub long : length starts ≡ length layout * 128

-- a part of eight machines of one bit: each is in a state of its own; where the part is awake there are starts for it, and where it is not it is still
pub record PartFits (p : Part) (run : List ℕ) (s : ℕ) (awake : Bool) (starts place : List ℕ) : Type 0 where
  pub bits : p.bits ≡ 1
  pub machines : p.machines ≡ 8
  pub slots : s ≡ part_slots p (length run)
  pub ready : Ready 1 8 s run place
  pub steps : awake ≡ true → Starts 1 s starts
  pub still : awake ≡ false → Still s run place

abbrev pub EachFits : Layout → Runs → List ℕ → List Bool → List ℕ → List ℕ → Type 0
EachFits [] runs slots awake starts place = place ≡ []
EachFits (p ∷ ps) runs slots awake starts place =
    PartFits p (first_run runs) (get_or slots 0 0) (get_or awake 0 false) (take 128 starts) (take 8 place)
    × EachFits ps (drop 1 runs) (drop 1 slots) (drop 1 awake) (drop 128 starts) (drop 8 place)

-- each part of a layout, with its own 128 starts and in its own eight states of a place
pub record Fits (layout : Layout) (runs : Runs) (slots : List ℕ) (awake : List Bool) (starts place : List ℕ) : Type 0 where
  pub each : EachFits layout runs slots awake starts place
  pub long : length starts ≡ length layout * 128

-- ---- the two parts of the split layout, as the code has them

abbrev pub runs_of : SplitTables → Runs
runs_of t = t.exact.machines.numbers.now ∷ t.folded.machines.numbers.now ∷ []

abbrev pub slots_of : SplitTables → List ℕ
slots_of t = t.exact.machines.slots ∷ t.folded.machines.slots ∷ []

abbrev pub awake_of : SplitTables → List Bool
awake_of t = is_some t.exact.starts ∷ is_some t.folded.starts ∷ []

abbrev pub all_starts : SplitTables → List ℕ
all_starts t = starts_in t.exact.starts ++ starts_in t.folded.starts

abbrev pub SplitFits : SplitTables → (place : List ℕ) → Type 0
SplitFits t place = Fits split_layout (runs_of t) (slots_of t) (awake_of t) (all_starts t) place

-- where there is no part
abbrev pub no_part : Part
no_part = part 0 0 0 0

-- for each part that is awake there are the bytes of the block as it reads them
pub record Lettered (layout : Layout) (awake : List Bool) (bytes : Runs) (block : Word) : Type 0 where
  pub of_part : (g : ℕ) → g < length layout → get_or awake g false ≡ true → get_or bytes g [] ≡ word_as (get_or layout g no_part).kind block

-- no byte of a block has something noted
abbrev pub clean : List ℕ
clean = replicate 256 0

-- what the walk of all parts over a block answers, where the run of what is noted, clean before, is hits
pub record Walks (layout : Layout) (runs : Runs) (start : List ℕ) (block : Word) (hits : List ℕ) (r : Walked 16) : Type 0 where
  pub came : Came (step_in layout runs) start block r.at r.place (tag_rows (take r.at hits))
  pub long : length hits ≡ 256
  pub quiet : r.loud ≡ false → hits ≡ clean
