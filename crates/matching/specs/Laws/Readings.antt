-- A table that holds machines, and one byte read over a table.
use Prim.Native.Nat.{◌*◌, ◌+◌, ◌/◌, ◌<◌, ◌^◌, ◌≤◌, ℕ}
use Rattle.std.specs.Prelude.{false, true, ◌≡◌}
use mathlib.Core.List.{List, []}
use Rattle.std.proofs.Common.{mod-lt, pow_pos}
use Rattle.std.proofs.Math.Path.{refl}
use Rattle.std.proofs.Math.ListN.{get_or}
use Rattle.matching.specs.Machine.{next, prefixes, states}
use Rattle.matching.specs.Reading.{all_below, flagged, nexts, table_step}
use Rattle.matching.specs.Slicing.{slice}
use Rattle.matching.specs.Stepping.{goes_to, is_damaged}
use Rattle.matching.specs.Table.{spot, tags_for}
use Rattle.matching.specs.Words.{Word}

-- ---- a table that holds the machines of words

-- the numbers of the slots in use, for k machines of n bits each, where the vector of a prefix in machine m is what `mark m` makes of it
pub record Holds (n k s : ℕ) (ts : List Word) (mark : ℕ → Word → ℕ) (tab : List ℕ) : Type 0 where
  pub fits : (m : ℕ) → m < k → states (tags_for n ts m) ≤ s
  pub moves : (m q c : ℕ) → m < k → q < states (tags_for n ts m) → c < 2 ^ n
      → get_or tab (spot n s m q + c) 0 ≡ next (prefixes (tags_for n ts m)) q c
  pub marks : (m q : ℕ) → m < k → q < states (tags_for n ts m)
      → get_or tab (spot n s m q + 2 ^ n) 0 ≡ mark m (get_or (prefixes (tags_for n ts m)) q [])

pub slice_lt : (n m c : ℕ) → slice n m c < 2 ^ n
unfolding slice
slice_lt n m c = mod-lt (c / 2 ^ (m * n)) (pow_pos n)

-- ---- one byte

module _ (n s : ℕ) (tab qs : List ℕ) (c : ℕ) where
  pub table_step-goes : all_below s (nexts n s tab 0 qs c) ≡ true
      → table_step n s tab qs c ≡ goes_to (nexts n s tab 0 qs c) (flagged n s tab (nexts n s tab 0 qs c))
  unfolding table_step
  table_step-goes e = rw (e, table_step) refl

  pub table_step-wrong : all_below s (nexts n s tab 0 qs c) ≡ false
      → table_step n s tab qs c ≡ is_damaged
  unfolding table_step
  table_step-wrong e = rw (e, table_step) refl
