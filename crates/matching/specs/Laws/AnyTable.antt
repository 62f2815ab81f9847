-- What every reading keeps, over any table, ours or not.
use Rattle.std.specs.Prelude.{◌%◌, ◌+◌, ◌/◌, ◌<◌, ◌≤◌, suc, zero, ℕ, true, List, [], ◌∷◌, ◌⊎◌, ◌≡◌, refl, length}
use Rattle.std.proofs.Common.{inl, inr, ap, arith}
use Rattle.matching.specs.Laws.Bits.{bit_cases, ones_of-none, ones_of-one}
use Rattle.matching.specs.Laws.Stepping.{Rising, every_map}
pub use Rattle.matching.specs.Laws.Stepping.{Every}
use Rattle.matching.specs.Reading.{all_below, flagged, nexts, ones_of}

-- the places of the ones lie among the bits, and rise
pub ones_of-within : (width i v : ℕ) → Every (λ j. (i ≤ j) × (j < i + width)) (ones_of i width v)
unfolding ones_of
ones_of-within zero i v = tt
ones_of-within (suc width) i v = go (bit_cases v)
    (every_map _ (λ j. (i ≤ j) × (j < i + suc width)) (ones_of (suc i) width (v / 2)) (λ j h. (omega (arith, h.0), omega (arith, h.1)))
    (ones_of-within width (suc i) (v / 2)))
  where
    go : (v % 2 ≡ 1) ⊎ (v % 2 ≡ 0) → Every (λ j. (i ≤ j) × (j < i + suc width)) (ones_of (suc i) width (v / 2))
        → Every (λ j. (i ≤ j) × (j < i + suc width)) (ones_of i (suc width) v)
    go (inl q) ih = rw (ones_of-one i width v q) ((omega arith, omega arith), ih)
    go (inr q) ih = rw (ones_of-none i width v q) ih

pub ones_of_rising : (width i v : ℕ) → Rising (ones_of i width v)
unfolding ones_of
ones_of_rising zero i v = tt
ones_of_rising (suc width) i v = go (bit_cases v) (ones_of_rising width (suc i) (v / 2))
  where
    go : (v % 2 ≡ 1) ⊎ (v % 2 ≡ 0) → Rising (ones_of (suc i) width (v / 2)) → Rising (ones_of i (suc width) v)
    go (inl q) ih = rw (ones_of-one i width v q)
        (every_map _ (λ j. i < j) (ones_of (suc i) width (v / 2)) (λ j h. h.0) (ones_of-within width (suc i) (v / 2)), ih)
    go (inr q) ih = rw (ones_of-none i width v q) ih

-- a place keeps its number of states
pub nexts-length : (n s : ℕ) (table : List ℕ) (m : ℕ) (qs : List ℕ) (c : ℕ) → length (nexts n s table m qs c) ≡ length qs
unfolding nexts
nexts-length n s table m [] c = refl
nexts-length n s table m (q ∷ qs) c = ap suc (nexts-length n s table (suc m) qs c)

-- ---- what a table's step tells

module _ (n s : ℕ) (table place : List ℕ) (c : ℕ) where
  pub record Moved (to tags : List ℕ) : Type 0 where
    pub there : nexts n s table 0 place c ≡ to
    pub below : all_below s to ≡ true
    pub marks : flagged n s table to ≡ tags
