-- A level in the terms of what the code has in hand.
use Prim.Native.Nat.{◌+◌, ◌<◌, ◌≤◌, ℕ}
use mathlib.Core.Bool.{cond}
use mathlib.Core.List.{List, []}
use mathlib.Core.Path.{◌≡◌}
use native.Mathlib.Nat.{le_refl, zero-mul}
use native.Mathlib.Omega.{arith}
use lib.Dec.{eqb}
use lib.ListN.{get_or, length, set, take}
use Rattle.machines.proofs.Cells.{cell-fits}
use Rattle.machines.proofs.Growing.{states-small}
use Rattle.machines.proofs.Levels.{at_low, fail-low, gone_on, level-end, level-known, level-made, level_skip, level-start, q-low, x-low}
use Rattle.machines.proofs.Lows.{all-at, below_at, short-at}
use Rattle.machines.proofs.Making.{first-low}
use Rattle.machines.proofs.Tree.{roomy-same}
use Rattle.machines.specs.Rows.{Filled, Filling, Fit, Level, Made, Planted, Roomy, Started, cell, no_walk}
use Rattle.machines.specs.declared.filling.Walk.{Walk}
use Rattle.matching.specs.Machine.{states, vector}
use Rattle.matching.specs.Words.{Word}

small-states : {ts : List Word} → Fit ts → states ts ≤ 513
small-states {ts} f = states-small ts f.few f.short

module _ {ts : List Word} {m d t : ℕ} {walks : List Walk} {l : List ℕ} (F : Filling ts m d t walks l) (ht : t < length ts)
    (w : Word) (ew : w ≡ get_or ts t []) where
  pub deepen_skip : length w ≤ d → Level ts m d (t + 1) walks l
  deepen_skip h = level_skip ts m d t walks l F.level (rw ew at h)

  module _ (hd : d < length w) (c : ℕ) (hc : c ≡ get_or w d 0) where
    low : c < m
    low = rw (hc, ew) (below_at m (get_or ts t []) d (all-at m ts t F.roomy.low ht) (rw ew at hd))

    -- a state's cells are in the slots
    asks : (q a : ℕ) → q < states ts → a ≤ m → (q < 513) × (cell m q a < length l)
    asks q a h k = (omega (arith, small-states F.fit), omega (arith, F.roomy.room, cell-fits m q a (states ts) h k))

    pub next_asks : (m ≤ 256) × ((get_or walks t no_walk).at < 513) × (c < m) × (cell m ((get_or walks t no_walk).at) c < length l)
    next_asks = let a = asks ((get_or walks t no_walk).at) c (at_low F.level ht w ew hd c hc low) (omega (arith, low)) in (F.roomy.small, a.0, low, a.1)

    pub fail_asks : (m ≤ 256) × ((get_or walks t no_walk).fail < 513) × (c < m) × (cell m ((get_or walks t no_walk).fail) c < length l)
    fail_asks = let a = asks ((get_or walks t no_walk).fail) c (fail-low F.level ht w ew hd c hc low) (omega (arith, low)) in (F.roomy.small, a.0, low, a.1)

    module _ (q x : ℕ) (eq : q ≡ get_or l (cell m ((get_or walks t no_walk).at) c) 0) (ex : x ≡ cond (eqb d 0) 0 (get_or l (cell m ((get_or walks t no_walk).fail) c) 0)) where
      pub slot_asks : (m ≤ 256) × (q < 513) × (x < 513) × (cell m q m < length l) × (cell m x m < length l)
      slot_asks =
          let a = asks q m (q-low F.level ht w ew hd c hc low q x eq ex) (le_refl m) in
          let b = asks x m (x-low F.level ht w ew hd c hc low q x eq ex) (le_refl m) in
          (F.roomy.small, a.0, b.0, a.1, b.1)

      abbrev gone : List Walk
      gone = set walks t (gone_on walks t q x)

      pub deepen_known : d < (get_or walks t no_walk).front → Level ts m d (t + 1) gone l
      deepen_known h = level-known F.level ht w ew hd c hc low q x eq ex F.fit.few (rw (F.level.knows t ht) at h)

      pub deepen_made : (z : ℕ) (l' : List ℕ) → z ≡ vector ts (take (d + 1) w) → Made m q x z l l' → Level ts m d (t + 1) gone l'
      deepen_made z l' ez M = level-made F.level ht w ew hd c hc low q x eq ex F.fit.few z l' ez M

-- ---- level by level

module _ {ts : List Word} {m len : ℕ} (fit : Fit ts) (roomy : Roomy ts m len) where
  -- the start state's slot is there
  pub root_room : m < len
  root_room = omega (arith, roomy.room, cell-fits m 0 m (states ts) (first-low ts) (le_refl m), zero-mul (m + 1))

  pub fill_start : {walks : List Walk} {l : List ℕ} → Started ts walks → Planted ts m (states ts) l → len ≡ length l → (z : ℕ) → z ≡ vector ts []
      → Level ts m 0 0 walks (set l m z)
  fill_start {walks} {l} W p e z ez = level-start ts m walks l z p.sown (omega (arith, root_room)) ez W

  pub fill_end : {d t : ℕ} {walks : List Walk} {l : List ℕ} → 32 ≤ d → Level ts m d t walks l → Filled ts m l
  fill_end {d} {t} {walks} {l} h L = level-end ts m d t walks l L (λ u. omega (arith, short-at 32 ts u fit.short))

-- ---- a level on its way, from its parts
-- Laws that the pages name, though no proof needs them any more.

pub filling_again : {ts : List Word} {m d₀ t₀ d t : ℕ} {walks₀ walks : List Walk} {l₀ l : List ℕ} → Filling ts m d₀ t₀ walks₀ l₀
    → length l ≡ length l₀ → Level ts m d t walks l → Filling ts m d t walks l
filling_again {ts} {m} F el L =
    record {
      fit = F.fit;
      roomy = roomy-same F.roomy el;
      level = L;
    }

module _ {ts : List Word} {m len : ℕ} (fit : Fit ts) (roomy : Roomy ts m len) where
  pub filling_on : {d t : ℕ} {walks : List Walk} {l : List ℕ} → length l ≡ len → Level ts m d t walks l → Filling ts m d t walks l
  filling_on e L =
      record { fit = fit; roomy = roomy-same roomy e; level = L }
