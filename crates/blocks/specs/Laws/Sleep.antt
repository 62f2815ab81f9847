-- Machines that stay where they are.
use Rattle.std.specs.Prelude.{◌*◌, ◌+◌, ◌<◌, ◌≤◌, suc, zero, ℕ, ◌≡◌, refl, get_or, length, take}
use Rattle.std.proofs.Common.{zero-le, ◌∙◌, ap₂, add-zero, zero-add, arith, below_more}
use Rattle.std.proofs.Math.Bool.{true}
use mathlib.Core.List.{List, [], ◌∷◌}
use Rattle.std.proofs.Math.Path.{ap, sym}
use Rattle.matching.specs.Laws.Readings.{slice_lt, table_step-goes}
use Rattle.matching.specs.Reading.{all_below, flagged, nexts, vectors_at}
use Rattle.matching.specs.Slicing.{anded, slice}
use Rattle.matching.specs.Stepping.{goes_to}
use Rattle.matching.specs.Table.{spot}
use Rattle.passing.specs.Laws.Below.{full}
use Rattle.passing.specs.Laws.Passing.{ones_none}
use Rattle.passing.specs.Laws.Rows.{ready-inside}
use Rattle.passing.specs.Steps.{Ready}
use Rattle.blocks.specs.Sleep.{Stay, Still}

-- machine m stays in state q: both numbers of its row are q
abbrev StaysIn : ℕ → List ℕ → ℕ → ℕ → Type 0
StaysIn s table m q = (b : ℕ) → b < 2 → get_or table ((m * s + q) * 3 + b) 0 ≡ q

pub stays_in : (s : ℕ) (table : List ℕ) (m q : ℕ) → (get_or table ((m * s + q) * 3) 0 ≡ q) × (get_or table ((m * s + q) * 3 + 1) 0 ≡ q) → StaysIn s table m q
stays_in s table m q e zero h = rw (add-zero ((m * s + q) * 3)) e.0
stays_in s table m q e (suc zero) h = e.1
stays_in s table m q e (suc (suc b)) h = absurd (omega arith)

all_stay : (s : ℕ) (table qs : List ℕ) (m : ℕ) → ((j : ℕ) → j < length qs → StaysIn s table (m + j) (get_or qs j 0)) → (c : ℕ) → nexts 1 s table m qs c ≡ qs
unfolding nexts spot
all_stay s table [] m h c = refl
all_stay s table (q ∷ qs) m h c =
    let first = h 0 (omega arith) (slice 1 m c) (slice_lt 1 m c) in
    ap₂ ◌∷◌ (rw (add-zero m) at first)
    (all_stay s table qs (suc m) (λ j l. (let z : m + suc j ≡ suc m + j = omega arith in rw z at (h (suc j) (omega (arith, l))))) c)

-- the machines before m stay
pub record Staying (s : ℕ) (table place : List ℕ) (m : ℕ) : Type 0 where
  pub most : m ≤ 8
  pub stay : (j : ℕ) → j < m → StaysIn s table j (get_or place j 0)

module _ (s : ℕ) (table place : List ℕ) (ready : Ready 1 8 s table place) where
  pub staying_start : Staying s table place 0
  staying_start = record { most = zero-le; stay = λ j h. absurd (omega arith) }

  pub staying_inside : (m : ℕ) → m < 8 → (m * s + get_or place m 0) * 3 + 1 < length table
  unfolding spot
  staying_inside m less = ready-inside 1 8 s table place ready m 1 less (omega arith)

  module _ (m : ℕ) (g : Staying s table place m) where
    pub staying_more : m < 8 → (get_or table ((m * s + get_or place m 0) * 3) 0 ≡ get_or place m 0) × (get_or table ((m * s + get_or place m 0) * 3 + 1) 0 ≡ get_or place m 0)
        → Staying s table place (m + 1)
    staying_more less e = record { most = omega arith; stay = below_more _ m g.stay (stays_in s table m (get_or place m 0) e) }

    pub staying_all : 8 ≤ m → Stay s table place
    staying_all more c =
        all_stay s table place 0 (λ j l. rw (zero-add j) (g.stay j (omega (arith, l, ready.long)))) c

  pub still : Stay s table place → (v : ℕ) → v ≡ anded 65535 (vectors_at 1 s table 0 (take 8 place)) → v ≡ 0 → Still s table place
  unfolding flagged
  still stay v e z c =
      let below : all_below s place ≡ true = rw (full place ready.long) at ready.below in
      let none : anded 65535 (vectors_at 1 s table 0 place) ≡ 0 = ap (λ (l : List ℕ). anded 65535 (vectors_at 1 s table 0 l)) (sym (full place ready.long)) ∙ sym e ∙ z in
      table_step-goes 1 s table place c (rw (stay c) below)
      ∙ rw (stay c, none) (ap (goes_to place) (ones_none 0 16))
