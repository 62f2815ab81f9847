-- The machines of a part, judged from the lowest on, and the most states that one of them needs, from the highest down.
use Rattle.std.specs.Prelude.{Err, Ok}
use Rattle.tables.specs.declared.BuildFault.TheVariants as B
use Prim.Native.Nat.{◌+◌, ◌-◌, ◌<◌, ◌≤◌, max, suc, ℕ}
use mathlib.Core.List.{List}
use mathlib.Core.Path.{◌∙◌, ◌≡◌, ap, sym}
use native.Mathlib.Numerals.{add-one}
use native.Mathlib.Omega.{arith}
use Rattle.matching.specs.Laws.Tables.{room_from-next, room_from-short}
use Rattle.matching.specs.Machine.{states}
use Rattle.matching.specs.Parts.{Part, named}
use Rattle.matching.specs.Table.{room_from, tags_for}
use Rattle.matching.specs.Words.{Word}
use Rattle.tables.specs.Building.{most_states}
use Rattle.tables.specs.Shape.{judged_by}

-- ---- slots enough

module _ (p : Part) (s : ℕ) (ts : List Word) where
  -- no machine before m is short of slots
  abbrev pub EnoughBefore : ℕ → Type 0
  EnoughBefore m = room_from p.bits s ts 0 p.machines ≡ room_from p.bits s ts m (p.machines - m)

  module _ (m : ℕ) (low : m < p.machines) (before : EnoughBefore m) (needs : ℕ) (is : needs ≡ states (tags_for p.bits ts m)) where
    one_left : room_from p.bits s ts 0 p.machines ≡ room_from p.bits s ts m (suc (p.machines - (m + 1)))
    one_left = before ∙ ap (room_from p.bits s ts m) (omega arith)

    pub judge_short : s < needs → Err (B.Table (p.name + m) needs) ≡ judged_by (named p (room_from p.bits s ts 0 p.machines))
    judge_short h = rw (one_left, room_from-short p.bits s ts m (p.machines - (m + 1)) (rw is at h), is)

    pub judge_more : needs ≤ s → EnoughBefore (m + 1)
    judge_more h =
        one_left ∙ room_from-next p.bits s ts m (p.machines - (m + 1)) (rw is at h)
        ∙ ap (λ (i : ℕ). room_from p.bits s ts i (p.machines - (m + 1))) (sym (add-one m))

  pub judge_all : (m : ℕ) → p.machines ≤ m → EnoughBefore m
      → Ok tt ≡ judged_by (named p (room_from p.bits s ts 0 p.machines))
  unfolding room_from
  judge_all m h before =
      let z : p.machines - m ≡ 0 = omega arith in
      rw (before, z)

-- ---- the most states

module _ (n : ℕ) (ts : List Word) (k : ℕ) where
  -- so many are the most that one of the machines from m on needs
  abbrev pub MostFrom : ℕ → ℕ → Type 0
  MostFrom m most = most ≡ most_states n ts m (k - m)

  pub most-none : MostFrom k 0
  unfolding most_states
  most-none = let z : k - k ≡ 0 = omega arith in rw z

  pub most-more : (m most needs z : ℕ) → 0 < m → m ≤ k → MostFrom m most → needs ≡ states (tags_for n ts (m - 1)) → z ≡ max needs most
      → MostFrom (m - 1) z
  unfolding most_states
  most-more m most needs z h j e is ez =
      let a : k - (m - 1) ≡ suc (k - m) = omega arith in
      let b : suc (m - 1) ≡ m = omega arith in
      rw (ez, a, b, is, e)
