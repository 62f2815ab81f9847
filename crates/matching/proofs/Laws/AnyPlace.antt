-- Over a table as building left it, ANY place leads on: unused slots hold zeros, so that no next number is out of range.
use Rattle.std.specs.Prelude.{◌+◌, ◌<◌, ◌≤◌, suc, ℕ, true, ◌≡◌, ltb, length}
use mathlib.Core.List.{List, [], ◌++◌, ◌∷◌}
use Rattle.std.proofs.Common.{◌∙◌, ap, arith, lt→ltb, ltb-true}
use Rattle.std.proofs.Math.Path.{refl}
use Rattle.std.proofs.Math.Decide.{dec_le}
use Rattle.std.proofs.Math.ListN.{get_or}
use Rattle.std.proofs.lemmas.List.{get_or-replicate}
use Rattle.matching.specs.Laws.Bools.{and_both, and_l, and_r, is_true}
use Rattle.matching.specs.Laws.Machine.{next_lt}
use Rattle.matching.proofs.Laws.Prefixes.{tree}
use Rattle.matching.specs.Laws.Readings.{slice_lt}
use Rattle.matching.specs.Laws.Tables.{built-at, slot_next, slot_unused}
use Rattle.matching.specs.Machine.{prefixes, states}
use Rattle.matching.specs.Reading.{all_below, nexts}
use Rattle.matching.specs.Slicing.{slice}
use Rattle.matching.specs.Table.{built, slot, slot_size, spot, tags_for}
use Rattle.matching.specs.Words.{Word}

-- over a built table each next number is below the slots, from ANY state below them: unused slots hold zeros
module _ (n k s : ℕ) (ts : List Word) (mark : ℕ → Word → ℕ) (rest : List ℕ) (some : 0 < s) (fits : (m : ℕ) → m < k → states (tags_for n ts m) ≤ s) where
  next-below : (m q c : ℕ) → m < k → q < s → get_or (built n k s ts mark ++ rest) (spot n s m q + slice n m c) 0 < s
  unfolding states
  next-below m q c hm hq = go (dec_le (length (prefixes (tags_for n ts m))) q)
    where
      at : get_or (built n k s ts mark ++ rest) (spot n s m q + slice n m c) 0 ≡ get_or (slot n (mark m) (prefixes (tags_for n ts m)) q) (slice n m c) 0
      at = built-at n k s ts mark rest m q (slice n m c) hm hq (omega (arith, slice_lt n m c))

      go : Dec (length (prefixes (tags_for n ts m)) ≤ q) → get_or (built n k s ts mark ++ rest) (spot n s m q + slice n m c) 0 < s
      go (yes h) =
          let z : get_or (slot n (mark m) (prefixes (tags_for n ts m)) q) (slice n m c) 0 ≡ 0
          = ap (λ (l : List ℕ). get_or l (slice n m c) 0) (slot_unused n (mark m) (prefixes (tags_for n ts m)) q h)
          ∙ get_or-replicate (slot_size n) (slice n m c) 0 0 (omega (arith, slice_lt n m c)) in
          omega (arith, at, z, some)
      go (no h) =
          let z = slot_next n (mark m) (prefixes (tags_for n ts m)) q (slice n m c) (omega arith) (slice_lt n m c) in
          let y = next_lt (prefixes (tags_for n ts m)) (tree (tags_for n ts m)).root q (slice n m c) in
          omega (arith, at, z, y, fits m hm)

  pub nexts-below : (qs : List ℕ) (m c : ℕ) → m + length qs ≤ k → all_below s qs ≡ true → all_below s (nexts n s (built n k s ts mark ++ rest) m qs c) ≡ true
  unfolding all_below nexts
  nexts-below [] m c h e = refl
  nexts-below (q ∷ qs) m c h e =
      let x = next-below m q c (omega arith) (ltb-true q s (and_l (ltb q s) (all_below s qs) e)) in
      and_both (ltb (get_or (built n k s ts mark ++ rest) (spot n s m q + slice n m c) 0) s) (all_below s (nexts n s (built n k s ts mark ++ rest) (suc m) qs c))
      (is_true (ltb (get_or (built n k s ts mark ++ rest) (spot n s m q + slice n m c) 0) s) (lt→ltb _ s x))
      (nexts-below qs (suc m) c (omega arith) (and_r (ltb q s) (all_below s qs) e))
