-- A table that holds machines, and one byte read over a table.
use Prim.Native.Nat.{◌+◌, ◌≤◌, suc, zero, ℕ}
use Rattle.std.specs.Prelude.{true, ◌≡◌, ltb}
use mathlib.Core.List.{List, [], ◌++◌, ◌∷◌, map}
use Rattle.std.proofs.Common.{◌∙◌, arith, lt→ltb}
use Rattle.std.proofs.Math.Path.{ap, ap₂, refl, sym}
use Rattle.std.proofs.Math.ListN.{get_or}
use Rattle.matching.specs.Laws.Bools.{and_both, is_true}
use Rattle.matching.specs.Laws.Machine.{walk_snoc}
use Rattle.matching.proofs.Laws.Prefixes.{walk_lt}
use Rattle.matching.specs.Laws.Slices.{map_append}
use Rattle.matching.specs.Machine.{prefixes, walk}
use Rattle.matching.specs.Reading.{all_below, nexts, place_after}
use Rattle.matching.specs.Slicing.{slice}
use Rattle.matching.specs.Table.{spot, tags_for}
use Rattle.matching.specs.Words.{Word}
use Rattle.matching.specs.Laws.Readings.{Holds, slice_lt}

-- ---- a table that holds the machines of words

module _ (n k s : ℕ) (ts : List Word) (mark : ℕ → Word → ℕ) (tab : List ℕ) (held : Holds n k s ts mark tab) where
  pub nexts-place_after : (j m : ℕ) (v : Word) (c : ℕ) → m + j ≤ k → nexts n s tab m (place_after n ts m j v) c ≡ place_after n ts m j (v ++ c ∷ [])
  unfolding nexts place_after
  nexts-place_after zero m v c h = refl
  nexts-place_after (suc j) m v c h = ap₂ ◌∷◌ first (nexts-place_after j (suc m) v c (omega arith))
    where
      first : get_or tab (spot n s m (walk (prefixes (tags_for n ts m)) 0 (map (slice n m) v)) + slice n m c) 0
          ≡ walk (prefixes (tags_for n ts m)) 0 (map (slice n m) (v ++ c ∷ []))
      first =
          held.moves m (walk (prefixes (tags_for n ts m)) 0 (map (slice n m) v)) (slice n m c) (omega arith) (walk_lt (tags_for n ts m) (map (slice n m) v))
          (slice_lt n m c)
          ∙ sym (walk_snoc (prefixes (tags_for n ts m)) 0 (map (slice n m) v) (slice n m c))
          ∙ ap (walk (prefixes (tags_for n ts m)) 0) (sym (map_append (slice n m) v (c ∷ [])))

  pub below-place_after : (j m : ℕ) (v : Word) → m + j ≤ k → all_below s (place_after n ts m j v) ≡ true
  unfolding all_below place_after
  below-place_after zero m v h = refl
  below-place_after (suc j) m v h =
      and_both (ltb (walk (prefixes (tags_for n ts m)) 0 (map (slice n m) v)) s) (all_below s (place_after n ts (suc m) j v))
      (is_true (ltb (walk (prefixes (tags_for n ts m)) 0 (map (slice n m) v)) s)
      (lt→ltb (walk (prefixes (tags_for n ts m)) 0 (map (slice n m) v)) s
      (omega (arith, walk_lt (tags_for n ts m) (map (slice n m) v), held.fits m (omega arith)))))
      (below-place_after j (suc m) v (omega arith))
