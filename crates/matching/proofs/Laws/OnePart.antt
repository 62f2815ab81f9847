-- One part of a layout: over a run that holds its machines, and from the place after an input, a byte leads to the place after it, and the tags found are
-- those of the part's kind that end there.
use Prim.Native.Nat.{◌*◌, ◌+◌, ◌<◌, ◌^◌, ◌≤◌, suc, zero, ℕ}
use Rattle.std.specs.Prelude.{◌&&◌, ◌≡◌, get_or}
use mathlib.Core.List.{List, [], ◌++◌, ◌∷◌, map}
use Rattle.std.proofs.Common.{◌∙◌, subst, lt_of_lt_of_le, arith, pow_mono}
use Rattle.std.proofs.Math.Path.{ap, ap₂, refl, sym}
use Rattle.std.proofs.Math.ListN.{length}
use Rattle.matching.specs.Kinds.{as_read}
use Rattle.matching.specs.Laws.Bits.{ones_of-vector}
use Rattle.matching.specs.Laws.Dealt.{dealt}
use Rattle.matching.proofs.Laws.Dealt.{dealt-anded}
use Rattle.matching.specs.Laws.Inputs.{below_snoc}
use Rattle.matching.specs.Laws.Kinds.{word_as_append, word_as-below}
use Rattle.matching.proofs.Laws.Prefixes.{vector-walk, walk_lt}
use Rattle.matching.specs.Laws.Readings.{Holds, table_step-goes}
use Rattle.matching.proofs.Laws.Readings.{below-place_after, nexts-place_after}
use Rattle.matching.specs.Laws.Tags.{of_kind-few, of_kind-lawful}
use Rattle.matching.specs.Laws.Vectors.{reduced-length, vector_lt, vectors}
use Rattle.matching.proofs.Laws.Vectors.{and_slices}
use Rattle.matching.specs.Limits.{most_tags}
use Rattle.matching.specs.Machine.{prefixes, vector, walk}
use Rattle.matching.specs.Reading.{flagged, nexts, ones_of, place_after, table_step, vectors_at}
use Rattle.matching.specs.Slicing.{Slicing, anded, reduced, slice, slices}
use Rattle.matching.specs.Stepping.{goes_to}
use Rattle.matching.specs.Table.{tags_for, vector_in}
use Rattle.matching.specs.Tags.{LawfulTags, Tags, ends_by, is_kind, of_kind, word_as}
use Rattle.matching.specs.Words.{AllBelow, Below, Word}
use Rattle.matching.specs.Laws.OnePart.{kind_at, mark_dealt, found-dealt}

module _ (kind : ℕ) (tags : Tags) where
  module _ (n k s : ℕ) (tab : List ℕ) (held : Holds n k s (of_kind kind tags) (vector_in kind n tags) tab) where
    vectors-dealt : (j m : ℕ) (v : Word) → m + j ≤ k
        → vectors_at n s tab m (place_after n (of_kind kind tags) m j v) ≡ map (dealt (is_kind kind) tags) (vectors (slices n m j) (of_kind kind tags) v)
    unfolding vectors_at place_after vectors slices
    vectors-dealt zero m v h = refl
    vectors-dealt (suc j) m v h =
        ap₂ ◌∷◌
        (held.marks m (walk (prefixes (tags_for n (of_kind kind tags) m)) 0 (map (slice n m) v)) (omega arith)
        (walk_lt (tags_for n (of_kind kind tags) m) (map (slice n m) v))
        ∙ mark_dealt kind tags n m (get_or (prefixes (tags_for n (of_kind kind tags) m)) (walk (prefixes (tags_for n (of_kind kind tags) m)) 0 (map (slice n m) v)) [])
        ∙ ap (dealt (is_kind kind) tags) (vector-walk (tags_for n (of_kind kind tags) m) (map (slice n m) v)))
        (vectors-dealt j (suc m) v (omega arith))

  module _ (n k s : ℕ) (tab : List ℕ) (z : Slicing n k) (held : Holds n k s (of_kind kind tags) (vector_in kind n tags) tab) (lawful : LawfulTags tags) where
    few : length tags ≤ most_tags
    unfolding LawfulTags
    few = lawful.0

    all : 2 ^ (k * n) ≡ 256
    all = ap (λ (x : ℕ). 2 ^ x) z.byte

    flagged-kind : (v : Word) → Below 256 v
        → flagged n s tab (place_after n (of_kind kind tags) 0 k (word_as kind v)) ≡ kind_at kind tags v
    unfolding flagged vectors slices
    flagged-kind v hv =
        ap (λ (l : List ℕ). ones_of 0 16 (anded 65535 l)) (vectors-dealt n k s tab held k 0 (word_as kind v) (omega arith))
        ∙ ap (ones_of 0 16) (over k z all)
        ∙ ap (ones_of 0 16) (found-dealt kind tags v)
        ∙ ones_of-vector (λ t. is_kind kind t && ends_by t v) tags 0 16 few
      where
        over : (k : ℕ) → Slicing n k → 2 ^ (k * n) ≡ 256
            → anded 65535 (map (dealt (is_kind kind) tags) (vectors (slices n 0 k) (of_kind kind tags) (word_as kind v)))
            ≡ dealt (is_kind kind) tags (vector (of_kind kind tags) (word_as kind v))
        over zero z e = absurd (omega (arith, z.machines))
        over (suc j) z e =
            let us = of_kind kind tags in
            let first = vector (reduced (slice n 0) us) (map (slice n 0) (word_as kind v)) in
            let least : length (reduced (slice n 0) us) ≤ 16 = omega (arith, reduced-length (slice n 0) us, of_kind-few kind tags, few) in
            dealt-anded (is_kind kind) tags first (vectors (slices n 1 j) us (word_as kind v)) few
            (lt_of_lt_of_le (vector_lt (reduced (slice n 0) us) (map (slice n 0) (word_as kind v))) (pow_mono least))
            ∙ ap (dealt (is_kind kind) tags) (and_slices n j us (word_as kind v)
            (subst (λ (x : ℕ). AllBelow x us) (sym e) (of_kind-lawful kind tags lawful).bytes)
            (subst (λ (x : ℕ). Below x (word_as kind v)) (sym e) (word_as-below kind v hv)) (omega (arith, of_kind-few kind tags, few)))

    -- A PART'S STEP
    pub part-goes : (v : Word) (c : ℕ) → Below 256 v → c < 256
        → table_step n s tab (place_after n (of_kind kind tags) 0 k (word_as kind v)) (as_read kind c)
        ≡ goes_to (place_after n (of_kind kind tags) 0 k (word_as kind (v ++ c ∷ []))) (kind_at kind tags (v ++ c ∷ []))
    part-goes v c hv hc =
        table_step-goes n s tab (place_after n (of_kind kind tags) 0 k (word_as kind v)) (as_read kind c)
        (rw onward (below-place_after n k s (of_kind kind tags) (vector_in kind n tags) tab held k 0 (word_as kind (v ++ c ∷ [])) (omega arith)))
        ∙ rw (onward, flagged-kind (v ++ c ∷ []) (below_snoc 256 v c hv hc)) refl
      where
        onward : nexts n s tab 0 (place_after n (of_kind kind tags) 0 k (word_as kind v)) (as_read kind c)
            ≡ place_after n (of_kind kind tags) 0 k (word_as kind (v ++ c ∷ []))
        onward =
            nexts-place_after n k s (of_kind kind tags) (vector_in kind n tags) tab held k 0 (word_as kind v) (as_read kind c) (omega arith)
            ∙ ap (place_after n (of_kind kind tags) 0 k) (sym (word_as_append kind v (c ∷ [])))
