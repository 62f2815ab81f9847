-- One part of a layout: over a run that holds its machines, and from the place after an input, a byte leads to the place after it, and the tags found are
-- those of the part's kind that end there.
use Prim.Native.Nat.{◌%◌, ◌/◌, ◌<◌, ◌^◌, ℕ}
use Rattle.std.specs.Prelude.{Bool, ◌&&◌, cond, false, true, ◌⊎◌, ◌≡◌, get_or}
use mathlib.Core.List.{List, [], map}
use Rattle.std.proofs.Common.{inl, inr, ◌∙◌}
use Rattle.std.proofs.Math.Path.{ap, fun_ext, refl, sym}
use Rattle.std.proofs.Math.ListN.{length}
use Rattle.matching.specs.Laws.Bools.{decided}
use Rattle.matching.specs.Laws.Dealt.{dealt, dealt-vector}
use Rattle.matching.specs.Laws.Vectors.{vector_by_bit, vector_by-map}
use Rattle.matching.specs.Laws.Words.{eqb_eq}
use Rattle.matching.specs.Machine.{prefixes, states, vector, vector_by, with_tags}
use Rattle.matching.specs.Occurrence.{numbers_where}
use Rattle.matching.specs.Slicing.{reduced, slice}
use Rattle.matching.specs.Table.{tags_for, vector_in}
use Rattle.matching.specs.Tags.{Tag, Tags, ends_by, is_kind, no_tag, of_kind, word_as}
use Rattle.matching.specs.Words.{Word, ends}

-- the numbers of the tags of a kind that end an input
abbrev pub kind_at : ℕ → Tags → Word → List ℕ
kind_at kind tags v = numbers_where (λ t. is_kind kind t && ends_by t v) 0 tags

module _ (kind : ℕ) (tags : Tags) where
  -- bit i is tag i of the whole set: it is 1 exactly if that tag is of the kind and, reduced, ends the prefix
  pub vector_in_bit : (n m : ℕ) (p : Word) (i : ℕ) → i < length tags → vector_in kind n tags m p / 2 ^ i % 2
      ≡ cond (is_kind kind (get_or tags i no_tag) && ends (map (slice n m) (word_as kind (get_or tags i no_tag).word)) p) 1 0
  unfolding vector_in
  vector_in_bit n m p i h = vector_by_bit no_tag (λ t. is_kind kind t && ends (map (slice n m) (word_as kind t.word)) p) tags i h

  -- a machine of a kind that no tag has, has one state
  pub no-tags : (n m : ℕ) → of_kind kind tags ≡ [] → states (tags_for n (of_kind kind tags) m) ≡ 1
  unfolding states prefixes with_tags reduced
  no-tags n m e = ap (λ (ts : List Word). states (tags_for n ts m)) e

  -- a vector of the whole set is that of the kind's own tags, dealt out
  pub mark_dealt : (n m : ℕ) (p : Word) → vector_in kind n tags m p ≡ dealt (is_kind kind) tags (vector (tags_for n (of_kind kind tags) m) p)
  unfolding vector_in vector reduced of_kind
  mark_dealt n m p =
      sym (dealt-vector (is_kind kind) (λ t. word_as kind t.word) (λ u. ends (map (slice n m) u) p) tags)
      ∙ ap (dealt (is_kind kind) tags) (sym (vector_by-map (λ t. ends t p) (map (slice n m)) (of_kind kind tags)))

  -- what is found by the kind's own tags in an input that is read so, is found by the tags of the kind in the input itself
  pub found-dealt : (v : Word) → dealt (is_kind kind) tags (vector (of_kind kind tags) (word_as kind v)) ≡ vector_by (λ t. is_kind kind t && ends_by t v) tags
  unfolding vector of_kind ends_by
  found-dealt v =
      dealt-vector (is_kind kind) (λ t. word_as kind t.word) (λ u. ends u (word_as kind v)) tags
      ∙ ap (λ (g : Tag → Bool). vector_by g tags) (fun_ext own)
    where
      own : (t : Tag) → (is_kind kind t && ends (word_as kind t.word) (word_as kind v))
          ≡ (is_kind kind t && ends (word_as t.kind t.word) (word_as t.kind v))
      own t = go (decided (is_kind kind t))
        where
          go : (is_kind kind t ≡ true) ⊎ (is_kind kind t ≡ false) → (is_kind kind t && ends (word_as kind t.word) (word_as kind v))
              ≡ (is_kind kind t && ends (word_as t.kind t.word) (word_as t.kind v))
          go (inl e) = ap (λ (x : ℕ). is_kind kind t && ends (word_as x t.word) (word_as x v)) (sym (eqb_eq t.kind kind e))
          go (inr e) = rw e refl
