-- What is known of the tags of a set.
use Rattle.std.specs.Coded.{×_prop, Unit-prop, le_prop}
use Rattle.std.specs.Prelude.{ℕ, suc, ◌<◌, ◌≤◌, Bool, false, ◌↔◌, ◌⊎◌, ◌≡◌, refl, get_or, length, take}
use Rattle.std.proofs.Math.Bool.{true}
use Rattle.std.proofs.Props.{props}
use mathlib.Core.List.{List, Memᴰ, [], ◌∷◌, map}
use Rattle.std.proofs.Common.{inl, inr, ◌∙◌, ap₂, sym, zero-add, arith, ltb→lt, lt→ltb}
use Rattle.std.proofs.Math.Path.{ap, fun_ext, subst}
use Rattle.std.proofs.Math.Dec.{ltb}
use Rattle.std.proofs.lemmas.List.{length-map}
use Rattle.matching.specs.Kinds.{exact_kind}
use Rattle.matching.specs.Laws.Bits.{numbers_where_hit, numbers_where_miss}
use Rattle.matching.specs.Laws.Bools.{and_both, and_l, and_r, decided, is_true, to-T}
use Rattle.matching.specs.Laws.Kinds.{chosen-few, chosen_hit, chosen_miss, word_as-below, word_as-exact, word_as-length}
use Rattle.matching.specs.Laws.Matches.{numbers_where_has, numbers_where-length, numbers_where_only}
use Rattle.matching.specs.Laws.Occurrences.{found_iff, numbers_where_rising, occurrences_by-ordered}
use Rattle.matching.specs.Laws.Stepping.{Rising}
use Rattle.matching.specs.Limits.{longest_tag, most_tags}
use Rattle.matching.specs.Occurrence.{Ordered, numbers_where, occurrences_by, occurrences_from, tags_ending}
use Rattle.matching.specs.Tags.{AllLawful, LawfulTags, Tag, Tags, chosen, ends_by, exact, exact_tag, found_from, found_in, is_kind, no_tag, of_kind}
use Rattle.matching.specs.Tags.{tag_count, tag_ends, tags_at, word_as}
use Rattle.matching.specs.Words.{AllBelow, AllShort, Below, Lawful, Word, ends}

-- ---- tags that are matched byte for byte: what is found of them is what is found of their words

pub exact-ends : (t w : Word) → ends_by (exact_tag t) w ≡ ends t w
unfolding ends_by
exact-ends t w = ap₂ ends (word_as-exact t) (word_as-exact w)

numbers_where-map : {A B : Type 0} (g : B → Bool) (f : A → B) (ts : List A) (i : ℕ) → numbers_where g i (map f ts) ≡ numbers_where (λ t. g (f t)) i ts
unfolding numbers_where
numbers_where-map g f [] i = refl
numbers_where-map {A} g f (t ∷ ts) i = go (decided (g (f t))) (numbers_where-map g f ts (suc i))
  where
    go : (g (f t) ≡ true) ⊎ (g (f t) ≡ false) → numbers_where g (suc i) (map f ts) ≡ numbers_where (λ t. g (f t)) (suc i) ts
        → numbers_where g i (f t ∷ map f ts) ≡ numbers_where (λ t. g (f t)) i (t ∷ ts)
    go (inl e) ih =
        numbers_where_hit g i (f t) (map f ts) e ∙ ap {B = List ℕ} (λ (l : List ℕ). i ∷ l) ih ∙ sym (numbers_where_hit (λ t. g (f t)) i t ts e)
    go (inr e) ih = numbers_where_miss g i (f t) (map f ts) e ∙ ih ∙ sym (numbers_where_miss (λ t. g (f t)) i t ts e)

pub at_exact : (ts : List Word) (w : Word) → tags_at (exact ts) w ≡ tags_ending ts w
unfolding tags_at tags_ending
at_exact ts w = numbers_where-map (λ t. ends_by t w) exact_tag ts 0 ∙ ap (λ (g : Word → Bool). numbers_where g 0 ts) (fun_ext (λ t. exact-ends t w))

pub found-exact : (ts : List Word) (v : Word) (count : ℕ) (w : Word) → found_from (exact ts) v count w ≡ occurrences_from ts v count w
found-exact ts v count w = ap (λ (f : Word → List ℕ). occurrences_by f v count w) (fun_ext (at_exact ts))

pub count-exact : (ts : List Word) → tag_count (exact ts) ≡ length ts
unfolding tag_count
count-exact ts = length-map ts exact_tag

-- ---- the tags of one kind

pub of_kind_nil : (kind : ℕ) → of_kind kind [] ≡ []
unfolding of_kind chosen
of_kind_nil kind = refl

module _ (kind : ℕ) (t : Tag) (tags : Tags) where
  pub of_kind_hit : is_kind kind t ≡ true → of_kind kind (t ∷ tags) ≡ word_as kind t.word ∷ of_kind kind tags
  unfolding of_kind
  of_kind_hit e = ap (map (λ (t : Tag). word_as kind t.word)) (chosen_hit (is_kind kind) t tags e)

  pub of_kind_miss : is_kind kind t ≡ false → of_kind kind (t ∷ tags) ≡ of_kind kind tags
  unfolding of_kind
  of_kind_miss e = ap (map (λ (t : Tag). word_as kind t.word)) (chosen_miss (is_kind kind) t tags e)

pub of_kind-few : (kind : ℕ) (tags : Tags) → length (of_kind kind tags) ≤ length tags
unfolding of_kind
of_kind-few kind tags = omega (arith, length-map (chosen (is_kind kind) tags) (λ (t : Tag). word_as kind t.word), chosen-few (is_kind kind) tags)

pub of_kind-lawful : (kind : ℕ) (tags : Tags) → LawfulTags tags → Lawful (of_kind kind tags)
unfolding LawfulTags
of_kind-lawful kind tags l = record { few = omega (arith, l.0, of_kind-few kind tags); short = (all tags l.1).0; bytes = (all tags l.1).1 }
  where
    all : (us : Tags) → AllLawful us → AllShort longest_tag (of_kind kind us) × AllBelow 256 (of_kind kind us)
    all [] h = rw (of_kind_nil kind) (tt, tt)
    all (u ∷ us) h = go (decided (is_kind kind u)) (all us h.1)
      where
        go : (is_kind kind u ≡ true) ⊎ (is_kind kind u ≡ false) → AllShort longest_tag (of_kind kind us) × AllBelow 256 (of_kind kind us)
            → AllShort longest_tag (of_kind kind (u ∷ us)) × AllBelow 256 (of_kind kind (u ∷ us))
        go (inl e) ih = rw (of_kind_hit kind u us e)
            ((omega (arith, h.0.short, word_as-length kind u.word), ih.0), (word_as-below kind u.word h.0.bytes, ih.1))
        go (inr e) ih = rw (of_kind_miss kind u us e) ih

pub of_kind-exact : (ts : List Word) → of_kind exact_kind (exact ts) ≡ ts
of_kind-exact [] = of_kind_nil exact_kind
of_kind-exact (t ∷ ts) = of_kind_hit exact_kind (exact_tag t) (exact ts) refl ∙ ap₂ ◌∷◌ (word_as-exact t) (of_kind-exact ts)

-- ---- what is found

module _ (tags : Tags) where
  pub lawful-few : LawfulTags tags → tag_count tags ≤ most_tags
  unfolding LawfulTags tag_count
  lawful-few l = l.0

  pub ends_iff : (i : ℕ) (w : Word) → (tag_ends tags i w ≡ true) ↔ ((i < tag_count tags) × (ends_by (get_or tags i no_tag) w ≡ true))
  unfolding tag_ends tag_count
  ends_iff i w =
      let within = ltb i (length tags) in
      let it = ends_by (get_or tags i no_tag) w in (
        λ e. (ltb→lt i (length tags) (to-T within (and_l within it e)), and_r within it e),
        λ h. and_both within it (is_true within (lt→ltb i (length tags) h.0)) h.1,
      )

  -- a tag is found where it ends
  pub at_iff : (w : Word) (i : ℕ) → Memᴰ i (tags_at tags w) ↔ (tag_ends tags i w ≡ true)
  unfolding tags_at tag_count
  at_iff w i = (there, back)
    where
      there : Memᴰ i (numbers_where (λ t. ends_by t w) 0 tags) → tag_ends tags i w ≡ true
      there m =
          let r = numbers_where_only no_tag (λ t. ends_by t w) tags 0 i m in
          let e : r.0 ≡ i = omega (arith, r.1) in
          (ends_iff i w).1 (omega (arith, e, r.2), subst (λ (j : ℕ). ends_by (get_or tags j no_tag) w ≡ true) e r.3)

      back : tag_ends tags i w ≡ true → Memᴰ i (numbers_where (λ t. ends_by t w) 0 tags)
      back e =
          let h = (ends_iff i w).0 e in
          subst (λ (j : ℕ). Memᴰ j (numbers_where (λ t. ends_by t w) 0 tags)) (zero-add i)
          (numbers_where_has no_tag (λ t. ends_by t w) tags 0 i h.0 h.1)

  -- no byte has more matches than there are tags
  pub at-few : (w : Word) → length (tags_at tags w) ≤ tag_count tags
  unfolding tags_at tag_count
  at-few w = numbers_where-length (λ t. ends_by t w) 0 tags

  pub ends-among : (i : ℕ) (w : Word) → tag_ends tags i w ≡ true → i < tag_count tags
  ends-among i w e = ((ends_iff i w).0 e).0

  pub at_rising : (w : Word) → Rising (tags_at tags w)
  unfolding tags_at
  at_rising w = (numbers_where_rising (λ t. ends_by t w) tags 0).1

  pub found-ordered : (w v : Word) (count : ℕ) → Ordered (found_from tags v count w)
  found-ordered = occurrences_by-ordered (tags_at tags) at_rising

  -- WHAT IS FOUND: the record (e, i) exactly if tag i ends the first e bytes of the input
  pub tag-found_iff : (w : Word) (e i : ℕ) → Memᴰ (record { end = e; tag = i }) (found_in tags w) ↔
      ((0 < e) × (e ≤ length w) × (tag_ends tags i (take e w) ≡ true))
  tag-found_iff w e i = (
    λ m. (let h = (found_iff (tags_at tags) w e i).0 m in (h.0, h.1, (at_iff (take e w) i).0 h.2)),
    λ h. (found_iff (tags_at tags) w e i).1 (h.0, h.1, (at_iff (take e w) i).1 h.2),
  )

-- ---- that tags are lawful is said in one way only

below_prop : (m : ℕ) (l : List ℕ) → IsProp (Below m l)
below_prop m [] = Unit-prop
below_prop m (x ∷ l) = ×_prop le_prop (below_prop m l)

all_lawful_prop : (tags : Tags) → IsProp (AllLawful tags)
all_lawful_prop [] = Unit-prop
all_lawful_prop (t ∷ tags) = ×_prop (hlevel (props, below_prop 256 t.word)) (all_lawful_prop tags)

pub lawful_tags_prop : (tags : Tags) → IsProp (LawfulTags tags)
unfolding LawfulTags
lawful_tags_prop tags = ×_prop le_prop (all_lawful_prop tags)
