-- Tags that equal an earlier one.
use Rattle.std.specs.Prelude.{◌+◌, ◌<◌, ◌≤◌, suc, zero, ℕ, false, true, [], ◌++◌, ◌∷◌, ◌⊎◌, ◌≡◌, refl, eqb, drop, get_or, length, take}
use Rattle.std.proofs.Common.{inl, inr, ◌∙◌, ap, subst, sym, arith, drop_of_length-le, drop-cons, get_or-take, length-take-le, take-suc, eq-eqb}
use Rattle.std.proofs.Math.Decide.{ℕ_discrete}
use Rattle.std.proofs.Math.Seq.{take_all}
use Rattle.matching.specs.Laws.Bools.{and_both, and_l, and_r, decided, is_false, not-both, or_cases, or_l, or_r}
use Rattle.matching.specs.Laws.Words.{eqb_eq, same_eq, same_self}
use Rattle.matching.specs.Tags.{Tag, Tags, no_tag, word_as}
use Rattle.matching.specs.Words.{Word, same}
use Rattle.tagset.specs.Grammar.{SetOf, among_tags, bad_set, distinct, good_set, same_tag}
use Rattle.tagset.specs.Refusals.{Equal, FirstRepeat, NoRepeats, Repeats}
use Rattle.tagset.specs.declared.SetFault.TheVariants.{Repeat}

-- ---- an earlier tag, found by its number

same_equal : (a b : Tag) → same_tag a b ≡ true → Equal b a
same_equal a b e =
    let k : b.kind ≡ a.kind = eqb_eq b.kind a.kind (and_l (eqb b.kind a.kind) (same (word_as a.kind a.word) (word_as a.kind b.word)) e) in
    let w = same_eq (word_as a.kind a.word) (word_as a.kind b.word)
    (and_r (eqb b.kind a.kind) (same (word_as a.kind a.word) (word_as a.kind b.word)) e) in
    record { kind = k; read = ap (λ (x : ℕ). word_as x b.word) k ∙ sym w }

equal_same : (a b : Tag) → Equal b a → same_tag a b ≡ true
equal_same a b q =
    and_both (eqb b.kind a.kind) (same (word_as a.kind a.word) (word_as a.kind b.word)) (eq-eqb b.kind a.kind q.kind)
    (subst (λ (w : Word). same (word_as a.kind a.word) w ≡ true) (sym q.read ∙ ap (λ (x : ℕ). word_as x b.word) q.kind)
    (same_self (word_as a.kind a.word)))

among-at : (t : Tag) (tags : Tags) (j : ℕ) → j < length tags → Equal (get_or tags j no_tag) t → among_tags t tags ≡ true
unfolding among_tags
among-at t [] j h q = absurd (omega arith)
among-at t (u ∷ tags) zero h q = or_l (same_tag t u) (among_tags t tags) (equal_same t u q)
among-at t (u ∷ tags) (suc j) h q = or_r (same_tag t u) (among_tags t tags) (among-at t tags j (omega arith) q)

among-found : (t : Tag) (tags : Tags) → among_tags t tags ≡ true → (j : ℕ) × (j < length tags) × Equal (get_or tags j no_tag) t
unfolding among_tags
among-found t [] e = absurd (not-both e refl)
among-found t (u ∷ tags) e = go (or_cases (same_tag t u) (among_tags t tags) e) (among-found t tags)
  where
    go : (same_tag t u ≡ true) ⊎ (among_tags t tags ≡ true) → (among_tags t tags ≡ true → (j : ℕ) × (j < length tags) × Equal (get_or tags j no_tag) t)
        → (j : ℕ) × (j < suc (length tags)) × Equal (get_or (u ∷ tags) j no_tag) t
    go (inl h) more = (0, omega arith, same_equal t u h)
    go (inr h) more = let r = more h in (suc r.0, omega (arith, r.1), r.2)

pub repeats-among : (ts : Tags) (k : ℕ) → k < length ts → Repeats ts k → among_tags (get_or ts k no_tag) (take k ts) ≡ true
repeats-among ts k h (j, l, q) =
    among-at (get_or ts k no_tag) (take k ts) j (omega (arith, length-take-le k ts (omega arith)))
    (subst (λ (t : Tag). Equal t (get_or ts k no_tag)) (sym (get_or-take k ts j no_tag l)) q)

pub among-repeats : (ts : Tags) (k : ℕ) → k < length ts → among_tags (get_or ts k no_tag) (take k ts) ≡ true → Repeats ts k
among-repeats ts k h a =
    let r = among-found (get_or ts k no_tag) (take k ts) a in
    let l : r.0 < k = omega (arith, r.1, length-take-le k ts (omega arith)) in
    (r.0, l, subst (λ (t : Tag). Equal t (get_or ts k no_tag)) (get_or-take k ts r.0 no_tag l) r.2)

-- ---- from tag to tag

one_hit : (before : Tags) (i : ℕ) (t : Tag) (ts : Tags) → among_tags t before ≡ true → distinct before i (t ∷ ts) ≡ bad_set (Repeat i)
unfolding distinct
one_hit before i t ts a = rw (distinct, a)

one_miss : (before : Tags) (i : ℕ) (t : Tag) (ts : Tags) → among_tags t before ≡ false
    → distinct before i (t ∷ ts) ≡ distinct (before ++ t ∷ []) (suc i) ts
unfolding distinct
one_miss before i t ts a = rw (distinct, a)

module _ (ts : Tags) where
  pub distinct_hit : (i : ℕ) → i < length ts → among_tags (get_or ts i no_tag) (take i ts) ≡ true → distinct (take i ts) i (drop i ts) ≡ bad_set (Repeat i)
  distinct_hit i h a = ap (distinct (take i ts) i) (drop-cons ts i no_tag h) ∙ one_hit (take i ts) i (get_or ts i no_tag) (drop (suc i) ts) a

  pub distinct_miss : (i : ℕ) → i < length ts → among_tags (get_or ts i no_tag) (take i ts) ≡ false
      → distinct (take i ts) i (drop i ts) ≡ distinct (take (suc i) ts) (suc i) (drop (suc i) ts)
  distinct_miss i h a =
      ap (distinct (take i ts) i) (drop-cons ts i no_tag h)
      ∙ one_miss (take i ts) i (get_or ts i no_tag) (drop (suc i) ts) a
      ∙ ap (λ (b : Tags). distinct b (suc i) (drop (suc i) ts)) (sym (take-suc ts i no_tag h))

  pub distinct-end : (i : ℕ) → length ts ≤ i → distinct (take i ts) i (drop i ts) ≡ good_set ts
  unfolding distinct
  distinct-end i h = rw (drop_of_length-le ts h, take_all i ts h)

  distinct_from : (i : ℕ) → i ≤ length ts → ((j : ℕ) → j < i → Repeats ts j → ⊥) → distinct [] 0 ts ≡ distinct (take i ts) i (drop i ts)
  distinct_from zero h n = refl
  distinct_from (suc i) h n =
      distinct_from i (omega arith) (λ j l. n j (omega arith))
      ∙ distinct_miss i h (is_false _ (λ a. n i (omega arith) (among-repeats ts i h a)))

  pub distinct-first : (k : ℕ) → FirstRepeat ts k → distinct [] 0 ts ≡ bad_set (Repeat k)
  distinct-first k f =
      distinct_from k (omega (arith, f.tag)) f.lowest ∙ distinct_hit k f.tag (repeats-among ts k f.tag f.repeats)

  pub distinct_none : NoRepeats ts → distinct [] 0 ts ≡ good_set ts
  distinct_none n = distinct_from (length ts) (omega arith) n ∙ distinct-end (length ts) (omega arith)

  -- either no two are equal, or there is a lowest that equals an earlier one
  pub data DistinctCase : SetOf → Type 0 where
    none_repeats : NoRepeats ts → DistinctCase (good_set ts)
    one_repeats : {k : ℕ} → FirstRepeat ts k → DistinctCase (bad_set (Repeat k))

  judge : (n i : ℕ) → i + n ≡ length ts → ((j : ℕ) → j < i → Repeats ts j → ⊥) → DistinctCase (distinct (take i ts) i (drop i ts))
  judge zero i e clean = rw (distinct-end i (omega arith)) (none_repeats (λ k h. clean k (omega arith)))
  judge (suc n) i e clean = go (decided (among_tags (get_or ts i no_tag) (take i ts))) (judge n (suc i))
    where
      h : i < length ts
      h = omega arith

      go : (among_tags (get_or ts i no_tag) (take i ts) ≡ true) ⊎ (among_tags (get_or ts i no_tag) (take i ts) ≡ false)
          → (suc i + n ≡ length ts → ((j : ℕ) → j < suc i → Repeats ts j → ⊥) → DistinctCase (distinct (take (suc i) ts) (suc i) (drop (suc i) ts)))
          → DistinctCase (distinct (take i ts) i (drop i ts))
      go (inl a) ih = rw (distinct_hit i h a) (one_repeats (record { tag = h; repeats = among-repeats ts i h a; lowest = clean }))
      go (inr a) ih = rw (distinct_miss i h a) (ih (omega arith) more)
        where
          more : (j : ℕ) → j < suc i → Repeats ts j → ⊥
          more j l r = at (ℕ_discrete j i)
            where
              at : Dec (j ≡ i) → ⊥
              at (yes z) = not-both (repeats-among ts i h (subst (Repeats ts) z r)) a
              at (no z) = clean j (omega arith) r

  pub distinct_case : DistinctCase (distinct [] 0 ts)
  distinct_case = judge (length ts) 0 (omega arith) (λ j l. absurd (omega arith))
