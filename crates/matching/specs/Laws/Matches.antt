-- The laws of what is found at one byte: which tags end there, and how many.
use Rattle.std.specs.Prelude.{◌+◌, ◌<◌, ◌≤◌, suc, zero, ℕ, Bool, false, true, ◌⊎◌, ◌≡◌, refl, get_or, length}
use mathlib.Core.List.Memᴰ
use mathlib.Core.List.{List, Memᴰ, [], ◌∷◌}
use Rattle.std.proofs.Common.{inl, inr, ap, add-zero, le_of_suc-le-suc, not-suc-le-zero, arith}
use Rattle.std.proofs.lemmas.List.{length-map}
use Rattle.matching.specs.Laws.Bits.{numbers_where_hit, numbers_where_miss}
use Rattle.matching.specs.Laws.Bools.{decided}
use Rattle.matching.specs.Occurrence.{Occurrence, numbers_where, occur_at}

pub occur_at-length : (e : ℕ) (is : List ℕ) → length (occur_at e is) ≡ length is
unfolding occur_at
occur_at-length e is = length-map is (λ i. record { end = e; tag = i })

-- no byte has more matches than there are tags
pub numbers_where-length : {A : Type 0} (g : A → Bool) (i : ℕ) (ts : List A) → length (numbers_where g i ts) ≤ length ts
unfolding numbers_where
numbers_where-length g i [] = omega arith
numbers_where-length g i (t ∷ ts) = go (decided (g t)) (numbers_where-length g (suc i) ts)
  where
    go : (g t ≡ true) ⊎ (g t ≡ false) → length (numbers_where g (suc i) ts) ≤ length ts → length (numbers_where g i (t ∷ ts)) ≤ suc (length ts)
    go (inl e) ih = rw (numbers_where_hit g i t ts e) (omega arith)
    go (inr e) ih = rw (numbers_where_miss g i t ts e) (omega arith)

-- ---- the tags that are found

pub numbers_where_has : {A : Type 0} (z : A) (g : A → Bool) (ts : List A) (i j : ℕ) → j < length ts → g (get_or ts j z) ≡ true
    → Memᴰ (i + j) (numbers_where g i ts)
numbers_where_has z g [] i j h e = absurd (not-suc-le-zero h)
numbers_where_has z g (t ∷ ts) i zero h e = rw (numbers_where_hit g i t ts e, add-zero i) (Memᴰ.head refl)
numbers_where_has {A} z g (t ∷ ts) i (suc j) h e = go (decided (g t)) (numbers_where_has z g ts (suc i) j (le_of_suc-le-suc h) e)
  where
    sum : suc i + j ≡ i + suc j
    sum = omega arith

    go : (g t ≡ true) ⊎ (g t ≡ false) → Memᴰ (suc i + j) (numbers_where g (suc i) ts) → Memᴰ (i + suc j) (numbers_where g i (t ∷ ts))
    go (inl q) m = rw (numbers_where_hit g i t ts q, ← sum) (Memᴰ.tail m)
    go (inr q) m = rw (numbers_where_miss g i t ts q, ← sum) m

pub numbers_where_only : {A : Type 0} (z : A) (g : A → Bool) (ts : List A) (i x : ℕ) → Memᴰ x (numbers_where g i ts)
    → (j : ℕ) × (x ≡ i + j) × (j < length ts) × (g (get_or ts j z) ≡ true)
unfolding numbers_where
numbers_where_only z g [] i x m = absurd (Memᴰ.not-nil m)
numbers_where_only {A} z g (t ∷ ts) i x m = go (decided (g t)) (numbers_where_only z g ts (suc i) x)
  where
    up : (j : ℕ) × (x ≡ suc i + j) × (j < length ts) × (g (get_or ts j z) ≡ true)
        → (j : ℕ) × (x ≡ i + j) × (j < suc (length ts)) × (g (get_or (t ∷ ts) j z) ≡ true)
    up r = (suc r.0, omega (arith, r.1), omega (arith, r.2), r.3)

    first : g t ≡ true → (x ≡ i) ⊎ Memᴰ x (numbers_where g (suc i) ts)
        → (Memᴰ x (numbers_where g (suc i) ts) → (j : ℕ) × (x ≡ suc i + j) × (j < length ts) × (g (get_or ts j z) ≡ true))
        → (j : ℕ) × (x ≡ i + j) × (j < suc (length ts)) × (g (get_or (t ∷ ts) j z) ≡ true)
    first q (inl e) ih = (0, omega (arith, e), omega arith, q)
    first q (inr k) ih = up (ih k)

    go : (g t ≡ true) ⊎ (g t ≡ false) → (Memᴰ x (numbers_where g (suc i) ts) → (j : ℕ) × (x ≡ suc i + j) × (j < length ts) × (g (get_or ts j z) ≡ true))
        → (j : ℕ) × (x ≡ i + j) × (j < suc (length ts)) × (g (get_or (t ∷ ts) j z) ≡ true)
    go (inl q) ih = first q (Memᴰ.cases_cons (rw (numbers_where_hit g i t ts q) at m)) ih
    go (inr q) ih = up (ih (rw (numbers_where_miss g i t ts q) at m))

-- ---- a byte's matches

pub occur_at_only : (e : ℕ) (tags : List ℕ) (o : Occurrence) → Memᴰ o (occur_at e tags) → (o.end ≡ e) × Memᴰ o.tag tags
unfolding occur_at
occur_at_only e [] o m = absurd (Memᴰ.not-nil m)
occur_at_only e (i ∷ tags) o m = go (Memᴰ.cases_cons m) (occur_at_only e tags o)
  where
    go : (o ≡ record { end = e; tag = i }) ⊎ Memᴰ o (occur_at e tags) → (Memᴰ o (occur_at e tags) → (o.end ≡ e) × Memᴰ o.tag tags)
        → (o.end ≡ e) × Memᴰ o.tag (i ∷ tags)
    go (inl q) ih = (ap (λ (p : Occurrence). p.end) q, Memᴰ.head (ap (λ (p : Occurrence). p.tag) q))
    go (inr k) ih = ((ih k).0, Memᴰ.tail (ih k).1)

pub occur_at_has : (e : ℕ) (tags : List ℕ) (o : Occurrence) → o.end ≡ e → Memᴰ o.tag tags → Memᴰ o (occur_at e tags)
unfolding occur_at
occur_at_has e [] o q m = absurd (Memᴰ.not-nil m)
occur_at_has e (i ∷ tags) o q m = go (Memᴰ.cases_cons m) (occur_at_has e tags o q)
  where
    go : (o.tag ≡ i) ⊎ Memᴰ o.tag tags → (Memᴰ o.tag tags → Memᴰ o (occur_at e tags)) → Memᴰ o (occur_at e (i ∷ tags))
    go (inl t) ih = Memᴰ.head (λ d. record { end = q d; tag = t d })
    go (inr k) ih = Memᴰ.tail (ih k)
