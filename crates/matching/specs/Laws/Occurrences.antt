-- The laws of occurrences, whatever is looked for: over a cut, which there are, and in which order; then those of tags.
use Prim.Native.Nat.{◌+◌, ◌<◌, ◌≤◌, suc, zero, ℕ}
use Rattle.std.specs.Prelude.{Bool, false, true, ◌↔◌, ◌⊎◌, ◌≡◌, take}
use mathlib.Core.List.Memᴰ
use mathlib.Core.List.{List, Memᴰ, [], ◌++◌, ◌∷◌, append_assoc}
use Rattle.std.proofs.Common.{append-nil, inl, inr, ◌∙◌, arith}
use Rattle.std.proofs.Math.Path.{ap, ap₂, subst, sym}
use Rattle.std.proofs.Math.ListN.{length}
use Rattle.matching.specs.Laws.Bits.{numbers_where_hit, numbers_where_miss}
use Rattle.matching.specs.Laws.Bools.{decided}
use Rattle.matching.specs.Laws.Matches.{occur_at_has, occur_at_only}
use Rattle.matching.specs.Laws.Stepping.{Every, Rising, every-all, every_append, every_map, every-occur_at, rising_before}
use Rattle.matching.specs.Occurrence.{Occurrence, Ordered, numbers_where, occur_at, occurrences_by}
use Rattle.matching.specs.Words.{Word}

module _ (f : Word → List ℕ) where
  -- over a cut
  pub occurrences_by_append : (v : Word) (count : ℕ) (a b : Word) → occurrences_by f v count (a ++ b) ≡ occurrences_by f v count a ++ occurrences_by f (v ++ a)
      (count + length a) b
  unfolding occurrences_by
  occurrences_by_append v count [] b = ap₂ (λ (u : Word) (e : ℕ). occurrences_by f u e b) (sym (append-nil v)) (omega arith)
  occurrences_by_append v count (c ∷ a) b =
      ap {B = List Occurrence} (λ (l : List Occurrence). occur_at (suc count) (f (v ++ c ∷ [])) ++ l)
      (occurrences_by_append (v ++ c ∷ []) (suc count) a b
      ∙ ap₂ (λ (u : Word) (e : ℕ). occurrences_by f (v ++ c ∷ []) (suc count) a ++ occurrences_by f u e b) (append_assoc v (c ∷ []) a) (omega arith))
      ∙ sym (append_assoc (occur_at (suc count) (f (v ++ c ∷ []))) (occurrences_by f (v ++ c ∷ []) (suc count) a)
      (occurrences_by f (v ++ c ∷ a) (count + length (c ∷ a)) b))

  -- o is what f finds of the input v ++ w at its first length v + j + 1 bytes, count + j + 1 by the count
  pub record FoundAt (v : Word) (count : ℕ) (w : Word) (o : Occurrence) (j : ℕ) : Type 0 where
    pub inside : j < length w
    pub counted : o.end ≡ suc (count + j)
    pub there : Memᴰ o.tag (f (v ++ take (suc j) w))

  pub occurrences_by_only : (w v : Word) (count : ℕ) (o : Occurrence) → Memᴰ o (occurrences_by f v count w) → (j : ℕ) × FoundAt v count w o j
  unfolding occurrences_by
  occurrences_by_only [] v count o m = absurd (Memᴰ.not-nil m)
  occurrences_by_only (c ∷ w) v count o m = go (Memᴰ.append_cases (occur_at (suc count) (f (v ++ c ∷ []))) m)
      (occurrences_by_only w (v ++ c ∷ []) (suc count) o)
    where
      go : Memᴰ o (occur_at (suc count) (f (v ++ c ∷ []))) ⊎ Memᴰ o (occurrences_by f (v ++ c ∷ []) (suc count) w)
          → (Memᴰ o (occurrences_by f (v ++ c ∷ []) (suc count) w) → (j : ℕ) × FoundAt (v ++ c ∷ []) (suc count) w o j)
          → (j : ℕ) × FoundAt v count (c ∷ w) o j
      go (inl k) ih = let a = occur_at_only (suc count) (f (v ++ c ∷ [])) o k in
          (0, record { inside = omega arith; counted = omega (arith, a.0); there = a.1 })
      go (inr k) ih =
          let r = ih k in (
            suc r.0,
            record {
              inside = omega (arith, r.1.inside);
              counted = omega (arith, r.1.counted);
              there = subst (λ (u : Word). Memᴰ o.tag (f u)) (append_assoc v (c ∷ []) (take (suc r.0) w)) r.1.there;
            },
          )

  pub occurrences_by_has : (w v : Word) (count : ℕ) (o : Occurrence) (j : ℕ) → FoundAt v count w o j → Memᴰ o (occurrences_by f v count w)
  unfolding occurrences_by
  occurrences_by_has [] v count o j r = absurd (omega (arith, r.inside))
  occurrences_by_has (c ∷ w) v count o zero r =
      Memᴰ.append_left (occurrences_by f (v ++ c ∷ []) (suc count) w) (occur_at_has (suc count) (f (v ++ c ∷ [])) o (omega (arith, r.counted)) r.there)
  occurrences_by_has (c ∷ w) v count o (suc j) r =
      Memᴰ.append_right (occur_at (suc count) (f (v ++ c ∷ []))) (occurrences_by_has w (v ++ c ∷ []) (suc count) o j (record {
        inside = omega (arith, r.inside);
        counted = omega (arith, r.counted);
        there = subst (λ (u : Word). Memᴰ o.tag (f u)) (sym (append_assoc v (c ∷ []) (take (suc j) w))) r.there;
      }))

  -- the record (e, i) is found exactly if f finds i at the first e bytes
  pub found_iff : (w : Word) (e i : ℕ) → Memᴰ (record { end = e; tag = i }) (occurrences_by f [] 0 w) ↔
      ((0 < e) × (e ≤ length w) × Memᴰ i (f (take e w)))
  found_iff w e i = (there, back e)
    where
      there : Memᴰ (record { end = e; tag = i }) (occurrences_by f [] 0 w) → (0 < e) × (e ≤ length w) × Memᴰ i (f (take e w))
      there m =
          let r = occurrences_by_only w [] 0 (record { end = e; tag = i }) m in
          let q : suc r.0 ≡ e = omega (arith, r.1.counted) in
          (omega arith, omega (arith, r.1.inside), subst (λ (x : ℕ). Memᴰ i (f (take x w))) q r.1.there)

      back : (x : ℕ) → (0 < x) × (x ≤ length w) × Memᴰ i (f (take x w)) → Memᴰ (record { end = x; tag = i }) (occurrences_by f [] 0 w)
      back zero h = absurd (omega (arith, h.0))
      back (suc j) h = occurrences_by_has w [] 0 (record { end = suc j; tag = i }) j
          (record { inside = omega (arith, h.1); counted = omega arith; there = h.2 })

  -- by end, then by number
  occurrences_by_late : (w v : Word) (count : ℕ) → Every (λ o. count < o.end) (occurrences_by f v count w)
  unfolding occurrences_by
  occurrences_by_late [] v count = tt
  occurrences_by_late (c ∷ w) v count = every_append (λ o. count < o.end) (occur_at (suc count) (f (v ++ c ∷ []))) (occurrences_by f (v ++ c ∷ []) (suc count) w)
      (every-occur_at (λ o. count < o.end) (suc count) (f (v ++ c ∷ [])) (every-all _ (f (v ++ c ∷ [])) (λ i. omega arith)))
      (every_map (λ o. suc count < o.end) _ (occurrences_by f (v ++ c ∷ []) (suc count) w) (λ o h. omega (arith, h))
      (occurrences_by_late w (v ++ c ∷ []) (suc count)))

  pub occurrences_by-ordered : ((v : Word) → Rising (f v)) → (w v : Word) (count : ℕ) → Ordered (occurrences_by f v count w)
  unfolding occurrences_by
  occurrences_by-ordered h [] v count = tt
  occurrences_by-ordered h (c ∷ w) v count =
      rising_before (suc count) (f (v ++ c ∷ [])) (occurrences_by f (v ++ c ∷ []) (suc count) w) (h (v ++ c ∷ []))
      (occurrences_by-ordered h w (v ++ c ∷ []) (suc count)) (occurrences_by_late w (v ++ c ∷ []) (suc count))

-- ---- numbers of what is found rise

pub numbers_where_rising : {A : Type 0} (g : A → Bool) (ts : List A) (i : ℕ) → Every (λ j. i ≤ j) (numbers_where g i ts) × Rising (numbers_where g i ts)
unfolding numbers_where
numbers_where_rising g [] i = (tt, tt)
numbers_where_rising {A} g (t ∷ ts) i = go (decided (g t)) (numbers_where_rising g ts (suc i))
  where
    low : Every (λ j. suc i ≤ j) (numbers_where g (suc i) ts) → Every (λ j. i ≤ j) (numbers_where g (suc i) ts)
    low h = every_map (λ j. suc i ≤ j) _ (numbers_where g (suc i) ts) (λ j l. omega (arith, l)) h

    go : (g t ≡ true) ⊎ (g t ≡ false) → Every (λ j. suc i ≤ j) (numbers_where g (suc i) ts) × Rising (numbers_where g (suc i) ts)
        → Every (λ j. i ≤ j) (numbers_where g i (t ∷ ts)) × Rising (numbers_where g i (t ∷ ts))
    go (inl e) ih = rw (numbers_where_hit g i t ts e) ((omega arith, low ih.0), (ih.0, ih.1))
    go (inr e) ih = rw (numbers_where_miss g i t ts e) (low ih.0, ih.1)
