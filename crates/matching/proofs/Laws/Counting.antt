-- Counting words by their length: at each length no more than there are words, and no more than there are tags.
use Rattle.std.specs.Prelude.{◌+◌, ◌≤◌, suc, ℕ, Bool, cond, false, true, List, [], ◌++◌, ◌∷◌, ◌⊎◌, ◌≡◌, length}
use Rattle.std.proofs.Common.{inl, inr, le_refl, arith, length-append}
use Rattle.std.proofs.Math.Decide.{ℕ_discrete}
use Rattle.matching.specs.Laws.Bools.{decided}
use Rattle.matching.specs.Laws.Prefixes.{with_word-new, with_word-old}
use Rattle.matching.specs.Machine.{prefixes, with_prefixes, with_tags, with_word}
use Rattle.matching.specs.Words.{Word, among}
use Rattle.matching.specs.Laws.Counting.{tally, deep, deep-no, one_le}

-- ---- no more than there are tags

tally_append : (g : Word → Bool) (ps qs : List Word) → tally g (ps ++ qs) ≡ tally g ps + tally g qs
unfolding tally
tally_append g [] qs = omega arith
tally_append g (p ∷ ps) qs = omega (arith, tally_append g ps qs)

with_word-tally : (g : Word → Bool) (ps : List Word) (w : Word) → tally g (with_word ps w) ≤ tally g ps + cond (g w) 1 0
unfolding tally
with_word-tally g ps w = go (decided (among w ps))
  where
    go : (among w ps ≡ true) ⊎ (among w ps ≡ false) → tally g (with_word ps w) ≤ tally g ps + cond (g w) 1 0
    go (inl e) = rw (with_word-old ps w e) (omega arith)
    go (inr e) = rw (with_word-new ps w e) (omega (arith, tally_append g ps (w ∷ [])))

with_prefixes-below : (w : Word) (ps : List Word) (p : Word) (d : ℕ) → d ≤ length p → tally (deep d) (with_prefixes ps p w) ≤ tally (deep d) ps
unfolding with_prefixes
with_prefixes-below [] ps p d h = le_refl (tally (deep d) ps)
with_prefixes-below (x ∷ w) ps p d h =
    omega (
      arith,
      with_prefixes-below w (with_word ps (p ++ x ∷ [])) (p ++ x ∷ []) d (omega (arith, length-append p (x ∷ []))),
      with_word-tally (deep d) ps (p ++ x ∷ []),
      deep-no d (p ++ x ∷ []) (λ e. omega (arith, e, length-append p (x ∷ []))),
    )

with_prefixes-tally : (w : Word) (ps : List Word) (p : Word) (d : ℕ) → tally (deep d) (with_prefixes ps p w) ≤ tally (deep d) ps + 1
unfolding with_prefixes
with_prefixes-tally [] ps p d = omega arith
with_prefixes-tally (x ∷ w) ps p d = go (ℕ_discrete (suc (length p)) d) (with_prefixes-tally w (with_word ps (p ++ x ∷ [])) (p ++ x ∷ []) d)
  where
    go : Dec (suc (length p) ≡ d) → tally (deep d) (with_prefixes (with_word ps (p ++ x ∷ [])) (p ++ x ∷ []) w) ≤ tally (deep d) (with_word ps (p ++ x ∷ [])) + 1
        → tally (deep d) (with_prefixes (with_word ps (p ++ x ∷ [])) (p ++ x ∷ []) w) ≤ tally (deep d) ps + 1
    go (yes e) ih =
        omega (
          arith,
          with_prefixes-below w (with_word ps (p ++ x ∷ [])) (p ++ x ∷ []) d (omega (arith, length-append p (x ∷ []))),
          with_word-tally (deep d) ps
              (p ++ x ∷ []),
          one_le (deep d (p ++ x ∷ [])),
        )
    go (no ne) ih =
        omega (arith, with_word-tally (deep d) ps (p ++ x ∷ []), deep-no d (p ++ x ∷ []) (λ e. ne (omega (arith, length-append p (x ∷ [])))))

with_tags-tally : (ts ps : List Word) (d : ℕ) → tally (deep d) (with_tags ps ts) ≤ tally (deep d) ps + length ts
unfolding with_tags
with_tags-tally [] ps d = omega arith
with_tags-tally (t ∷ ts) ps d = omega (arith, with_tags-tally ts (with_prefixes ps [] t) d, with_prefixes-tally t ps [] d)

pub tally-tags : (ts : List Word) (d : ℕ) → tally (deep (suc d)) (prefixes ts) ≤ length ts
unfolding prefixes tally
tally-tags ts d = omega (arith, with_tags-tally ts ([] ∷ []) (suc d), deep-no (suc d) [] (λ e. omega arith))
