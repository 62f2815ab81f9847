-- How many states a machine can need.
use Rattle.std.specs.Prelude.{◌^◌, ◌≤◌, min, suc, ℕ, true, List, [], ◌∷◌, ◌⊎◌, ◌≡◌, length}
use Rattle.std.proofs.lemmas.Bool.{false≢true}
use Rattle.std.proofs.Common.{inl, inr, ap, arith, length-append}
use Rattle.matching.specs.Laws.Bools.{or_cases}
use Rattle.matching.specs.Laws.Counting.{sum_to}
use Rattle.matching.specs.Laws.Words.{begins-split}
use Rattle.matching.specs.Words.{AllShort, Word, begins, begins_one}

-- ---- the bound

pub begins-short : (l : ℕ) (ts : List Word) (v : Word) → AllShort l ts → begins_one v ts ≡ true → length v ≤ l
unfolding begins_one
begins-short l [] v h e = absurd (false≢true e)
begins-short l (t ∷ ts) v h e = go (or_cases (begins v t) (begins_one v ts) e) (begins-short l ts v h.1)
  where
    go : (begins v t ≡ true) ⊎ (begins_one v ts ≡ true) → (begins_one v ts ≡ true → length v ≤ l) → length v ≤ l
    go (inl i) ih = let r = begins-split v t i in omega (arith, h.0, ap {B = ℕ} length r.1, length-append v r.0)
    go (inr i) ih = ih i

-- with at most 16 tags of at most l letters, each letter below r
unfoldable pub most : ℕ → ℕ → ℕ
most r l = sum_to (suc l) (λ d. min (r ^ d) 16)
