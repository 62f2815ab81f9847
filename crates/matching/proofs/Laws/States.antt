-- How many states a machine can need.
use Rattle.std.specs.Prelude.{◌<◌, ◌^◌, ◌≤◌, min, suc, zero, ℕ, true, List, [], ◌∷◌, map, ◌⊎◌, ◌≡◌, length}
use Rattle.std.proofs.lemmas.Bool.{false≢true}
use Rattle.std.proofs.Common.{inl, inr, ◌∙◌, ap, sym, le_of_eq, le_trans, arith}
use Rattle.std.proofs.Math.Nat.{le-min, pow-zero}
use Rattle.std.proofs.lemmas.List.{length-map}
use Rattle.matching.specs.Laws.Bools.{or_cases}
use Rattle.matching.specs.Laws.Counting.{by-depth, deep, every_of, sum_mono, sum_to, tally, tally-words}
use Rattle.matching.proofs.Laws.Counting.{tally-tags}
use Rattle.matching.proofs.Laws.Prefixes.{among-prefixes, tree}
use Rattle.matching.specs.Laws.Readings.{slice_lt}
use Rattle.matching.specs.Laws.Vectors.{reduced-length}
use Rattle.matching.specs.Laws.Words.{begins-split, below-front, same_eq}
use Rattle.matching.specs.Machine.{prefixes, states}
use Rattle.matching.specs.Slicing.{reduced, slice}
use Rattle.matching.specs.Table.{tags_for}
use Rattle.matching.specs.Words.{AllBelow, AllShort, Below, Lawful, Word, among, begins, begins_one, same}
use Rattle.matching.specs.Laws.States.{begins-short, most}

-- ---- the bound

begins-below : (m : ℕ) (ts : List Word) (v : Word) → AllBelow m ts → begins_one v ts ≡ true → Below m v
unfolding begins_one
begins-below m [] v h e = absurd (false≢true e)
begins-below m (t ∷ ts) v h e = go (or_cases (begins v t) (begins_one v ts) e) (begins-below m ts v h.1)
  where
    go : (begins v t ≡ true) ⊎ (begins_one v ts ≡ true) → (begins_one v ts ≡ true → Below m v) → Below m v
    go (inl i) ih = let r = begins-split v t i in below-front m v r.0 (rw r.1 at h.0)
    go (inr i) ih = ih i

-- a state is empty or begins a tag
state_cases : (ts : List Word) (v : Word) → among v (prefixes ts) ≡ true → (v ≡ []) ⊎ (begins_one v ts ≡ true)
state_cases ts v h = go (or_cases (same v []) (begins_one v ts) (sym (among-prefixes ts v) ∙ h))
  where
    go : (same v [] ≡ true) ⊎ (begins_one v ts ≡ true) → (v ≡ []) ⊎ (begins_one v ts ≡ true)
    go (inl e) = inl (same_eq v [] e)
    go (inr e) = inr e

pub states-most : (r l : ℕ) (ts : List Word) → AllBelow r ts → AllShort l ts → length ts ≤ 16 → states ts ≤ most r l
unfolding states most
states-most r l ts hb hs hn =
    le_trans (le_of_eq (by-depth (suc l) (prefixes ts) (every_of (λ p. length p < suc l) (prefixes ts) short)))
    (sum_mono (suc l) (λ d. tally (deep d) (prefixes ts)) (λ d. min (r ^ d) 16) (λ d hd. level d))
  where
    short : (v : Word) → among v (prefixes ts) ≡ true → length v < suc l
    short v h = go (state_cases ts v h)
      where
        go : (v ≡ []) ⊎ (begins_one v ts ≡ true) → length v < suc l
        go (inl e) = omega (arith, ap {B = ℕ} length e)
        go (inr e) = omega (arith, begins-short l ts v hs e)

    letters : (v : Word) → among v (prefixes ts) ≡ true → Below r v
    letters v h = go (state_cases ts v h)
      where
        go : (v ≡ []) ⊎ (begins_one v ts ≡ true) → Below r v
        go (inl e) = rw e tt
        go (inr e) = begins-below r ts v hb e

    words : (d : ℕ) → tally (deep d) (prefixes ts) ≤ r ^ d
    words d = tally-words d r (prefixes ts) (tree ts).distinct (every_of (Below r) (prefixes ts) letters)

    level : (d : ℕ) → tally (deep d) (prefixes ts) ≤ min (r ^ d) 16
    level zero = le-min (words zero) (omega (arith, words zero, pow-zero r))
    level (suc d) = le-min (words (suc d)) (le_trans (tally-tags ts d) hn)

-- the same of the tags cut to slices
reduced-short : (f : ℕ → ℕ) (l : ℕ) (ts : List Word) → AllShort l ts → AllShort l (reduced f ts)
unfolding reduced
reduced-short f l [] h = tt
reduced-short f l (t ∷ ts) h = (le_trans (le_of_eq (length-map t f)) h.0, reduced-short f l ts h.1)

map_below : (f : ℕ → ℕ) (r : ℕ) → ((c : ℕ) → f c < r) → (t : Word) → Below r (map f t)
map_below f r h [] = tt
map_below f r h (x ∷ t) = (h x, map_below f r h t)

reduced-below : (f : ℕ → ℕ) (r : ℕ) (ts : List Word) → ((c : ℕ) → f c < r) → AllBelow r (reduced f ts)
unfolding reduced
reduced-below f r [] h = tt
reduced-below f r (t ∷ ts) h = (map_below f r h t, reduced-below f r ts h)

pub reduced-most : (n m : ℕ) (ts : List Word) → AllShort 32 ts → length ts ≤ 16 → states (tags_for n ts m) ≤ most (2 ^ n) 32
reduced-most n m ts hs hn =
    states-most (2 ^ n) 32 (tags_for n ts m) (reduced-below (slice n m) (2 ^ n) ts (slice_lt n m)) (reduced-short (slice n m) 32 ts hs)
    (le_trans (le_of_eq (reduced-length (slice n m) ts)) hn)

-- a bit machine needs at most 479 states, 1 + 2 + 4 + 8 of the first four depths and 29 times 16 of the others; a whole-byte machine at most 513
pub bit_states : (m : ℕ) (ts : List Word) → Lawful ts → states (tags_for 1 ts m) ≤ 479
unfolding most sum_to
bit_states m ts h = reduced-most 1 m ts h.short h.few

pub byte-states : (m : ℕ) (ts : List Word) → Lawful ts → states (tags_for 8 ts m) ≤ 513
unfolding most sum_to
byte-states m ts h = reduced-most 8 m ts h.short h.few
