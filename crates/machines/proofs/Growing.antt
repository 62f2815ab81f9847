-- The states of some tags with the first letters of one more.
use Prim.Native.Nat.{◌*◌, ◌+◌, ◌-◌, ◌<◌, ◌≤◌, max, suc, zero, ℕ}
use mathlib.Core.Bool.{Bool, ◌&&◌, ◌||◌, false, true}
use mathlib.Core.List.{List, [], ◌++◌, ◌∷◌, append_assoc, append-nil}
use mathlib.Core.Logic.{◌⊎◌, inl, inr}
use mathlib.Core.Path.{◌∙◌, ◌≡◌, ap, ap₂, refl, subst, sym}
use native.Mathlib.Decide.{dec_le}
use native.Mathlib.Numerals.{add-one}
use native.Mathlib.Omega.{arith}
use lib.Dec.{eqb, leb}
use lib.ListN.{drop, get_or, length, length-append, take, take-append-drop}
use lib.Seq.{append_snoc, length-take-le, take-length, take-suc}
use borrow.Author.Tests.{le-leb, leb-true, lt-leb}
use Rattle.machines.specs.Fronts.{known, shared}
use Rattle.matching.specs.Laws.Bools.{both_ways, is_false, or_cases, or_l, or_r}
use Rattle.matching.specs.Laws.Prefixes.{total_length, with_word-new, with_word-old}
use Rattle.matching.proofs.Laws.Prefixes.{among-prefixes, states_le}
use Rattle.matching.specs.Laws.Words.{begins-split, ne_same}
use Rattle.matching.specs.Machine.{prefixes, states, with_prefixes, with_tags, with_word}
use Rattle.matching.specs.Words.{AllShort, Word, among, begins, begins_one, same}

with_prefixes_snoc : (ps : List Word) (p w : Word) (c : ℕ) → with_prefixes ps p (w ++ c ∷ []) ≡ with_word (with_prefixes ps p w) (p ++ (w ++ c ∷ []))
unfolding with_prefixes
with_prefixes_snoc ps p [] c = refl
with_prefixes_snoc ps p (x ∷ w) c =
    with_prefixes_snoc (with_word ps (p ++ x ∷ [])) (p ++ x ∷ []) w c
    ∙ ap (with_word (with_prefixes (with_word ps (p ++ x ∷ [])) (p ++ x ∷ []) w)) (append_assoc p (x ∷ []) (w ++ c ∷ []))

with_tags_snoc : (ps ts : List Word) (t : Word) → with_tags ps (ts ++ t ∷ []) ≡ with_prefixes (with_tags ps ts) [] t
unfolding with_tags
with_tags_snoc ps [] t = refl
with_tags_snoc ps (s ∷ ts) t = with_tags_snoc (with_prefixes ps [] s) ts t

prefixes_snoc : (us : List Word) (t : Word) → prefixes (us ++ t ∷ []) ≡ with_prefixes (prefixes us) [] t
unfolding prefixes
prefixes_snoc us t = with_tags_snoc ([] ∷ []) us t

pub prefixes_nil : (us : List Word) → prefixes (us ++ [] ∷ []) ≡ prefixes us
unfolding with_prefixes
prefixes_nil us = prefixes_snoc us []

-- one letter more
pub prefixes-more : (us : List Word) (p : Word) (c : ℕ) → prefixes (us ++ (p ++ c ∷ []) ∷ []) ≡ with_word (prefixes (us ++ p ∷ [])) (p ++ c ∷ [])
prefixes-more us p c =
    prefixes_snoc us (p ++ c ∷ []) ∙ with_prefixes_snoc (prefixes us) [] p c
    ∙ ap (λ (ps : List Word). with_word ps (p ++ c ∷ [])) (sym (prefixes_snoc us p))

-- ---- which of a tag's prefixes are known

begins_one_snoc : (v : Word) (us : List Word) (p : Word) → begins_one v (us ++ p ∷ []) ≡ (begins_one v us || begins v p)
unfolding begins_one
begins_one_snoc v [] p = go (begins v p)
  where
    go : (b : Bool) → (b || false) ≡ (false || b)
    go true = refl
    go false = refl
begins_one_snoc v (u ∷ us) p = go (begins v u) (begins_one_snoc v us p)
  where
    go : (b : Bool) → begins_one v (us ++ p ∷ []) ≡ (begins_one v us || begins v p)
        → (b || begins_one v (us ++ p ∷ [])) ≡ ((b || begins_one v us) || begins v p)
    go true e = refl
    go false e = e

begins-short : (v p : Word) → length p < length v → begins v p ≡ false
begins-short v p h = is_false (begins v p) (λ b. let s = begins-split v p b in omega (arith, ap {B = ℕ} length s.1, length-append v s.0))

leb-suc : (a b : ℕ) → leb (suc a) (suc b) ≡ leb a b
leb-suc a b = go (dec_le a b)
  where
    go : Dec (a ≤ b) → leb (suc a) (suc b) ≡ leb a b
    go (yes h) = le-leb (suc a) (suc b) (omega arith) ∙ sym (le-leb a b h)
    go (no h) = lt-leb (suc a) (suc b) (omega arith) ∙ sym (lt-leb a b (omega arith))

shared_step : (d x y : ℕ) (v w : Word) → (b : Bool) → eqb x y ≡ b → begins (take d v) w ≡ leb d (shared v w)
    → (b && begins (take d v) w) ≡ leb (suc d) (shared (x ∷ v) (y ∷ w))
unfolding shared
shared_step d x y v w true e ih = rw (e, shared) (ih ∙ sym (leb-suc d (shared v w)))
shared_step d x y v w false e ih = rw (e, shared) (sym (lt-leb (suc d) 0 (omega arith)))

begins-shared : (d : ℕ) (v w : Word) → d ≤ length v → begins (take d v) w ≡ leb d (shared v w)
unfolding begins shared
begins-shared zero v w h = sym (le-leb 0 (shared v w) (omega arith))
begins-shared (suc d) [] w h = absurd (omega arith)
begins-shared (suc d) (x ∷ v) [] h = sym (lt-leb (suc d) 0 (omega arith))
begins-shared (suc d) (x ∷ v) (y ∷ w) h = shared_step d x y v w (eqb x y) refl (begins-shared d v w (omega arith))

leb-max : (d a b : ℕ) → leb d (max a b) ≡ (leb d a || leb d b)
leb-max d a b = both_ways (leb d (max a b)) (leb d a || leb d b) to from
  where
    to : leb d (max a b) ≡ true → (leb d a || leb d b) ≡ true
    to h = go (dec_le d a)
      where
        go : Dec (d ≤ a) → (leb d a || leb d b) ≡ true
        go (yes k) = or_l (leb d a) (leb d b) (le-leb d a k)
        go (no k) = or_r (leb d a) (leb d b) (le-leb d b (omega (arith, leb-true d (max a b) h)))

    from : (leb d a || leb d b) ≡ true → leb d (max a b) ≡ true
    from h = go (or_cases (leb d a) (leb d b) h)
      where
        go : (leb d a ≡ true) ⊎ (leb d b ≡ true) → leb d (max a b) ≡ true
        go (inl k) = le-leb d (max a b) (omega (arith, leb-true d a k))
        go (inr k) = le-leb d (max a b) (omega (arith, leb-true d b k))

-- the first d letters of w begin one of us exactly if so many are known
pub begins-known : (d : ℕ) (us : List Word) (w : Word) → 0 < d → d ≤ length w → begins_one (take d w) us ≡ leb d (known us w)
unfolding begins_one known
begins-known d [] w h k = sym (lt-leb d 0 h)
begins-known d (u ∷ us) w h k = ap₂ ◌||◌ (begins-shared d w u k) (begins-known d us w h k) ∙ sym (leb-max d (shared w u) (known us w))

-- ---- how many states

module _ (us : List Word) (w : Word) where
  state-new : (i : ℕ) → i < length w → among (take (suc i) w) (prefixes (us ++ take i w ∷ [])) ≡ leb (suc i) (known us w)
  state-new i h =
      let long : length (take (suc i) w) ≡ suc i = length-take-le (suc i) w (omega arith) in
      let some : same (take (suc i) w) [] ≡ false = ne_same (take (suc i) w) [] (λ e. omega (arith, ap {B = ℕ} length e)) in
      let less : begins (take (suc i) w) (take i w) ≡ false = begins-short (take (suc i) w) (take i w) (omega (arith, length-take-le i w (omega arith))) in
      among-prefixes (us ++ take i w ∷ []) (take (suc i) w)
      ∙ rw (some, begins_one_snoc (take (suc i) w) us (take i w), less)
      (or_false_right (begins_one (take (suc i) w) us) ∙ begins-known (suc i) us w (omega arith) (omega arith))
    where
      or_false_right : (b : Bool) → (b || false) ≡ b
      or_false_right true = refl
      or_false_right false = refl

  pub states_path : (i : ℕ) → i ≤ length w → states (us ++ take i w ∷ []) ≡ states us + (i - known us w)
  unfolding states
  states_path zero h = rw (prefixes_nil us) (omega arith)
  states_path (suc i) h = go (dec_le (suc i) (known us w)) (states_path i (omega arith))
    where
      more : prefixes (us ++ take (suc i) w ∷ []) ≡ with_word (prefixes (us ++ take i w ∷ [])) (take (suc i) w)
      more = rw (take-suc w i 0 h) (prefixes-more us (take i w) (get_or w i 0))

      go : Dec (suc i ≤ known us w) → length (prefixes (us ++ take i w ∷ [])) ≡ length (prefixes us) + (i - known us w)
          → length (prefixes (us ++ take (suc i) w ∷ [])) ≡ length (prefixes us) + (suc i - known us w)
      go (yes k) e = rw (more, with_word-old (prefixes (us ++ take i w ∷ [])) (take (suc i) w) (state-new i h ∙ le-leb (suc i) (known us w) k)) (omega arith)
      go (no k) e =
          rw (more, with_word-new (prefixes (us ++ take i w ∷ [])) (take (suc i) w) (state-new i h ∙ lt-leb (suc i) (known us w) (omega arith)))
          (omega (arith, length-append (prefixes (us ++ take i w ∷ [])) (take (suc i) w ∷ [])))

  -- a tag adds its prefixes that are longer than what is known
  pub states_snoc : states (us ++ w ∷ []) ≡ states us + (length w - known us w)
  states_snoc = rw (take-length w) at (states_path (length w) (omega arith))

states_append : (us vs : List Word) → states us ≤ states (us ++ vs)
states_append us [] = rw (append-nil us) (omega arith)
states_append us (v ∷ vs) =
    subst (λ (l : List Word). states us ≤ states l) (append_snoc us v vs)
    (omega (arith, states_append (us ++ v ∷ []) vs, states_snoc us v))

module _ (ts : List Word) (t : ℕ) (h : t < length ts) where
  pub tag-next : take (t + 1) ts ≡ take t ts ++ get_or ts t [] ∷ []
  tag-next = rw (add-one t) (take-suc ts t [] h)

  pub states-next : states (take (t + 1) ts) ≡ states (take t ts) + (length (get_or ts t []) - known (take t ts) (get_or ts t []))
  states-next = rw tag-next (states_snoc (take t ts) (get_or ts t []))

  -- on the way there are never more than at the end
  pub states-within : (i : ℕ) → i ≤ length (get_or ts t []) → states (take t ts ++ take i (get_or ts t []) ∷ []) ≤ states ts
  states-within i k =
      let a : states (take (t + 1) ts) ≤ states ts = rw (take-append-drop (t + 1) ts) at (states_append (take (t + 1) ts) (drop (t + 1) ts)) in
      omega (arith, a, states-next, states_path (take t ts) (get_or ts t []) i k)

pub states-one : 1 ≡ states []
unfolding states prefixes with_tags
states-one = refl

total-short : (ts : List Word) → AllShort 32 ts → total_length ts ≤ 32 * length ts
unfolding total_length
total-short [] a = omega arith
total-short (t ∷ ts) a = omega (arith, total-short ts a.1, a.0)

pub states-small : (ts : List Word) → length ts ≤ 16 → AllShort 32 ts → states ts ≤ 513
states-small ts few short = omega (arith, states_le ts, total-short ts short)
