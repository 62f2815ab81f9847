-- A state is the front of a tag.
use Prim.Native.Nat.{◌<◌, ◌≤◌, suc, zero, ℕ}
use mathlib.Core.Bool.{false≢true, true}
use mathlib.Core.List.{List, [], ◌++◌, ◌∷◌}
use mathlib.Core.Logic.{◌⊎◌, inl, inr}
use mathlib.Core.Path.{◌∙◌, ◌≡◌, ap, sym}
use native.Mathlib.Omega.{arith}
use lib.ListN.{drop, get_or, length, length-append, take, take-append-drop}
use lib.Seq.{take-append_seam}
use Rattle.matching.specs.Laws.Bools.{or_cases, or_l, or_r}
use Rattle.matching.proofs.Laws.Prefixes.{among-prefixes}
use Rattle.matching.specs.Laws.Words.{begins_append, begins-split, same_eq}
use Rattle.matching.specs.Machine.{prefixes}
use Rattle.matching.specs.Words.{Word, among, begins, begins_one, same}

begins_find : (v : Word) (ts : List Word) → begins_one v ts ≡ true → (u : ℕ) × (u < length ts) × (r : Word) × (get_or ts u [] ≡ v ++ r)
unfolding begins_one
begins_find v [] e = absurd (false≢true e)
begins_find v (t ∷ ts) e = go (or_cases (begins v t) (begins_one v ts) e) (begins_find v ts)
  where
    go : (begins v t ≡ true) ⊎ (begins_one v ts ≡ true) → (begins_one v ts ≡ true → (u : ℕ) × (u < length ts) × (r : Word) × (get_or ts u [] ≡ v ++ r))
        → (u : ℕ) × (u < suc (length ts)) × (r : Word) × (get_or (t ∷ ts) u [] ≡ v ++ r)
    go (inl i) ih = let s = begins-split v t i in (0, omega arith, s.0, s.1)
    go (inr i) ih = let s = ih i in (suc s.0, omega (arith, s.1), s.2, s.3)

-- which tag, of those that v begins
pub record Front (ts : List Word) (v : Word) : Type 0 where
  pub tag : ℕ
  pub low : tag < length ts
  pub long : length v ≤ length (get_or ts tag [])
  pub is : take (length v) (get_or ts tag []) ≡ v

pub front_of : (ts : List Word) (v : Word) → begins_one v ts ≡ true → Front ts v
front_of ts v e =
    let s = begins_find v ts e in
    record {
      tag = s.0;
      low = s.1;
      long = omega (arith, ap {B = ℕ} length s.3, length-append v s.2);
      is = ap (take (length v)) s.3 ∙ take-append_seam v s.2;
    }

pub state-front : (ts : List Word) (v : Word) → among v (prefixes ts) ≡ true → 0 < length v → Front ts v
state-front ts v a h = go (or_cases (same v []) (begins_one v ts) (sym (among-prefixes ts v) ∙ a))
  where
    go : (same v [] ≡ true) ⊎ (begins_one v ts ≡ true) → Front ts v
    go (inl e) = absurd (omega (arith, ap {B = ℕ} length (same_eq v [] e)))
    go (inr e) = front_of ts v e

one-begins : (ts : List Word) (u : ℕ) (v r : Word) → u < length ts → get_or ts u [] ≡ v ++ r → begins_one v ts ≡ true
unfolding begins_one
one-begins [] u v r h e = absurd (omega arith)
one-begins (t ∷ ts) zero v r h e = or_l (begins v t) (begins_one v ts) (rw e (begins_append v r))
one-begins (t ∷ ts) (suc u) v r h e = or_r (begins v t) (begins_one v ts) (one-begins ts u v r (omega arith) e)

pub front-among : (ts : List Word) (u d : ℕ) → u < length ts → among (take d (get_or ts u [])) (prefixes ts) ≡ true
front-among ts u d h =
    among-prefixes ts (take d (get_or ts u []))
    ∙ or_r (same (take d (get_or ts u [])) []) (begins_one (take d (get_or ts u [])) ts)
    (one-begins ts u (take d (get_or ts u [])) (drop d (get_or ts u [])) h (sym (take-append-drop d (get_or ts u []))))
