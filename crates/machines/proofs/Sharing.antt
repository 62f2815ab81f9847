-- The fronts that tags share, from letter to letter and from tag to tag.
use Prim.Native.Nat.{◌+◌, ◌-◌, ◌<◌, ◌≤◌, max, min, suc, ℕ}
use mathlib.Core.Bool.{false, true}
use mathlib.Core.List.{List, [], ◌++◌, ◌∷◌}
use mathlib.Core.Logic.{◌⊎◌, inl, inr}
use mathlib.Core.Path.{◌∙◌, ◌≡◌, ap, ap₂, refl, subst, sym}
use native.Mathlib.Decide.{dec_le, dec_lt}
use native.Mathlib.Numerals.{add-one}
use native.Mathlib.Omega.{arith}
use lib.Dec.{eqb}
use lib.ListN.{drop, drop_of_length-le, get_or, length, length-take, set, take}
use lib.Seq.{drop-cons, get_or-set_other, get_or-set_same, get_or-take, length-take-le, take-length}
use borrow.Author.Tests.{eq-eqb, ne_eqb}
use Rattle.machines.proofs.Growing.{states-next, states-small, states-within, tag-next}
use Rattle.machines.specs.Fronts.{known, shared}
use Rattle.machines.specs.Rows.{Fit}
use Rattle.matching.specs.Laws.Bools.{decided}
use Rattle.matching.specs.Laws.States.{most}
use Rattle.matching.specs.Machine.{states}
use Rattle.matching.specs.Words.{Word}

shared_cons : (x y : ℕ) (v w : Word) → eqb x y ≡ true → shared (x ∷ v) (y ∷ w) ≡ suc (shared v w)
unfolding shared
shared_cons x y v w e = rw (shared, e)

shared-other : (x y : ℕ) (v w : Word) → eqb x y ≡ false → shared (x ∷ v) (y ∷ w) ≡ 0
unfolding shared
shared-other x y v w e = rw (shared, e)

shared_nil : (v : Word) → shared v [] ≡ 0
unfolding shared
shared_nil [] = refl
shared_nil (x ∷ v) = refl

shared-none : (w : Word) → shared [] w ≡ 0
unfolding shared
shared-none w = refl

-- where one of the words ends
pub shared-end : (v w : Word) (i : ℕ) → min (length v) (length w) ≤ i → shared (drop i v) (drop i w) ≡ 0
shared-end v w i h = go (dec_le (length v) i)
  where
    go : Dec (length v ≤ i) → shared (drop i v) (drop i w) ≡ 0
    go (yes k) = rw (drop_of_length-le v k) (shared-none (drop i w))
    go (no k) = ap (shared (drop i v)) (drop_of_length-le w {i = i} (omega arith)) ∙ shared_nil (drop i v)

-- where both have a letter
module _ (v w : Word) (i : ℕ) (h : i < length v) (k : i < length w) where
  front : shared (drop i v) (drop i w) ≡ shared (get_or v i 0 ∷ drop (suc i) v) (get_or w i 0 ∷ drop (suc i) w)
  front = ap₂ shared (drop-cons v i 0 h) (drop-cons w i 0 k)

  pub shared-more : get_or v i 0 ≡ get_or w i 0 → i + shared (drop i v) (drop i w) ≡ i + 1 + shared (drop (i + 1) v) (drop (i + 1) w)
  shared-more e =
      let s : shared (drop i v) (drop i w) ≡ suc (shared (drop (suc i) v) (drop (suc i) w)) =
      front ∙ shared_cons (get_or v i 0) (get_or w i 0) (drop (suc i) v) (drop (suc i) w) (eq-eqb _ _ e) in
      rw (add-one i) (omega arith)

  pub shared-stop : (get_or v i 0 ≡ get_or w i 0 → ⊥) → shared (drop i v) (drop i w) ≡ 0
  shared-stop n = front ∙ shared-other (get_or v i 0) (get_or w i 0) (drop (suc i) v) (drop (suc i) w) (ne_eqb _ _ n)

pub shared-short : (v w : Word) → shared v w ≤ length v
unfolding shared
shared-short [] w = omega arith
shared-short (x ∷ v) [] = omega arith
shared-short (x ∷ v) (y ∷ w) = go (decided (eqb x y)) (shared-short v w)
  where
    go : (eqb x y ≡ true) ⊎ (eqb x y ≡ false) → shared v w ≤ length v → shared (x ∷ v) (y ∷ w) ≤ suc (length v)
    go (inl e) ih = rw (shared_cons x y v w e) (omega arith)
    go (inr e) ih = rw (shared-other x y v w e) (omega arith)

-- ---- among the tags before one

pub known-short : (us : List Word) (w : Word) → known us w ≤ length w
unfolding known
known-short [] w = omega arith
known-short (u ∷ us) w = omega (arith, shared-short w u, known-short us w)

known_cons : (u : Word) (us : List Word) (w : Word) → known (u ∷ us) w ≡ max (shared w u) (known us w)
unfolding known
known_cons u us w = refl

module _ (ts : List Word) (t : ℕ) (h : t < length ts) where
  pub known_more : (i most more z : ℕ) (v u : Word) → i < t → v ≡ get_or ts t [] → u ≡ get_or ts i [] → z ≡ shared v u → more ≡ max most z
      → max most (known (drop i (take t ts)) (get_or ts t [])) ≡ max more (known (drop (i + 1) (take t ts)) (get_or ts t []))
  known_more i most more z v u k ev eu ez em =
      let n : i < length (take t ts) = omega (arith, length-take-le t ts (omega arith)) in
      let e : known (drop i (take t ts)) (get_or ts t []) ≡ max (shared (get_or ts t []) (get_or ts i [])) (known (drop (suc i) (take t ts)) (get_or ts t [])) =
      ap (λ (l : List Word). known l (get_or ts t [])) (drop-cons (take t ts) i [] n)
      ∙ known_cons (get_or (take t ts) i []) (drop (suc i) (take t ts)) (get_or ts t [])
      ∙ ap (λ (x : Word). max (shared (get_or ts t []) x) (known (drop (suc i) (take t ts)) (get_or ts t []))) (get_or-take t ts i [] k) in
      let z' : z ≡ shared (get_or ts t []) (get_or ts i []) = ez ∙ ap₂ shared ev eu in
      rw (add-one i) (omega arith)

  pub known-end : (i most : ℕ) → t ≤ i → max most (known (drop i (take t ts)) (get_or ts t [])) ≡ most
  unfolding known
  known-end i most k =
      let e : drop i (take t ts) ≡ [] = drop_of_length-le (take t ts) {i = i} (omega (arith, length-take t ts)) in
      rw e (omega arith)

-- ---- the count, from tag to tag

module _ {ts : List Word} (fit : Fit ts) (t : ℕ) (n : t < length ts) (w : Word) (ew : w ≡ get_or ts t []) (front : ℕ)
    (ef : front ≡ known (take t ts) (get_or ts t [])) where
  pub count_sub : front ≤ length w
  count_sub = rw (ef, ew) (known-short (take t ts) (get_or ts t []))

  pub count-more : (count : ℕ) → count ≡ states (take t ts) → count + (length w - front) ≡ states (take (t + 1) ts)
  count-more count e =
      sym (rw (e, ew, ef) (states-next ts t n))

  pub count_small : (count : ℕ) → count ≡ states (take t ts) → count + (length w - front) ≤ 513
  count_small count e =
      let s = states-within ts t n (length (get_or ts t [])) (omega arith) in
      omega (
        arith,
        count-more count e,
        states-small ts fit.few fit.short,
        s,
        ap states (tag-next ts t n ∙ ap (λ (x : Word). take t ts ++ x ∷ []) (sym (take-length (get_or ts t [])))),
      )

-- ---- from tag to tag
-- Laws that the pages name, though no proof needs them any more.

module _ (ts : List Word) (t : ℕ) (h : t < length ts) where
  pub known_start : known (take t ts) (get_or ts t []) ≡ max 0 (known (drop 0 (take t ts)) (get_or ts t []))
  known_start = omega arith

-- what holds of each index below t holds below t + 1 after a store at t
pub each_more : (F : ℕ → ℕ) (l : List ℕ) (t z : ℕ) → ((u : ℕ) → u < t → get_or l u 0 ≡ F u) → t < length l → z ≡ F t
    → (u : ℕ) → u < t + 1 → get_or (set l t z) u 0 ≡ F u
each_more F l t z each h e u k = go (dec_lt u t)
  where
    go : Dec (u < t) → get_or (set l t z) u 0 ≡ F u
    go (yes j) = get_or-set_other l t u z 0 (λ q. omega arith) ∙ each u j
    go (no j) =
        let q : u ≡ t = omega arith in
        subst (λ (n : ℕ). get_or (set l t z) n 0 ≡ F n) (sym q) (get_or-set_same l t z 0 h ∙ e)
