-- The laws of the tests on words.
use Rattle.std.specs.Prelude.{◌-◌, ◌<◌, ◌≤◌, suc, zero, ℕ, Bool, ◌||◌, false, true, ◌↔◌, ◌⊎◌, ◌≡◌, refl, eqb, drop, get_or, length, take}
use Rattle.std.proofs.Common.{suc-le-suc, inl, inr, ◌∙◌, ap, ap₂, subst, sym, le_of_suc-le-suc, not-suc-le-zero, arith, eqb→eq, length-append, take-append-drop, drop_at, take_at}
use Rattle.std.proofs.lemmas.Bool.{false≢true}
use mathlib.Core.List.Memᴰ
use mathlib.Core.List.{List, Memᴰ, [], ◌++◌, ◌∷◌, append_cancel_left}
use mathlib.Core.List.{head-eq_of_cons-eq}
use Rattle.std.proofs.Math.Dec.{eqb_refl}
use Rattle.matching.specs.Laws.Bools.{and_both, and_l, and_r, decided, is_false, is_true, not-both, or_cases, or_false, or_false-l, or_false-r, or_l}
use Rattle.matching.specs.Laws.Bools.{or_r, to-T}
use Rattle.matching.specs.Words.{Below, Word, among, begins, ends, index_of, same}

-- ---- same

pub eqb_eq : (m n : ℕ) → eqb m n ≡ true → m ≡ n
eqb_eq m n e = eqb→eq m n (to-T (eqb m n) e)

pub same_self : (a : Word) → same a a ≡ true
unfolding same
same_self [] = refl
same_self (x ∷ a) = and_both (eqb x x) (same a a) (is_true (eqb x x) (eqb_refl x)) (same_self a)

pub same_eq : (a b : Word) → same a b ≡ true → a ≡ b
unfolding same
same_eq [] [] e = refl
same_eq [] (y ∷ b) e = absurd (false≢true e)
same_eq (x ∷ a) [] e = absurd (false≢true e)
same_eq (x ∷ a) (y ∷ b) e = ap₂ ◌∷◌ (eqb_eq x y (and_l (eqb x y) (same a b) e)) (same_eq a b (and_r (eqb x y) (same a b) e))

pub eq_same : (a b : Word) → a ≡ b → same a b ≡ true
eq_same a b e = rw e (same_self b)

pub same_iff : (a b : Word) → (same a b ≡ true) ↔ (a ≡ b)
same_iff a b = (same_eq a b, eq_same a b)

pub ne_same : (a b : Word) → (a ≡ b → ⊥) → same a b ≡ false
ne_same a b h = is_false (same a b) (λ e. h (same_eq a b e))

-- ---- among

pub among_head : (p : Word) (ps : List Word) → among p (p ∷ ps) ≡ true
unfolding among
among_head p ps = or_l (same p p) (among p ps) (same_self p)

pub among-tail : (w p : Word) (ps : List Word) → among w ps ≡ true → among w (p ∷ ps) ≡ true
unfolding among
among-tail w p ps h = or_r (same w p) (among w ps) h

pub among_cases : (w p : Word) (ps : List Word) → among w (p ∷ ps) ≡ true → (same w p ≡ true) ⊎ (among w ps ≡ true)
unfolding among
among_cases w p ps h = or_cases (same w p) (among w ps) h

pub among_mem : (w : Word) (ps : List Word) → among w ps ≡ true → Memᴰ w ps
unfolding among
among_mem w [] h = absurd (false≢true h)
among_mem w (p ∷ ps) h = go (or_cases (same w p) (among w ps) h) (among_mem w ps)
  where
    go : (same w p ≡ true) ⊎ (among w ps ≡ true) → (among w ps ≡ true → Memᴰ w ps) → Memᴰ w (p ∷ ps)
    go (inl e) ih = Memᴰ.head (same_eq w p e)
    go (inr e) ih = Memᴰ.tail (ih e)

pub mem_among : (w : Word) (ps : List Word) → Memᴰ w ps → among w ps ≡ true
unfolding among
mem_among w [] m = absurd (Memᴰ.not-nil m)
mem_among w (p ∷ ps) m = go (Memᴰ.cases_cons m) (mem_among w ps)
  where
    go : (w ≡ p) ⊎ Memᴰ w ps → (Memᴰ w ps → among w ps ≡ true) → (same w p || among w ps) ≡ true
    go (inl e) ih = or_l (same w p) (among w ps) (eq_same w p e)
    go (inr k) ih = or_r (same w p) (among w ps) (ih k)

pub among_iff : (w : Word) (ps : List Word) → (among w ps ≡ true) ↔ Memᴰ w ps
among_iff w ps = (among_mem w ps, mem_among w ps)

pub among_append : (w : Word) (ps qs : List Word) → among w (ps ++ qs) ≡ (among w ps || among w qs)
unfolding among
among_append w [] qs = refl
among_append w (p ∷ ps) qs = go (same w p) (among_append w ps qs)
  where
    go : (b : Bool) → among w (ps ++ qs) ≡ (among w ps || among w qs) → (b || among w (ps ++ qs)) ≡ (b || among w ps || among w qs)
    go true e = refl
    go false e = e

pub among_one : (v w : Word) → among v (w ∷ []) ≡ true → v ≡ w
unfolding among
among_one v w h = go (or_cases (same v w) false h)
  where
    go : (same v w ≡ true) ⊎ (false ≡ true) → v ≡ w
    go (inl e) = same_eq v w e
    go (inr e) = absurd (false≢true e)

-- ---- the place of a word

pub index_of_hit : (w p : Word) (ps : List Word) → same w p ≡ true → index_of w (p ∷ ps) ≡ 0
unfolding index_of
index_of_hit w p ps e = rw (e, index_of) refl

pub index_of_miss : (w p : Word) (ps : List Word) → same w p ≡ false → index_of w (p ∷ ps) ≡ suc (index_of w ps)
unfolding index_of
index_of_miss w p ps e = rw (e, index_of) refl

pub among_hit : (w p : Word) (ps : List Word) → same w p ≡ true → among w (p ∷ ps) ≡ true
unfolding among
among_hit w p ps e = rw e refl

pub among_miss : (w p : Word) (ps : List Word) → same w p ≡ false → among w (p ∷ ps) ≡ among w ps
unfolding among
among_miss w p ps e = rw e refl

pub index_of_lt : (w : Word) (ps : List Word) → among w ps ≡ true → index_of w ps < length ps
unfolding among
index_of_lt w [] h = absurd (false≢true h)
index_of_lt w (p ∷ ps) h = go (decided (same w p)) (index_of_lt w ps)
  where
    go : (same w p ≡ true) ⊎ (same w p ≡ false) → (among w ps ≡ true → index_of w ps < length ps) → index_of w (p ∷ ps) < suc (length ps)
    go (inl e) ih = rw (index_of_hit w p ps e) (omega arith)
    go (inr e) ih = rw (index_of_miss w p ps e) (suc-le-suc (ih (sym (among_miss w p ps e) ∙ h)))

pub get_d_index_of : (w : Word) (ps : List Word) → among w ps ≡ true → get_or ps (index_of w ps) [] ≡ w
unfolding among
get_d_index_of w [] h = absurd (false≢true h)
get_d_index_of w (p ∷ ps) h = go (decided (same w p)) (get_d_index_of w ps)
  where
    go : (same w p ≡ true) ⊎ (same w p ≡ false) → (among w ps ≡ true → get_or ps (index_of w ps) [] ≡ w) → get_or (p ∷ ps) (index_of w (p ∷ ps)) [] ≡ w
    go (inl e) ih = rw (index_of_hit w p ps e) (sym (same_eq w p e))
    go (inr e) ih = rw (index_of_miss w p ps e) (ih (sym (among_miss w p ps e) ∙ h))

pub among_get_d : (ps : List Word) (s : ℕ) → s < length ps → among (get_or ps s []) ps ≡ true
among_get_d [] s h = absurd (not-suc-le-zero h)
among_get_d (p ∷ ps) zero h = among_head p ps
among_get_d (p ∷ ps) (suc s) h = among-tail (get_or ps s []) p ps (among_get_d ps s (le_of_suc-le-suc h))

-- no word stands twice
abbrev pub Distinct : List Word → Type 0
Distinct [] = Unit {0}
Distinct (p ∷ ps) = (among p ps ≡ false) × Distinct ps

pub index_of_get_d : (ps : List Word) (s : ℕ) → Distinct ps → s < length ps → index_of (get_or ps s []) ps ≡ s
index_of_get_d [] s d h = absurd (not-suc-le-zero h)
index_of_get_d (p ∷ ps) zero d h = index_of_hit p p ps (same_self p)
index_of_get_d (p ∷ ps) (suc s) d h = index_of_miss (get_or ps s []) p ps other ∙ ap suc (index_of_get_d ps s d.1 (le_of_suc-le-suc h))
  where
    other : same (get_or ps s []) p ≡ false
    other = ne_same (get_or ps s []) p (λ e. not-both (subst (λ (w : Word). among w ps ≡ true) e (among_get_d ps s (le_of_suc-le-suc h))) d.0)

-- ---- ends

pub ends_self : (w : Word) → ends w w ≡ true
unfolding ends
ends_self [] = same_self []
ends_self (x ∷ w) = or_l (same (x ∷ w) (x ∷ w)) (ends (x ∷ w) w) (same_self (x ∷ w))

pub ends_cons : (t w : Word) (x : ℕ) → ends t w ≡ true → ends t (x ∷ w) ≡ true
unfolding ends
ends_cons t w x h = or_r (same t (x ∷ w)) (ends t w) h

pub ends_append : (u t : Word) → ends t (u ++ t) ≡ true
ends_append [] t = ends_self t
ends_append (x ∷ u) t = ends_cons t (u ++ t) x (ends_append u t)

-- what stands before t
pub ends-split : (t w : Word) → ends t w ≡ true → (u : Word) × (w ≡ u ++ t)
unfolding ends
ends-split t [] h = ([], sym (same_eq t [] h))
ends-split t (x ∷ w) h = go (or_cases (same t (x ∷ w)) (ends t w) h) (ends-split t w)
  where
    go : (same t (x ∷ w) ≡ true) ⊎ (ends t w ≡ true) → (ends t w ≡ true → (u : Word) × (w ≡ u ++ t)) → (u : Word) × (x ∷ w ≡ u ++ t)
    go (inl e) ih = ([], sym (same_eq t (x ∷ w) e))
    go (inr e) ih = let r = ih e in (x ∷ r.0, ap {B = Word} (λ (l : Word). x ∷ l) r.1)

pub ends_iff : (t w : Word) → (ends t w ≡ true) ↔ ((u : Word) × (w ≡ u ++ t))
ends_iff t w = (ends-split t w, λ r. rw r.1 (ends_append r.0 t))

-- by length
pub ends-length : (t w : Word) → ends t w ≡ true → length t ≤ length w
ends-length t w h = let r = ends-split t w h in omega (arith, ap {B = ℕ} length r.1, length-append r.0 t)

pub ends-short : (t w : Word) → length w < length t → ends t w ≡ false
ends-short t w h = is_false (ends t w) (λ e. omega (arith, ends-length t w e))

pub ends-drop : (t w : Word) → ends t w ≡ true → drop (length w - length t) w ≡ t
ends-drop t w h = let r = ends-split t w h in rw r.1 (drop_at r.0 t (length (r.0 ++ t) - length t) (omega (arith, length-append r.0 t)))

pub drop-ends : (t w : Word) → drop (length w - length t) w ≡ t → ends t w ≡ true
drop-ends t w h = (ends_iff t w).1
    (take (length w - length t) w, sym (take-append-drop (length w - length t) w) ∙ ap {B = Word} (λ (l : Word). take (length w - length t) w ++ l) h)

pub ends-drop_iff : (t w : Word) → (ends t w ≡ true) ↔ ((length t ≤ length w) × (drop (length w - length t) w ≡ t))
ends-drop_iff t w = (λ h. (ends-length t w h, ends-drop t w h), λ h. drop-ends t w h.1)

-- ---- begins

pub begins_append : (v r : Word) → begins v (v ++ r) ≡ true
unfolding begins
begins_append [] r = refl
begins_append (x ∷ v) r = and_both (eqb x x) (begins v (v ++ r)) (is_true (eqb x x) (eqb_refl x)) (begins_append v r)

pub begins-split : (v w : Word) → begins v w ≡ true → (r : Word) × (w ≡ v ++ r)
unfolding begins
begins-split [] w h = (w, refl)
begins-split (x ∷ v) [] h = absurd (false≢true h)
begins-split (x ∷ v) (y ∷ w) h =
    let r = begins-split v w (and_r (eqb x y) (begins v w) h) in
    (r.0, ap₂ ◌∷◌ (sym (eqb_eq x y (and_l (eqb x y) (begins v w) h))) r.1)

pub begins_iff : (v w : Word) → (begins v w ≡ true) ↔ ((r : Word) × (w ≡ v ++ r))
begins_iff v w = (begins-split v w, λ r. rw r.1 (begins_append v r.0))

-- ---- a list with one more at its end

pub snoc_inj : (v p : Word) (c x : ℕ) → v ++ c ∷ [] ≡ p ++ x ∷ [] → v ≡ p
snoc_inj v p c x e = sym (take_at v (c ∷ []) (length v) refl) ∙ ap (take (length v)) e ∙ take_at p (x ∷ []) (length v) sizes
  where
    sizes : length p ≡ length v
    sizes = omega (arith, ap {B = ℕ} length e, length-append v (c ∷ []), length-append p (x ∷ []))

pub snoc_last : (v p : Word) (c x : ℕ) → v ++ c ∷ [] ≡ p ++ x ∷ [] → c ≡ x
snoc_last v p c x e = head-eq_of_cons-eq (append_cancel_left p (c ∷ []) (x ∷ []) (ap {B = Word} (λ (l : Word). l ++ c ∷ []) (sym (snoc_inj v p c x e)) ∙ e))

pub Distinct_snoc : (ps : List Word) (w : Word) → Distinct ps → among w ps ≡ false → Distinct (ps ++ w ∷ [])
unfolding among
Distinct_snoc [] w d h = (refl, tt)
Distinct_snoc (p ∷ ps) w d h =
    (among_append p ps (w ∷ []) ∙ or_false (among p ps) (among p (w ∷ [])) d.0 other, Distinct_snoc ps w d.1 (or_false-r (same w p) (among w ps) h))
  where
    other : among p (w ∷ []) ≡ false
    other = or_false (same p w) false (ne_same p w (λ e. not-both (eq_same w p (sym e)) (or_false-l (same w p) (among w ps) h))) refl

pub index_of_append : (w : Word) (ps qs : List Word) → among w ps ≡ true → index_of w (ps ++ qs) ≡ index_of w ps
unfolding among
index_of_append w [] qs h = absurd (false≢true h)
index_of_append w (p ∷ ps) qs h = go (decided (same w p)) (index_of_append w ps qs)
  where
    go : (same w p ≡ true) ⊎ (same w p ≡ false) → (among w ps ≡ true → index_of w (ps ++ qs) ≡ index_of w ps) → index_of w (p ∷ ps ++ qs) ≡ index_of w (p ∷ ps)
    go (inl e) ih = index_of_hit w p (ps ++ qs) e ∙ sym (index_of_hit w p ps e)
    go (inr e) ih = index_of_miss w p (ps ++ qs) e ∙ ap suc (ih (sym (among_miss w p ps e) ∙ h)) ∙ sym (index_of_miss w p ps e)

-- the first new word has the number of those before it
pub index_of-new : (w : Word) (ps qs : List Word) → among w ps ≡ false → index_of w (ps ++ w ∷ qs) ≡ length ps
unfolding among
index_of-new w [] qs h = index_of_hit w w qs (same_self w)
index_of-new w (p ∷ ps) qs h = index_of_miss w p (ps ++ w ∷ qs) (or_false-l (same w p) (among w ps) h)
    ∙ ap suc (index_of-new w ps qs (or_false-r (same w p) (among w ps) h))

-- ---- words of numbers below m

pub below_append : (m : ℕ) (x y : Word) → Below m x → Below m y → Below m (x ++ y)
below_append m [] y hx hy = hy
below_append m (c ∷ x) y hx hy = (hx.0, below_append m x y hx.1 hy)

pub below-front : (m : ℕ) (x y : Word) → Below m (x ++ y) → Below m x
below-front m [] y h = tt
below-front m (c ∷ x) y h = (h.0, below-front m x y h.1)

pub below-take : (m n : ℕ) (x : Word) → Below m x → Below m (take n x)
below-take m zero x h = tt
below-take m (suc n) [] h = tt
below-take m (suc n) (c ∷ x) h = (h.0, below-take m n x h.1)

pub below-drop : (m n : ℕ) (x : Word) → Below m x → Below m (drop n x)
below-drop m zero x h = h
below-drop m (suc n) [] h = h
below-drop m (suc n) (c ∷ x) h = below-drop m n x h.1
