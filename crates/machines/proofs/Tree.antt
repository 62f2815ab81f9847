-- The tree grows by a state, and by a tag.
use Prim.Native.Nat.{◌*◌, ◌+◌, ◌<◌, ◌≤◌, suc, ℕ}
use mathlib.Core.Bool.{false, true}
use mathlib.Core.List.{List, [], ◌++◌, ◌∷◌}
use mathlib.Core.Logic.{◌⊎◌, inl, inr}
use mathlib.Core.Path.{◌∙◌, ◌≡◌, ap, refl, subst, sym}
use native.Mathlib.Decide.{dec_lt, ℕ_discrete}
use native.Mathlib.Nat.{suc-mul}
use native.Mathlib.Numerals.{add-one}
use native.Mathlib.Omega.{arith}
use lib.Dec.{eqb}
use lib.ListN.{get_or, get_or-eq_default, get_or-replicate, length, length-append, length-replicate, replicate, set, take}
use lib.Seq.{get_or-set_other, get_or-set_same, take_all, take-suc}
use borrow.Author.Tests.{eq-eqb, ne_eqb}
use Rattle.machines.proofs.Cells.{cell_col, cell-fits, cell_row, cell-small}
use Rattle.machines.proofs.Growing.{prefixes-more, prefixes_nil, states-one, states-small, states-within, tag-next}
use Rattle.machines.proofs.Lows.{all-at, below_at}
use Rattle.machines.specs.Rows.{Fit, Planted, Planting, Roomy, Sown, cell, sown_at, sown_count}
use Rattle.matching.specs.Laws.Bools.{decided, is_false}
use Rattle.matching.specs.Laws.Links.{child, child-is, child-kept, child_leaf, child-new, child-none}
use Rattle.matching.specs.Laws.Machine.{AllAmong}
use Rattle.matching.specs.Laws.Prefixes.{Tree, with_word-new, with_word-old}
use Rattle.matching.proofs.Laws.Prefixes.{index_of_nil, tags-among, tree}
use Rattle.matching.specs.Laws.Words.{among_one, get_d_index_of, index_of_lt, index_of-new}
use Rattle.matching.specs.Machine.{prefixes, states, with_tags, with_word}
use Rattle.matching.specs.Words.{Word, among, index_of}

-- only the empty word is state 0
pub index_pos : (ps : List Word) → among [] ps ≡ true → index_of [] ps ≡ 0 → (v : Word) (c : ℕ) → among (v ++ c ∷ []) ps ≡ true → index_of (v ++ c ∷ []) ps ≡ 0
    → ⊥
index_pos ps root first v c h z =
    let e : v ++ c ∷ [] ≡ [] =
    sym (get_d_index_of (v ++ c ∷ []) ps h) ∙ ap (λ (n : ℕ). get_or ps n []) (z ∙ sym first) ∙ get_d_index_of [] ps root in
    omega (arith, ap {B = ℕ} length e, length-append v (c ∷ []))

-- ---- by a state: the child of state q on the letter c

module _ (P : List Word) (m : ℕ) (l : List ℕ) (c k q : ℕ) (S : Sown P m l) (T : Tree P) (first : index_of [] P ≡ 0)
    (hk : k ≡ length P) (hq : q < length P) (hc : c < m) (room : cell m q c < length l) where
  -- what is true of a list and a count after the step
  abbrev Stepped : List Word → Type 0
  Stepped Q = Sown Q m (sown_at l (cell m q c) k) × (sown_count l (cell m q c) k ≡ length Q)
      × (get_or (sown_at l (cell m q c) k) (cell m q c) 0 ≡ index_of (get_or P q [] ++ c ∷ []) Q)

  module _ (old : among (get_or P q [] ++ c ∷ []) P ≡ true) where
    full : eqb (get_or l (cell m q c) 0) 0 ≡ false
    full = ne_eqb _ _ (λ e. index_pos P T.root first (get_or P q []) c old (sym (child-is P q c old) ∙ sym (S.kids q c hq hc) ∙ e))

    step-old : Stepped P
    step-old = rw full (S, hk, S.kids q c hq hc ∙ child-is P q c old)

  module _ (new : among (get_or P q [] ++ c ∷ []) P ≡ false) where
    empty : eqb (get_or l (cell m q c) 0) 0 ≡ true
    empty = eq-eqb _ _ (S.kids q c hq hc ∙ child-none P q c new)

    more : length (P ++ (get_or P q [] ++ c ∷ []) ∷ []) ≡ suc (length P)
    more = omega (arith, length-append P ((get_or P q [] ++ c ∷ []) ∷ []))

    below : cell m q c < length P * (m + 1)
    below = cell-fits m q c (length P) hq (omega arith)

    kids-new : (q' c' : ℕ) → q' < length (P ++ (get_or P q [] ++ c ∷ []) ∷ []) → c' < m
        → get_or (set l (cell m q c) k) (cell m q' c') 0 ≡ child (P ++ (get_or P q [] ++ c ∷ []) ∷ []) q' c'
    kids-new q' c' h j = go (dec_lt q' (length P))
      where
        here : q' < length P → Dec (cell m q' c' ≡ cell m q c) → get_or (set l (cell m q c) k) (cell m q' c') 0 ≡ child (P ++ (get_or P q [] ++ c ∷ []) ∷ []) q' c'
        here o (yes e) =
            let eq : q' ≡ q = cell_row m q' q c' c (omega arith) (omega arith) e in
            let ec : c' ≡ c = cell_col m q' q c' c (omega arith) (omega arith) e in
            rw (eq, ec) (get_or-set_same l (cell m q c) k 0 room ∙ hk ∙ sym (child-new P q c hq new))
        here o (no n) =
            get_or-set_other l (cell m q c) (cell m q' c') k 0 n ∙ S.kids q' c' o j
            ∙ sym (child-kept P q c T.distinct hq new q' c' o (λ e. n (rw (e.0, e.1) refl)))

        go : Dec (q' < length P) → get_or (set l (cell m q c) k) (cell m q' c') 0 ≡ child (P ++ (get_or P q [] ++ c ∷ []) ∷ []) q' c'
        go (yes o) = here o (ℕ_discrete (cell m q' c') (cell m q c))
        go (no n) =
            let z : q' ≡ length P = omega (arith, more) in
            rw z
            (get_or-set_other l (cell m q c) (cell m (length P) c') k 0 (λ e. omega (arith, below, e))
            ∙ S.blank (cell m (length P) c') (omega arith)
            ∙ sym (child_leaf P (get_or P q [] ++ c ∷ []) T.closed new c'))

    sown-new : Sown (P ++ (get_or P q [] ++ c ∷ []) ∷ []) m (set l (cell m q c) k)
    sown-new =
        record {
          kids = kids-new;
          blank = λ j h.
              let b : length P * (m + 1) ≤ j = omega (arith, h, ap (λ (n : ℕ). n * (m + 1)) more, suc-mul (length P) (m + 1)) in
              get_or-set_other l (cell m q c) j k 0 (λ e. omega (arith, below, e)) ∙ S.blank j b;
        }

    step-new : Stepped (P ++ (get_or P q [] ++ c ∷ []) ∷ [])
    step-new =
        rw empty (
          sown-new,
          omega (arith, hk, more),
          get_or-set_same l (cell m q c) k 0 room ∙ hk ∙ sym (index_of-new (get_or P q [] ++ c ∷ []) P [] new),
        )

  step : Stepped (with_word P (get_or P q [] ++ c ∷ []))
  step = go (decided (among (get_or P q [] ++ c ∷ []) P))
    where
      go : (among (get_or P q [] ++ c ∷ []) P ≡ true) ⊎ (among (get_or P q [] ++ c ∷ []) P ≡ false) → Stepped (with_word P (get_or P q [] ++ c ∷ []))
      go (inl e) = subst Stepped (sym (with_word-old P (get_or P q [] ++ c ∷ []) e)) (step-old e)
      go (inr e) = subst Stepped (sym (with_word-new P (get_or P q [] ++ c ∷ []) e)) (step-new e)

-- ---- by a tag

-- the first i letters of w are in the tree of us, and q is the last of their states
pub record Path (us : List Word) (w : Word) (m i k q : ℕ) (l : List ℕ) : Type 0 where
  pub planted : Planted (us ++ take i w ∷ []) m k l
  pub at : q ≡ index_of (take i w) (prefixes (us ++ take i w ∷ []))

last_among : (us : List Word) (v : Word) (ps : List Word) → AllAmong (us ++ v ∷ []) ps → among v ps ≡ true
last_among [] v ps h = h.0
last_among (u ∷ us) v ps h = last_among us v ps h.1

pub path_start : (us : List Word) (w : Word) (m k : ℕ) (l : List ℕ) → Planted us m k l → Path us w m 0 k 0 l
unfolding states
path_start us w m k l p =
    record {
      planted = record { counted = p.counted ∙ ap {B = ℕ} length (sym (prefixes_nil us)); sown = rw (prefixes_nil us) p.sown };
      at = rw (prefixes_nil us) (sym (index_of_nil us));
    }

module _ {us : List Word} {w : Word} {m i k q : ℕ} {l : List ℕ} (p : Path us w m i k q l) where
  abbrev P : List Word
  P = prefixes (us ++ take i w ∷ [])

  there : among (take i w) (prefixes (us ++ take i w ∷ [])) ≡ true
  there = last_among us (take i w) (prefixes (us ++ take i w ∷ [])) (tags-among (us ++ take i w ∷ []))

  pub path_low : q < k
  unfolding states
  path_low = omega (arith, p.at, p.planted.counted, index_of_lt (take i w) (prefixes (us ++ take i w ∷ [])) there)

  path_more : (c : ℕ) → i < length w → c ≡ get_or w i 0 → c < m → cell m q c < length l
      → Path us w m (i + 1) (sown_count l (cell m q c) k) (get_or (sown_at l (cell m q c) k) (cell m q c) 0) (sown_at l (cell m q c) k)
  unfolding states
  path_more c h e hc room =
      let here : get_or P q [] ≡ take i w = ap (λ (n : ℕ). get_or P n []) p.at ∙ get_d_index_of (take i w) P there in
      let s = step P m l c k q p.planted.sown (tree (us ++ take i w ∷ [])) (index_of_nil (us ++ take i w ∷ [])) p.planted.counted
      (omega (arith, path_low, p.planted.counted)) hc room in
      let v : get_or P q [] ++ c ∷ [] ≡ take (i + 1) w =
      ap (λ (x : Word). x ++ c ∷ []) here ∙ ap (λ (x : ℕ). take i w ++ x ∷ []) e ∙ sym (take-suc w i 0 h) ∙ ap (λ (n : ℕ). take n w) (sym (add-one i)) in
      let g : prefixes (us ++ take (i + 1) w ∷ []) ≡ with_word P (get_or P q [] ++ c ∷ []) =
      ap (λ (x : Word). prefixes (us ++ x ∷ [])) (sym v ∙ ap (λ (x : Word). x ++ c ∷ []) here) ∙ prefixes-more us (take i w) c
      ∙ ap (λ (x : Word). with_word P (x ++ c ∷ [])) (sym here) in
      record { planted = record { counted = rw g s.1; sown = rw g s.0 }; at = rw (g, ← v) s.2 }

-- ---- in hand

-- the cell of a child: its place fits and is in the slots, and so does the number of states
pub record Here (m q c k len : ℕ) : Type 0 where
  pub row : q * (m + 1) ≤ 131841
  pub small : cell m q c ≤ 132097
  pub room : cell m q c < len
  pub few : k ≤ 513

module _ {ts : List Word} {m t count : ℕ} {l₀ : List ℕ} (p : Planting ts m t count l₀) (ht : t < length ts) (w : Word)
    (ew : w ≡ get_or ts t [])
    {i k q : ℕ} {l : List ℕ} (long : length l ≡ length l₀) (path : Path (take t ts) w m i k q l) where
  within : i ≤ length w → k ≤ states ts
  within h = omega (arith, path.planted.counted, ap (λ (x : Word). states (take t ts ++ take i x ∷ [])) ew, states-within ts t ht i (rw ew at h))

  module _ (h : i < length w) where
    pub plant_row : q * (m + 1) ≤ 131841
    plant_row = cell-small m q p.roomy.small (omega (arith, within (omega arith), path_low path, states-small ts p.fit.few p.fit.short))

    letter_low : (c : ℕ) → c ≡ get_or w i 0 → c < m
    letter_low c e = rw (e, ew) (below_at m (get_or ts t []) i (all-at m ts t p.roomy.low ht) (rw ew at h))

    pub plant_here : (c : ℕ) → c ≡ get_or w i 0 → Here m q c k (length l)
    plant_here c e =
        let b : c < m = letter_low c e in
        let n : k ≤ states ts = within (omega arith) in
        record {
          row = plant_row;
          small = omega (arith, plant_row, p.roomy.small);
          room = omega (arith, long, p.roomy.room, cell-fits m q c (states ts) (omega (arith, path_low path)) (omega arith));
          few = omega (arith, states-small ts p.fit.few p.fit.short);
        }

    pub plant_more : (c k' q' : ℕ) (l' : List ℕ) → c ≡ get_or w i 0 → k' ≡ sown_count l (cell m q c) k → l' ≡ sown_at l (cell m q c) k
        → q' ≡ get_or l' (cell m q c) 0 → Path (take t ts) w m (i + 1) k' q' l'
    plant_more c k' q' l' e ek el eq = rw (eq, el, ek) (path_more path c h e (letter_low c e) (plant_here c e).room)

  pub plant_done : length w ≤ i → Planted (take (t + 1) ts) m k l
  plant_done h =
      subst (λ (us : List Word). Planted us m k l)
      (ap (λ (x : Word). take t ts ++ x ∷ []) (take_all i w h ∙ ew) ∙ sym (tag-next ts t ht))
      path.planted

-- ---- tag by tag

pub roomy-same : {ts : List Word} {m a b : ℕ} → Roomy ts m a → b ≡ a → Roomy ts m b
roomy-same r e = record { low = r.low; small = r.small; room = rw e r.room }

pub plant_all : (ts : List Word) (t : ℕ) {m count : ℕ} {l : List ℕ} → length ts ≤ t → Planted (take t ts) m count l → Planted ts m (states ts) l
plant_all ts t {m} {count} {l} h p =
    let q : Planted ts m count l = subst (λ (us : List Word). Planted us m count l) (take_all t ts h) p in
    record { counted = refl; sown = q.sown }

-- slots that hold zeros are the tree of no tag
pub plant_none : (m : ℕ) (l : List ℕ) → ((j : ℕ) → get_or l j 0 ≡ 0) → Planted [] m 1 l
unfolding prefixes with_tags
plant_none m l z =
    record { counted = states-one; sown = record { kids = λ q c hq hc. z (cell m q c) ∙ sym (child-none ([] ∷ []) q c (none q c)); blank = λ j h. z j } }
  where
    none : (q c : ℕ) → among (get_or {A = Word} ([] ∷ []) q [] ++ c ∷ []) ([] ∷ []) ≡ false
    none q c =
        is_false _
        (λ h. omega (
          arith,
          ap {B = ℕ} length (among_one (get_or {A = Word} ([] ∷ []) q [] ++ c ∷ []) [] h),
          length-append (get_or {A = Word} ([] ∷ []) q [])
              (c ∷ []),
        ))

pub all-zero : {l : List ℕ} (n : ℕ) → l ≡ replicate n 0 → (j : ℕ) → get_or l j 0 ≡ 0
all-zero {l} n e j = go (dec_lt j n)
  where
    go : Dec (j < n) → get_or l j 0 ≡ 0
    go (yes h) = rw e (get_or-replicate n j 0 0 h)
    go (no h) = rw e (get_or-eq_default (replicate n 0) 0 {n = j} (omega (arith, length-replicate {A = ℕ} n 0)))

pub plant_first : {ts : List Word} {m len : ℕ} {l : List ℕ} → Fit ts → Roomy ts m len → length l ≡ len → ((j : ℕ) → get_or l j 0 ≡ 0)
    → Planting ts m 0 1 l
plant_first {ts} {m} {len} {l} f r e z = record { fit = f; roomy = roomy-same r e; planted = plant_none m l z }

-- ---- a tree on its way, from its parts
-- Laws that the pages name, though no proof needs them any more.

pub plant_again : {ts : List Word} {m t₀ t count₀ count : ℕ} {l₀ l : List ℕ} → Planting ts m t₀ count₀ l₀ → length l ≡ length l₀
    → Planted (take t ts) m count l → Planting ts m t count l
plant_again {ts} {m} p e q =
    record { fit = p.fit; roomy = roomy-same p.roomy e; planted = q }
