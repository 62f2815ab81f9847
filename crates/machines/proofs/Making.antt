-- A slot is made from its children and the slot of the state it fails to.
use Prim.Native.Nat.{◌+◌, ◌-◌, ◌<◌, ◌≤◌, ℕ}
use mathlib.Core.Bool.{false, true}
use mathlib.Core.List.{List, [], ◌++◌, ◌∷◌, tail}
use mathlib.Core.Logic.{◌⊎◌, inl, inr}
use mathlib.Core.Path.{◌∙◌, ◌≡◌, ap, ap₂, refl, subst, sym}
use native.Mathlib.Decide.{dec_le, dec_lt, ℕ_discrete}
use native.Mathlib.Nat.{le_refl, zero-mul}
use native.Mathlib.Omega.{arith}
use lib.ListN.{get_or, length, length-set, set}
use lib.Seq.{get_or-set_other, get_or-set_same}
use borrow.Author.Tests.{eq-eqb, ne_eqb}
use Rattle.machines.proofs.Cells.{cell_col, cell-fits}
use Rattle.machines.proofs.Tree.{index_pos}
use Rattle.machines.specs.Rows.{Done, Made, Sown, cell, pick_of}
use Rattle.matching.specs.Laws.Bools.{decided}
use Rattle.matching.specs.Laws.Links.{child, child-is, child-none, failure, next-child, next-failure}
use Rattle.matching.specs.Laws.Machine.{longest_miss, longest_nil}
use Rattle.matching.proofs.Laws.Prefixes.{index_of_nil, tree}
use Rattle.matching.specs.Laws.Words.{get_d_index_of, index_of_lt}
use Rattle.matching.specs.Machine.{longest, next, prefixes, states, vector}
use Rattle.matching.specs.Words.{Word, among, index_of}

pub states-is : (ts : List Word) → length (prefixes ts) ≡ states ts
unfolding states
states-is ts = refl

-- the start state
pub first-low : (ts : List Word) → 0 < states ts
first-low ts = rw (states-is ts, index_of_nil ts) at (index_of_lt [] (prefixes ts) (tree ts).root)

first_word : (ts : List Word) → get_or (prefixes ts) 0 [] ≡ []
first_word ts = ap (λ (n : ℕ). get_or (prefixes ts) n []) (sym (index_of_nil ts)) ∙ get_d_index_of [] (prefixes ts) (tree ts).root

-- a next, or still a child
abbrev pub Cell : List Word → ℕ → ℕ → ℕ → Type 0
Cell ts q c v = (v ≡ next (prefixes ts) q c) ⊎ (v ≡ child (prefixes ts) q c)

module _ (ts : List Word) (q c : ℕ) where
  -- a child is its state's next, and not 0
  pub cell-child : among (get_or (prefixes ts) q [] ++ c ∷ []) (prefixes ts) ≡ true → (x : ℕ) → Cell ts q c x → x ≡ next (prefixes ts) q c
  cell-child e x (inl h) = h
  cell-child e x (inr h) = h ∙ child-is (prefixes ts) q c e ∙ sym (next-child (prefixes ts) q c e)

  child-some : among (get_or (prefixes ts) q [] ++ c ∷ []) (prefixes ts) ≡ true → next (prefixes ts) q c ≡ 0 → ⊥
  child-some e z = index_pos (prefixes ts) (tree ts).root (index_of_nil ts) (get_or (prefixes ts) q []) c e (sym (next-child (prefixes ts) q c e) ∙ z)

  -- a child goes before what else there is
  pub picked : (x y : ℕ) → Cell ts q c x → (among (get_or (prefixes ts) q [] ++ c ∷ []) (prefixes ts) ≡ false → y ≡ next (prefixes ts) q c)
      → pick_of x y ≡ next (prefixes ts) q c
  picked x y h other = go (decided (among (get_or (prefixes ts) q [] ++ c ∷ []) (prefixes ts)))
    where
      pick_same : (x y n : ℕ) → (x ≡ n) ⊎ (x ≡ 0) → y ≡ n → pick_of x y ≡ n
      pick_same x y n (inl a) b = at (ℕ_discrete x 0)
        where
          at : Dec (x ≡ 0) → pick_of x y ≡ n
          at (yes z) = rw (eq-eqb x 0 z) b
          at (no z) = rw (ne_eqb x 0 z) a
      pick_same x y n (inr a) b = rw (eq-eqb x 0 a) b

      bare : among (get_or (prefixes ts) q [] ++ c ∷ []) (prefixes ts) ≡ false → Cell ts q c x → (x ≡ next (prefixes ts) q c) ⊎ (x ≡ 0)
      bare e (inl a) = inl a
      bare e (inr a) = inr (a ∙ child-none (prefixes ts) q c e)

      go : (among (get_or (prefixes ts) q [] ++ c ∷ []) (prefixes ts) ≡ true) ⊎ (among (get_or (prefixes ts) q [] ++ c ∷ []) (prefixes ts) ≡ false)
          → pick_of x y ≡ next (prefixes ts) q c
      go (inl e) =
          let a : x ≡ next (prefixes ts) q c = cell-child e x h in
          rw (ne_eqb x 0 (λ z. child-some e (sym a ∙ z))) a
      go (inr e) = pick_same x y (next (prefixes ts) q c) (bare e h) (other e)

-- the start state's nexts are its children
pub root_next : (ts : List Word) (c : ℕ) → child (prefixes ts) 0 c ≡ next (prefixes ts) 0 c
unfolding next
root_next ts c = go (decided (among (get_or (prefixes ts) 0 [] ++ c ∷ []) (prefixes ts)))
  where
    go : (among (get_or (prefixes ts) 0 [] ++ c ∷ []) (prefixes ts) ≡ true) ⊎ (among (get_or (prefixes ts) 0 [] ++ c ∷ []) (prefixes ts) ≡ false)
        → child (prefixes ts) 0 c ≡ next (prefixes ts) 0 c
    go (inl e) = child-is (prefixes ts) 0 c e ∙ sym (next-child (prefixes ts) 0 c e)
    go (inr e) =
        child-none (prefixes ts) 0 c e
        ∙ sym
        (rw (first_word ts)
        (ap (λ (w : Word). index_of w (prefixes ts)) (longest_miss (prefixes ts) c [] (rw (first_word ts) at e) ∙ longest_nil (prefixes ts)) ∙ index_of_nil ts))

pub root_done : (ts : List Word) (m z : ℕ) (l : List ℕ) → Sown (prefixes ts) m l → m < length l → z ≡ vector ts [] → Done ts m 0 (set l m z)
root_done ts m z l S room e =
    record {
      nexts = λ c hc.
          get_or-set_other l m (cell m 0 c) z 0 (λ h. omega (arith, zero-mul (m + 1)))
          ∙ S.kids 0 c (rw (states-is ts) (first-low ts)) hc ∙ root_next ts c;
      flags = ap (λ (n : ℕ). get_or (set l m z) n 0) at ∙ get_or-set_same l m z 0 room ∙ e ∙ ap (vector ts) (sym (first_word ts));
    }
  where
    at : cell m 0 m ≡ m
    at = omega (arith, zero-mul (m + 1))

-- ---- any other slot

module _ (ts : List Word) (m q x : ℕ) (l₀ l : List ℕ) (z : ℕ) (M : Made m q x z l₀ l) where
  pub done-slot : (vv : Word) → 0 < length vv → among vv (prefixes ts) ≡ true → q ≡ index_of vv (prefixes ts)
      → x ≡ index_of (longest (prefixes ts) (tail vv)) (prefixes ts)
      → z ≡ vector ts vv → ((c : ℕ) → c < m → Cell ts q c (get_or l₀ (cell m q c) 0)) → Done ts m x l₀ → Done ts m q l
  unfolding failure
  done-slot [] h a eq ex ez cells D = absurd (omega arith)
  done-slot (y ∷ p) h a eq ex ez cells D =
      let this : get_or (prefixes ts) q [] ≡ y ∷ p = ap (λ (n : ℕ). get_or (prefixes ts) n []) eq ∙ get_d_index_of (y ∷ p) (prefixes ts) a in
      record {
        nexts = λ c hc. M.nexts c hc ∙ picked ts q c _ _ (cells c hc) (λ e.
            D.nexts c hc
            ∙ sym (next-failure (prefixes ts) (tree ts).closed (tree ts).root q c y p this (rw this at e)
            ∙ ap (λ (n : ℕ). next (prefixes ts) n c) (ap (λ (w : Word). index_of (longest (prefixes ts) (tail w)) (prefixes ts)) this ∙ sym ex)));
        flags = M.flags ∙ ez ∙ ap (vector ts) (sym this);
      }

  -- what stands in the other slots stays
  pub kept : (q' c : ℕ) → c ≤ m → (q' ≡ q → ⊥) → get_or l (cell m q' c) 0 ≡ get_or l₀ (cell m q' c) 0
  kept q' c h n = go (dec_lt q' q)
    where
      go : Dec (q' < q) → get_or l (cell m q' c) 0 ≡ get_or l₀ (cell m q' c) 0
      go (yes k) = M.below (cell m q' c) (omega (arith, cell-fits m q' c q k h))
      go (no k) = M.above (cell m q' c) (omega (arith, cell-fits m q m q' (omega arith) (omega arith)))

  pub done_all : (q' : ℕ) → Done ts m q l → Done ts m q' l₀ → Done ts m q' l
  done_all q' N D = go (ℕ_discrete q' q)
    where
      go : Dec (q' ≡ q) → Done ts m q' l
      go (yes e) = rw e N
      go (no n) = record { nexts = λ c hc. kept q' c (omega arith) n ∙ D.nexts c hc; flags = kept q' m (le_refl m) n ∙ D.flags }

  pub cells-all : (q' c : ℕ) → c < m → Done ts m q l → Cell ts q' c (get_or l₀ (cell m q' c) 0) → Cell ts q' c (get_or l (cell m q' c) 0)
  cells-all q' c hc N C = go (ℕ_discrete q' q)
    where
      go : Dec (q' ≡ q) → Cell ts q' c (get_or l (cell m q' c) 0)
      go (yes e) = rw e (inl (N.nexts c hc))
      go (no n) = rw (kept q' c (omega arith) n) C

-- ---- the loop over a slot's nexts

-- the nexts before c are made
pub record Row (m q x c : ℕ) (l₀ l : List ℕ) : Type 0 where
  pub done : (i : ℕ) → i < c → get_or l (cell m q i) 0 ≡ pick_of (get_or l₀ (cell m q i) 0) (get_or l₀ (cell m x i) 0)
  pub below : (j : ℕ) → j < cell m q 0 → get_or l j 0 ≡ get_or l₀ j 0
  pub above : (j : ℕ) → cell m q c ≤ j → get_or l j 0 ≡ get_or l₀ j 0
  pub long : length l ≡ length l₀

pub row_start : (m q x : ℕ) (l : List ℕ) → Row m q x 0 l l
row_start m q x l = record { done = λ i h. absurd (omega arith); below = λ j h. refl; above = λ j h. refl; long = refl }

module _ {m q x c : ℕ} {l₀ l : List ℕ} (R : Row m q x c l₀ l) where
  row_read : c ≤ m → get_or l (cell m x c) 0 ≡ get_or l₀ (cell m x c) 0
  row_read h = go (dec_lt (cell m x c) (cell m q 0)) (dec_le (cell m q c) (cell m x c))
    where
      go : Dec (cell m x c < cell m q 0) → Dec (cell m q c ≤ cell m x c) → get_or l (cell m x c) 0 ≡ get_or l₀ (cell m x c) 0
      go (yes k) o = R.below (cell m x c) k
      go (no k) (yes o) = R.above (cell m x c) o
      go (no k) (no o) =
          let i = cell m x c - cell m q 0 in
          let e : cell m x c ≡ cell m q i = omega arith in
          absurd (omega (arith, cell_col m x q c i h (omega arith) e))

  pub row_more : (v : ℕ) → c < m → cell m q c < length l → v ≡ pick_of (get_or l (cell m q c) 0) (get_or l (cell m x c) 0)
      → Row m q x (c + 1) l₀ (set l (cell m q c) v)
  row_more v h room e =
      record {
        done = λ i k. here i k (dec_lt i c);
        below = λ j k. get_or-set_other l (cell m q c) j v 0 (λ z. omega arith) ∙ R.below j k;
        above = λ j k. get_or-set_other l (cell m q c) j v 0 (λ z. omega arith) ∙ R.above j (omega arith);
        long = length-set l (cell m q c) v ∙ R.long;
      }
    where
      here : (i : ℕ) → i < c + 1 → Dec (i < c) → get_or (set l (cell m q c) v) (cell m q i) 0 ≡ pick_of (get_or l₀ (cell m q i) 0) (get_or l₀ (cell m x i) 0)
      here i k (yes o) = get_or-set_other l (cell m q c) (cell m q i) v 0 (λ z. omega arith) ∙ R.done i o
      here i k (no o) =
          let z : i ≡ c = omega arith in
          subst (λ (n : ℕ). get_or (set l (cell m q c) v) (cell m q n) 0 ≡ pick_of (get_or l₀ (cell m q n) 0) (get_or l₀ (cell m x n) 0)) (sym z)
          (get_or-set_same l (cell m q c) v 0 room ∙ e ∙ ap₂ pick_of (R.above (cell m q c) (le_refl (cell m q c))) (row_read (omega arith)))

pub row_done : {m q x c : ℕ} {l₀ l : List ℕ} → Row m q x c l₀ l → c ≡ m → (v : ℕ) → cell m q m < length l → Made m q x v l₀ (set l (cell m q m) v)
row_done {m} {q} {x} {c} {l₀} {l} R₀ ec v room =
    record {
      nexts = λ i k. get_or-set_other l (cell m q m) (cell m q i) v 0 (λ z. omega arith) ∙ R.done i k;
      flags = get_or-set_same l (cell m q m) v 0 room;
      below = λ j k. get_or-set_other l (cell m q m) j v 0 (λ z. omega arith) ∙ R.below j k;
      above = λ j k. get_or-set_other l (cell m q m) j v 0 (λ z. omega arith) ∙ R.above j (omega arith);
      long = length-set l (cell m q m) v ∙ R.long;
    }
  where
    R : Row m q x m l₀ l
    R = subst (λ (n : ℕ). Row m q x n l₀ l) ec R₀
