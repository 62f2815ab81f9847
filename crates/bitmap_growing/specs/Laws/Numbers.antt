-- Which number a child has: the states placed before it are those below the states before its parent, and its parent's lower children.
use Prim.Native.Nat.{◌+◌, ◌-◌, ◌<◌, ◌≤◌, suc, zero, ℕ}
use Rattle.std.specs.Prelude.{Bool, false, true, ◌⊎◌, take, drop}
use Rattle.std.proofs.Math.Bool.{cond}
use mathlib.Core.List.{List, [], ◌++◌, ◌∷◌, append_assoc, append-nil, concat-ne-nil}
use Rattle.std.proofs.Common.{inl, inr, ◌∙◌, subst, not-suc-le-zero, zero-add, get_or-append-add, take_all, take-suc}
use Rattle.std.proofs.Math.Path.{◌≡◌, ap, refl, sym}
use native.Mathlib.Omega.{arith}
use Rattle.std.proofs.Math.ListN.{get_or-append, get_or, length, length-append}
use Rattle.matching.specs.Laws.Bools.{decided, is_false, not-both, or_false}
use Rattle.matching.specs.Laws.Words.{Distinct, among_cases, among_get_d, get_d_index_of, index_of_append, index_of_get_d, index_of_lt, index_of_miss}
use Rattle.matching.specs.Laws.Words.{ne_same, same_eq, snoc_inj}
use Rattle.matching.specs.Words.{Lawful, Word, among, begins_one, index_of, same}
use Rattle.bitmap.specs.Laws.Built.{level-first}
use Rattle.bitmap.specs.Laws.Children.{child-number, children_index, forward-goes, goes}
use Rattle.bitmap.specs.Laws.Levels.{Child, Under, begins-byte, below_append, below_only, by_level-distinct, by_level-is, by_level-order}
use Rattle.bitmap.specs.Laws.Levels.{children_byte, children_only, index_of-after}
use Rattle.bitmap.specs.Laws.Maps.{tally_add, tally-same, tally_from}
use Rattle.bitmap.specs.Levels.{below, by_level, children_from, forward}
use Rattle.bitmap.specs.Slots.{first_child}
use Rattle.bitmap_maps.specs.Laws.Laid.{tally_children}
use Rattle.bitmap_growing.specs.Growing.{kids, placed_by}

-- ---- tallies

module _ (g : ℕ → Bool) where
  -- one that is counted
  pub tally_lt : (c n : ℕ) → c < n → g c ≡ true → tally_from g 0 c < tally_from g 0 n
  unfolding tally_from
  tally_lt c n h e =
      let z : c + suc (n - suc c) ≡ n = omega arith in
      let one : ◌≡◌ {A = ℕ} (cond (g (0 + c)) 1 0) 1 = ap (λ (b : Bool). cond b 1 0) (ap g (zero-add c) ∙ e) in
      omega (arith, tally_add g c 0 (suc (n - suc c)), ap (tally_from g 0) z, one)

  -- where some are counted, one is
  pub tally-some : (n c : ℕ) → 0 < tally_from g c n → (x : ℕ) × (x < c + n) × (g x ≡ true)
  unfolding tally_from
  tally-some zero c h = absurd (omega arith)
  tally-some (suc n) c h = go (decided (g c)) (tally-some n (suc c))
    where
      go : (g c ≡ true) ⊎ (g c ≡ false) → (0 < tally_from g (suc c) n → (x : ℕ) × (x < suc c + n) × (g x ≡ true)) → (x : ℕ) × (x < c + suc n) × (g x ≡ true)
      go (inl e) ih = (c, omega arith, e)
      go (inr e) ih =
          let none : ◌≡◌ {A = ℕ} (cond (g c) 1 0) 0 = ap (λ (b : Bool). cond b 1 0) e in
          let r = ih (omega (arith, none)) in
          (r.0, omega (arith, r.1), r.2)

-- no byte leads on
first-empty : (ps : List Word) (p : Word) (n c : ℕ) → tally_from (forward ps p) c n ≡ 0 → first_child ps p c n ≡ 0
unfolding first_child tally_from
first-empty ps p zero c h = refl
first-empty ps p (suc n) c h = go (decided (forward ps p c)) (first-empty ps p n (suc c))
  where
    go : (forward ps p c ≡ true) ⊎ (forward ps p c ≡ false) → (tally_from (forward ps p) (suc c) n ≡ 0 → first_child ps p (suc c) n ≡ 0)
        → first_child ps p c (suc n) ≡ 0
    go (inl e) ih = absurd (omega (arith, h, ap {B = ℕ} (λ (b : Bool). cond b 1 0) e))
    go (inr e) ih = rw (e, first_child) (ih (omega (arith, h)))

-- ---- children and the states placed

module _ (ts : List Word) where
  -- behind the level below the first q of ps, the children of the next
  below_at : (ps : List Word) (q : ℕ) → q < length ps
      → below ts ps ≡ below ts (take q ps) ++ (children_from ts (get_or ps q []) 0 256 ++ below ts (drop (suc q) ps))
  unfolding below
  below_at [] q h = absurd (not-suc-le-zero h)
  below_at (p ∷ ps) zero h = refl
  below_at (p ∷ ps) (suc q) h =
      ap {B = List Word} (λ (l : List Word). children_from ts p 0 256 ++ l) (below_at ps q (omega arith))
      ∙ sym (append_assoc (children_from ts p 0 256) (below ts (take q ps)) (children_from ts (get_or ps q []) 0 256 ++ below ts (drop (suc q) ps)))

  -- one more is settled
  pub placed-more : (q : ℕ) → q < length (by_level ts) → placed_by ts (suc q) ≡ placed_by ts q + kids ts q
  unfolding below
  placed-more q h =
      let p : Word = get_or (by_level ts) q [] in
      let a : below ts (take (suc q) (by_level ts)) ≡ below ts (take q (by_level ts)) ++ (children_from ts p 0 256 ++ []) =
      ap (below ts) (take-suc (by_level ts) q [] h) ∙ below_append ts (take q (by_level ts)) (p ∷ []) in
      omega (
        arith,
        ap {B = ℕ} length a,
        length-append (below ts (take q (by_level ts))) (children_from ts p 0 256 ++ []),
        ap {B = ℕ} length (append-nil (children_from ts p 0 256)),
        tally_children ts p 256 0,
      )

-- a word is not among those before it
before : (ps : List Word) (q : ℕ) → Distinct ps → q < length ps → among (get_or ps q []) (take q ps) ≡ false
unfolding among
before [] q d h = absurd (not-suc-le-zero h)
before (p ∷ ps) zero d h = refl
before (p ∷ ps) (suc q) d h =
    or_false (same (get_or ps q []) p) (among (get_or ps q []) (take q ps))
    (ne_same (get_or ps q []) p (λ e. not-both (subst (λ (w : Word). among w ps ≡ true) e (among_get_d ps q (omega arith))) d.0))
    (before ps q d.1 (omega arith))

module _ (ts : List Word) (l : Lawful ts) where
  abbrev all : List Word
  all = by_level ts

  -- all are placed when all are settled, and never more
  pub placed-all : placed_by ts (length all) ≡ length all
  placed-all =
      ap (λ (x : List Word). suc (length (below ts x))) (take_all (length all) all (omega arith)) ∙ sym (ap {B = ℕ} length (by_level-is ts l.short))

  module _ (q : ℕ) (hq : q < length all) where
    abbrev p : Word
    p = get_or all q []

    abbrev rest : List Word
    rest = below ts (drop (suc q) all)

    -- behind the states placed, the children of state q, and others
    split : all ≡ ([] ∷ below ts (take q all)) ++ (children_from ts p 0 256 ++ rest)
    split = by_level-is ts l.short ∙ ap (λ (x : List Word). [] ∷ x) (below_at ts all q hq)

    pub placed-few : placed_by ts q + kids ts q ≤ length all
    placed-few =
        omega (
          arith,
          ap {B = ℕ} length split,
          length-append ([] ∷ below ts (take q all)) (children_from ts p 0 256 ++ rest),
          length-append (children_from ts p 0 256) rest,
          tally_children ts p 256 0,
        )

    -- the states behind those placed are the children of q
    pub child-word : (r : ℕ) → placed_by ts q ≤ r → r < placed_by ts q + kids ts q → Child ts p 0 256 (get_or all r [])
    child-word r lo hi =
        let i : ℕ = r - placed_by ts q in
        let z : placed_by ts q + i ≡ r = omega arith in
        let few : i < length (children_from ts p 0 256) = omega (arith, tally_children ts p 256 0) in
        let at : get_or all r [] ≡ get_or (children_from ts p 0 256) i [] =
        ap (λ (x : ℕ). get_or all x []) (sym z) ∙ ap (λ (x : List Word). get_or x (placed_by ts q + i) []) split
        ∙ get_or-append-add ([] ∷ below ts (take q all)) (children_from ts p 0 256 ++ rest) i []
        ∙ get_or-append (children_from ts p 0 256) rest [] i few in
        subst (Child ts p 0 256) (sym at) (children_only ts 256 p 0 (get_or (children_from ts p 0 256) i []) (among_get_d (children_from ts p 0 256) i few))

    module _ (c : ℕ) (hc : c < 256) (e : goes ts p c ≡ true) where
      abbrev v : Word
      v = p ++ c ∷ []

      new : among v (below ts (take q all)) ≡ false
      new = is_false (among v (below ts (take q all))) (λ a.
          let u = below_only ts (take q all) v a in
          not-both (subst (λ (w : Word). among w (take q all) ≡ true) (snoc_inj u.parent p u.byte c (sym u.is)) u.among-is)
          (before all q (by_level-distinct ts l.short) hq))

      inside : index_of v (children_from ts p 0 256) ≡ tally_from (goes ts p) 0 c
      inside = subst (λ (y : ℕ). index_of (p ++ y ∷ []) (children_from ts p 0 256) ≡ tally_from (goes ts p) 0 c) (zero-add c)
          (children_index ts 256 p 0 c hc (subst (λ (y : ℕ). goes ts p y ≡ true) (sym (zero-add c)) e))

      -- THE NEXT FREE NUMBER: a child's, behind the states placed and the children on lower bytes
      pub next-free : index_of v all ≡ placed_by ts q + tally_from (goes ts p) 0 c
      next-free =
          ap (index_of v) (by_level-is ts l.short)
          ∙ index_of_miss v [] (below ts all) (ne_same v [] (concat-ne-nil c p))
          ∙ ap suc (ap (index_of v) (below_at ts all q hq) ∙ index_of-after v (below ts (take q all)) (children_from ts p 0 256 ++ rest) new
          ∙ ap (λ (x : ℕ). length (below ts (take q all)) + x) (index_of_append v (children_from ts p 0 256) rest (children_byte ts p c hc e) ∙ inside))
          ∙ omega arith

    -- ---- the first child

    pub first_some : 0 < kids ts q → first_child all p 0 256 ≡ placed_by ts q
    first_some h =
        let x = tally-some (goes ts p) 256 0 h in
        let c : ℕ = x.0 in
        let hc : c < 256 = omega (arith, x.1) in
        let f : forward all p c ≡ true = forward-goes ts l.short l.bytes p c ∙ x.2 in
        omega (
          arith,
          child-number ts l.short l.bytes p c (among_get_d all q hq) hc f,
          next-free c hc x.2,
          tally-same (forward all p) (goes ts p) (forward-goes ts l.short l.bytes p) c 0,
        )

    pub first-none : kids ts q ≡ 0 → first_child all p 0 256 ≡ 0
    first-none h = first-empty all p 256 0 (tally-same (forward all p) (goes ts p) (forward-goes ts l.short l.bytes p) 256 0 ∙ h)

  -- ---- a state is placed when its turn comes: its parent has a lower number

  under : (q : ℕ) → q < length all → 0 < q → Under ts all (get_or all q [])
  under q hq h = go (among_cases w [] (below ts all) (sym (ap (among w) (by_level-is ts l.short)) ∙ among_get_d all q hq))
    where
      w : Word
      w = get_or all q []

      go : (same w [] ≡ true) ⊎ (among w (below ts all) ≡ true) → Under ts all w
      go (inl e) =
          let z : q ≡ 0 =
          sym (index_of_get_d all q (by_level-distinct ts l.short) hq) ∙ ap (λ (x : Word). index_of x all) (same_eq w [] e) ∙ level-first ts l in
          absurd (omega (arith, h, z))
      go (inr e) = below_only ts all w e

  placed_grows : (m q r : ℕ) → q + m ≡ r → r ≤ length all → placed_by ts q ≤ placed_by ts r
  placed_grows zero q r e h = let z : q ≡ r = omega arith in subst (λ (x : ℕ). placed_by ts q ≤ placed_by ts x) z (omega arith)
  placed_grows (suc m) q r e h = omega (arith, placed-more ts q (omega arith), placed_grows m (suc q) r (omega arith) h)

  pub reached : (q : ℕ) → q < length all → q < placed_by ts q
  reached zero hq = omega arith
  reached (suc q) hq =
      let n : ℕ = suc q in
      let u = under n hq (omega arith) in
      let p : Word = u.parent in
      let c : ℕ = u.byte in
      let r : ℕ = index_of p all in
      let rp : get_or all r [] ≡ p = get_d_index_of p all u.among-is in
      let rl : r < length all = index_of_lt p all u.among-is in
      let wq : index_of (get_or all n []) all ≡ n = index_of_get_d all n (by_level-distinct ts l.short) hq in
      let o : r < index_of (get_or all n []) all =
      by_level-order ts l.short p (get_or all n []) u.among-is (among_get_d all n hq) (omega (arith, ap {B = ℕ} length u.is, length-append p (c ∷ [])))
      in
      let b : goes ts (get_or all r []) c ≡ true =
      subst (λ (x : Word). goes ts x c ≡ true) (sym rp) (subst (λ (x : Word). begins_one x ts ≡ true) u.is u.begun) in
      let hc : c < 256 = begins-byte 256 ts (get_or all r []) c l.bytes b in
      let qn : index_of (get_or all r [] ++ c ∷ []) all ≡ n =
      ap (λ (x : Word). index_of (x ++ c ∷ []) all) rp ∙ ap (λ (x : Word). index_of x all) (sym u.is) ∙ wq in
      let up = placed_grows (n - suc r) (suc r) n (omega (arith, o, wq)) (omega arith) in
      omega (arith, next-free r rl c hc b, qn, tally_lt (goes ts (get_or all r [])) c 256 hc b, placed-more ts r rl, up)
