-- The slots are made level by level, and in a level tag by tag.
use Prim.Native.Nat.{◌*◌, ◌+◌, ◌-◌, ◌<◌, ◌≤◌, ℕ}
use mathlib.Core.Bool.{cond, true}
use mathlib.Core.List.{List, [], ◌++◌, ◌∷◌, tail}
use mathlib.Core.Logic.{inr}
use mathlib.Core.Path.{◌∙◌, ◌≡◌, ap, refl, subst, sym}
use native.Mathlib.Decide.{dec_le, dec_lt, ℕ_discrete}
use native.Mathlib.Nat.{le_refl, zero-mul}
use native.Mathlib.Numerals.{add-one}
use native.Mathlib.Omega.{arith}
use lib.Dec.{eqb}
use lib.ListN.{get_or, length, length-set, length-take, set, take}
use lib.Seq.{get_or-set_other, get_or-set_same, get_or-take, length-take-le, take-suc}
use borrow.Author.Tests.{eq-eqb, le-leb, ne_eqb}
use Rattle.machines.proofs.Cells.{cell_col, cell-fits}
use Rattle.machines.proofs.Growing.{begins-known}
use Rattle.machines.proofs.Heads.{Front, front-among, front_of as front_in, state-front}
use Rattle.machines.proofs.Making.{Cell, cell-child, cells-all, done_all, done-slot, first-low, root_done, states-is}
use Rattle.machines.specs.Fronts.{known}
use Rattle.machines.specs.Rows.{Done, Filled, Level, Made, Place, Sown, Started, cell, front_of, no_walk}
use Rattle.machines.specs.declared.filling.Walk.{Walk}
use Rattle.matching.specs.Laws.Links.{next-child}
use Rattle.matching.specs.Laws.Machine.{longest-among, longest-length, longest_nil, next-longest}
use Rattle.matching.proofs.Laws.Prefixes.{index_of_nil, tree}
use Rattle.matching.specs.Laws.Words.{among_get_d, get_d_index_of, index_of_get_d, index_of_lt}
use Rattle.matching.specs.Machine.{longest, prefixes, states, vector}
use Rattle.matching.specs.Words.{Word, among, index_of}

-- ---- the levels

module _ (ts : List Word) (m : ℕ) where
  pub level-start : (walks : List Walk) (l : List ℕ) (z : ℕ) → Sown (prefixes ts) m l → m < length l → z ≡ vector ts [] → Started ts walks
      → Level ts m 0 0 walks (set l m z)
  level-start walks l z S room e W =
      record {
        cells = λ q c hq hc. inr (other (cell m q c) (λ h. off q c hc h) ∙ S.kids q c (rw (states-is ts) hq) hc);
        rows = λ v h k. rw (nil v k, index_of_nil ts) (root_done ts m z l S room e);
        fresh = λ u h k. absurd (omega arith);
        knows = λ u h. ap (λ (w : Walk). w.front) (W.each u h);
        gone = λ u h k. absurd (omega arith);
        here = λ u h k n.
            record {
              state = ap (λ (w : Walk). w.at) (W.each u k) ∙ sym (index_of_nil ts);
              failed = ap (λ (w : Walk). w.fail) (W.each u k) ∙ sym (ap (λ (w : Word). index_of w (prefixes ts)) (longest_nil (prefixes ts)) ∙ index_of_nil ts);
            };
        blank = λ j h. other j (λ i. omega (arith, cell-fits m 0 m (states ts) (first-low ts) (le_refl m), zero-mul (m + 1)))
            ∙ S.blank j (rw (states-is ts) h);
        room = W.room;
      }
    where
      nil : (v : Word) → length v ≤ 0 → v ≡ []
      nil [] h = refl
      nil (x ∷ v) h = absurd (omega arith)

      other : (j : ℕ) → (j ≡ m → ⊥) → get_or (set l m z) j 0 ≡ get_or l j 0
      other j n = get_or-set_other l m j z 0 n

      off : (q c : ℕ) → c < m → cell m q c ≡ m → ⊥
      off q c hc h = omega (arith, cell_col m q 0 c m (omega arith) (le_refl m) (h ∙ omega (arith, zero-mul (m + 1))))

  pub level_skip : (d t : ℕ) (walks : List Walk) (l : List ℕ) → Level ts m d t walks l → length (get_or ts t []) ≤ d → Level ts m d (t + 1) walks l
  level_skip d t walks l L h =
      record {
        cells = L.cells;
        rows = L.rows;
        fresh = λ u k n. L.fresh u (less u k n) n;
        knows = L.knows;
        gone = λ u k n. L.gone u (less u k n) n;
        here = λ u k n o. L.here u (omega arith) n o;
        blank = L.blank;
        room = L.room;
      }
    where
      less : (u : ℕ) → u < t + 1 → d < length (get_or ts u []) → u < t
      less u k n = go (dec_lt u t)
        where
          go : Dec (u < t) → u < t
          go (yes j) = j
          go (no j) =
              let e : u ≡ t = omega arith in
              absurd (omega (arith, ap (λ (x : ℕ). length (get_or ts x [])) e))

  pub level-next : (d t : ℕ) (walks : List Walk) (l : List ℕ) → Level ts m d t walks l → length ts ≤ t → Level ts m (d + 1) 0 walks l
  level-next d t walks l L h =
      record {
        cells = L.cells;
        rows = λ v a k. row v a k (dec_le (length v) d);
        fresh = λ u k n. absurd (omega arith);
        knows = L.knows;
        gone = λ u k n. absurd (omega arith);
        here = λ u k n o. L.gone u (omega arith) (omega arith);
        blank = L.blank;
        room = L.room;
      }
    where
      row : (v : Word) → among v (prefixes ts) ≡ true → length v ≤ d + 1 → Dec (length v ≤ d) → Done ts m (index_of v (prefixes ts)) l
      row v a k (yes j) = L.rows v a j
      row v a k (no j) =
          let s = state-front ts v a (omega arith) in
          let e : d + 1 ≡ length v = omega arith in
          subst (λ (x : Word). Done ts m (index_of x (prefixes ts)) l) (ap (λ (n : ℕ). take n (get_or ts s.tag [])) e ∙ s.is)
          (L.fresh s.tag (omega (arith, s.low)) (omega (arith, s.long)))

  pub level-end : (d t : ℕ) (walks : List Walk) (l : List ℕ) → Level ts m d t walks l → ((u : ℕ) → length (get_or ts u []) ≤ d) → Filled ts m l
  level-end d t walks l L short =
      record {
        done = λ q h.
            let low : q < length (prefixes ts) = rw (states-is ts) h in
            let v = get_or (prefixes ts) q [] in
            let a : among v (prefixes ts) ≡ true = among_get_d (prefixes ts) q low in
            subst (λ (n : ℕ). Done ts m n l) (index_of_get_d (prefixes ts) q (tree ts).distinct low) (L.rows v a (deep v a (dec_lt 0 (length v))));
        blank = L.blank;
      }
    where
      deep : (v : Word) → among v (prefixes ts) ≡ true → Dec (0 < length v) → length v ≤ d
      deep v a (yes k) = let s = state-front ts v a k in omega (arith, s.long, short s.tag)
      deep v a (no k) = omega arith

-- ---- tag t goes one letter on

-- its walk, then
abbrev pub gone_on : List Walk → ℕ → ℕ → ℕ → Walk
gone_on walks t q x = record { front = (get_or walks t no_walk).front; at = q; fail = x }

tail_snoc : (w : Word) (c : ℕ) → 0 < length w → tail (w ++ c ∷ []) ≡ tail w ++ c ∷ []
tail_snoc [] c h = absurd (omega arith)
tail_snoc (x ∷ w) c h = refl

tail_less : (w : Word) → length (tail w) ≤ length w - 1
tail_less [] = omega arith
tail_less (x ∷ w) = omega arith

module _ {ts : List Word} {m d t : ℕ} {walks : List Walk} {l : List ℕ} (L : Level ts m d t walks l) (ht : t < length ts) (w : Word) (ew : w ≡ get_or ts t [])
    (hd : d < length w)
    (c : ℕ) (hc : c ≡ get_or w d 0) (low : c < m) where
  deep : d < length (get_or ts t [])
  deep = rw ew at hd

  place : Place (prefixes ts) (get_or ts t []) d (get_or walks t no_walk)
  place = L.here t (le_refl t) ht (omega (arith, deep))

  front : take (d + 1) (get_or ts t []) ≡ take d (get_or ts t []) ++ c ∷ []
  front =
      ap (λ (n : ℕ). take n (get_or ts t [])) (add-one d) ∙ take-suc (get_or ts t []) d 0 deep
      ∙ ap (λ (x : ℕ). take d (get_or ts t []) ++ x ∷ []) (sym (hc ∙ ap (λ (v : Word). get_or v d 0) ew))

  long : length (take (d + 1) (get_or ts t [])) ≡ d + 1
  long = length-take-le (d + 1) (get_or ts t []) (omega (arith, deep))

  there : among (take (d + 1) (get_or ts t [])) (prefixes ts) ≡ true
  there = front-among ts t (d + 1) ht

  pub at_low : (get_or walks t no_walk).at < states ts
  at_low = rw (place.state, ← states-is ts) (index_of_lt (take d (get_or ts t [])) (prefixes ts) (front-among ts t d ht))

  pub fail-low : (get_or walks t no_walk).fail < states ts
  fail-low = rw (place.failed, ← states-is ts) (index_of_lt _ (prefixes ts) (longest-among (prefixes ts) (tail (take d (get_or ts t []))) (tree ts).root))

  this : get_or (prefixes ts) ((get_or walks t no_walk).at) [] ≡ take d (get_or ts t [])
  this = ap (λ (n : ℕ). get_or (prefixes ts) n []) place.state ∙ get_d_index_of (take d (get_or ts t [])) (prefixes ts) (front-among ts t d ht)

  child-there : among (get_or (prefixes ts) ((get_or walks t no_walk).at) [] ++ c ∷ []) (prefixes ts) ≡ true
  child-there = rw (this, ← front) there

  module _ (q x : ℕ) (eq : q ≡ get_or l (cell m ((get_or walks t no_walk).at) c) 0) (ex : x ≡ cond (eqb d 0) 0 (get_or l (cell m ((get_or walks t no_walk).fail) c) 0)) where
    state-next : q ≡ index_of (take (d + 1) (get_or ts t [])) (prefixes ts)
    state-next =
        eq ∙ cell-child ts ((get_or walks t no_walk).at) c child-there _ (L.cells ((get_or walks t no_walk).at) c at_low low)
        ∙ next-child (prefixes ts) ((get_or walks t no_walk).at) c child-there
        ∙ ap (λ (v : Word). index_of v (prefixes ts)) (ap (λ (v : Word). v ++ c ∷ []) this ∙ sym front)

    fail-next : x ≡ index_of (longest (prefixes ts) (tail (take (d + 1) (get_or ts t [])))) (prefixes ts)
    fail-next = go (ℕ_discrete d 0)
      where
        go : Dec (d ≡ 0) → x ≡ index_of (longest (prefixes ts) (tail (take (d + 1) (get_or ts t [])))) (prefixes ts)
        go (yes e) =
            ex ∙ rw (eq-eqb d 0 e)
            (sym (ap (λ (v : Word). index_of (longest (prefixes ts) (tail v)) (prefixes ts)) (front ∙ ap (λ (n : ℕ). take n (get_or ts t []) ++ c ∷ []) e)
            ∙ ap (λ (v : Word). index_of v (prefixes ts)) (longest_nil (prefixes ts)) ∙ index_of_nil ts))
        go (no n) =
            let v = take d (get_or ts t []) in
            let size : length v ≡ d = length-take-le d (get_or ts t []) (omega (arith, deep)) in
            let short : length (longest (prefixes ts) (tail v)) ≤ d = omega (arith, longest-length (prefixes ts) (tail v), tail_less v, size) in
            ex ∙ rw (ne_eqb d 0 n)
            (ap (λ (y : ℕ). get_or l (cell m y c) 0) place.failed
            ∙ (L.rows (longest (prefixes ts) (tail v)) (longest-among (prefixes ts) (tail v) (tree ts).root) short).nexts c low
            ∙ next-longest (prefixes ts) (tree ts).closed (tree ts).root (tail v) c
            ∙ ap (λ (u : Word). index_of (longest (prefixes ts) u) (prefixes ts)) (sym (tail_snoc v c (omega (arith, size))) ∙ ap tail (sym front)))

    pub q-low : q < states ts
    q-low = rw (state-next, ← states-is ts) (index_of_lt (take (d + 1) (get_or ts t [])) (prefixes ts) there)

    pub x-low : x < states ts
    x-low = rw (fail-next, ← states-is ts) (index_of_lt _ (prefixes ts) (longest-among (prefixes ts) (tail (take (d + 1) (get_or ts t []))) (tree ts).root))

    -- the tags' places after the step, in slots l' where what was made stays made
    moved : (l' : List ℕ) → length ts ≤ 16 → ((q c : ℕ) → q < states ts → c < m → Cell ts q c (get_or l' (cell m q c) 0))
        → ((n : ℕ) → Done ts m n l → Done ts m n l')
        → Done ts m (index_of (take (d + 1) (get_or ts t [])) (prefixes ts)) l'
        → ((j : ℕ) → states ts * (m + 1) ≤ j → get_or l' j 0 ≡ 0)
        → Level ts m d (t + 1) (set walks t (gone_on walks t q x)) l'
    moved l' few cells stays new blank =
        record {
          cells = cells;
          rows = λ v h k. stays (index_of v (prefixes ts)) (L.rows v h k);
          fresh = λ u h k. fresh_at u k (dec_lt u t) h;
          gone = λ u h k. gone_at u k (dec_lt u t) h;
          knows = λ u h. knows_at u (ℕ_discrete u t) h;
          here = λ u h k n. rw (get_or-set_other walks t u (gone_on walks t q x) no_walk (λ e. omega arith)) (L.here u (omega arith) k n);
          blank = blank;
          room = rw (length-set walks t (gone_on walks t q x)) L.room;
        }
      where
        fresh_at : (u : ℕ) → d < length (get_or ts u []) → Dec (u < t) → u < t + 1 → Done ts m (index_of (take (d + 1) (get_or ts u [])) (prefixes ts)) l'
        fresh_at u k (yes j) h = stays (index_of (take (d + 1) (get_or ts u [])) (prefixes ts)) (L.fresh u j k)
        fresh_at u k (no j) h =
            let e : t ≡ u = omega arith in
            subst (λ (n : ℕ). Done ts m (index_of (take (d + 1) (get_or ts n [])) (prefixes ts)) l') e new

        same : get_or (set walks t (gone_on walks t q x)) t no_walk ≡ gone_on walks t q x
        same = get_or-set_same walks t (gone_on walks t q x) no_walk (omega (arith, L.room))

        knows_at : (u : ℕ) → Dec (u ≡ t) → u < length ts → (get_or (set walks t (gone_on walks t q x)) u no_walk).front ≡ front_of ts u
        knows_at u (yes e) h = rw (e, same) (L.knows t ht)
        knows_at u (no n) h = rw (get_or-set_other walks t u (gone_on walks t q x) no_walk n) (L.knows u h)

        gone_at : (u : ℕ) → d < length (get_or ts u []) → Dec (u < t) → u < t + 1
            → Place (prefixes ts) (get_or ts u []) (d + 1) (get_or (set walks t (gone_on walks t q x)) u no_walk)
        gone_at u k (yes j) h = rw (get_or-set_other walks t u (gone_on walks t q x) no_walk (λ e. omega arith)) (L.gone u j k)
        gone_at u k (no j) h =
            let e : t ≡ u = omega arith in
            subst (λ (n : ℕ). Place (prefixes ts) (get_or ts n []) (d + 1) (get_or (set walks t (gone_on walks t q x)) n no_walk)) e
            (rw same (record { state = state-next; failed = fail-next }))

    module _ (few : length ts ≤ 16) where
      -- the slot was made by a tag that has this front too
      pub level-known : d < known (take t ts) (get_or ts t []) → Level ts m d (t + 1) (set walks t (gone_on walks t q x)) l
      level-known k = moved l few L.cells (λ n D. D) made L.blank
        where
          earlier : Front (take t ts) (take (d + 1) (get_or ts t []))
          earlier =
              front_in (take t ts) (take (d + 1) (get_or ts t []))
              (begins-known (d + 1) (take t ts) (get_or ts t []) (omega arith) (omega (arith, deep))
              ∙ le-leb (d + 1) (known (take t ts) (get_or ts t [])) (omega arith))

          made : Done ts m (index_of (take (d + 1) (get_or ts t [])) (prefixes ts)) l
          made =
              let f = earlier in
              let u = f.tag in
              let h : u < t = omega (arith, f.low, length-take t ts) in
              let g : get_or (take t ts) u [] ≡ get_or ts u [] = get_or-take t ts u [] h in
              let s : d + 1 ≤ length (get_or ts u []) = omega (arith, f.long, long, ap {B = ℕ} length g) in
              let e : take (d + 1) (get_or ts u []) ≡ take (d + 1) (get_or ts t []) =
              ap (take (d + 1)) (sym g) ∙ ap (λ (n : ℕ). take n (get_or (take t ts) u [])) (sym long) ∙ f.is in
              subst (λ (v : Word). Done ts m (index_of v (prefixes ts)) l) e (L.fresh u h (omega arith))

      -- the slot is made now
      pub level-made : (z : ℕ) (l' : List ℕ) → z ≡ vector ts (take (d + 1) w) → Made m q x z l l' → Level ts m d (t + 1) (set walks t (gone_on walks t q x)) l'
      level-made z l' ez M =
          moved l' few
          (λ p a hp ha. cells-all ts m q x l l' z M p a ha new (L.cells p a hp ha))
          (λ n D. done_all ts m q x l l' z M n new D)
          (subst (λ (n : ℕ). Done ts m n l') state-next new)
          (λ j h. M.above j (omega (arith, cell-fits m q m (states ts) q-low (le_refl m))) ∙ L.blank j h)
        where
          from : Done ts m x l
          from =
              rw fail-next
              (L.rows (longest (prefixes ts) (tail (take (d + 1) (get_or ts t []))))
              (longest-among (prefixes ts) (tail (take (d + 1) (get_or ts t []))) (tree ts).root)
              (omega (arith, longest-length (prefixes ts) (tail (take (d + 1) (get_or ts t []))), tail_less (take (d + 1) (get_or ts t [])), long)))

          new : Done ts m q l'
          new =
              done-slot ts m q x l l' z M (take (d + 1) (get_or ts t [])) (omega (arith, long)) there state-next fail-next
              (ez ∙ ap (λ (v : Word). vector ts (take (d + 1) v)) ew) (λ a ha. L.cells q a q-low ha) from
