-- Sowing tag by tag: a tag that goes through a state and is longer goes through the child on its next byte, and through no other child.
use Prim.Native.Nat.{◌%◌, ◌*◌, ◌+◌, ◌/◌, ◌<◌, ◌^◌, ◌≤◌, suc, zero, ℕ}
use Rattle.std.specs.Prelude.{Bool, ◌&&◌, ◌||◌, false, not, true, List, [], ◌++◌, ◌∷◌, ◌⊎◌, ◌≡◌, eqb, ltb, get_or, length, take}
use Rattle.std.proofs.Math.Bool.{cond}
use Rattle.std.proofs.Common.{inl, inr, ◌∙◌, subst, sym, not-suc-le-zero, add-one, arith, length-append, length-take-le, take_all, eq-eqb, eqb-true, lt-ltb, ltb-true}
use Rattle.std.proofs.Math.Path.{ap, refl}
use Rattle.std.proofs.Math.Decide.{dec_lt, ℕ_discrete}
use Rattle.std.proofs.lemmas.Bool.{not-false, not-true}
use Rattle.matching.specs.Laws.Bools.{and_both, and_l, and_r, is_false, not-both, or_cases, or_l, or_r}
use Rattle.matching.specs.Laws.Words.{get_d_index_of, index_of_get_d}
use Rattle.matching.specs.Words.{AllShort, Word, begins, begins_one, index_of}
use Rattle.bitmap.specs.Laws.Built.{level_tree}
use Rattle.bitmap.specs.Laws.Children.{forward-goes, goes}
use Rattle.bitmap.specs.Laws.Levels.{Child, begins-byte}
use Rattle.bitmap.specs.Laws.Maps.{ones_below-is, tally-same}
use Rattle.bitmap.specs.Laws.States.{states-few}
use Rattle.bitmap.specs.Levels.{by_level, forward}
use Rattle.bitmap.specs.Steps.{Step, To, Wrong, fail_at, number_at, ones_below, step, vector_at}
use Rattle.bitmap_maps.specs.Laws.Masks.{begins-child, goes-begins, through-fits, vector-take}
use Rattle.bitmap_maps.specs.Through.{through}
use Rattle.bitmap_growing.specs.Growing.{Found, Growing, Sowable, Sowing, Sown, Waiting, child_number, fail_to, kids, placed, sown_by, word_of}
use Rattle.bitmap_growing.specs.Laws.Cells.{placed-bare, placed-cell, placed-depth, placed-fail, placed-length, placed-mask, placed-other}
use Rattle.bitmap_growing.specs.Laws.Failing.{failing, failure-state}
use Rattle.bitmap_growing.specs.Laws.Numbers.{child-word, next-free, placed-few, placed-more, reached, tally_lt}
use Rattle.matching.specs.Machine.{failure}

-- ---- one tag

short-at : (ts : List Word) (i : ℕ) → AllShort 32 ts → i < length ts → length (get_or ts i []) ≤ 32
short-at [] i h l = absurd (not-suc-le-zero l)
short-at (t ∷ ts) zero h l = h.0
short-at (t ∷ ts) (suc i) h l = short-at ts i h.1 (omega arith)

begins-some : (ts : List Word) (u : ℕ) (v : Word) → u < length ts → begins v (get_or ts u []) ≡ true → begins_one v ts ≡ true
unfolding begins_one
begins-some [] u v h e = absurd (not-suc-le-zero h)
begins-some (t ∷ ts) zero v h e = or_l (begins v t) (begins_one v ts) e
begins-some (t ∷ ts) (suc u) v h e = or_r (begins v t) (begins_one v ts) (begins-some ts u v (omega arith) e)

-- one that begins the first u + 1 tags begins the first u, or tag u
begins_last : (ts : List Word) (u : ℕ) (v : Word) → u < length ts → begins_one v (take (suc u) ts) ≡ true
    → (begins_one v (take u ts) ≡ true) ⊎ (begins v (get_or ts u []) ≡ true)
unfolding begins_one
begins_last [] u v h e = absurd (not-suc-le-zero h)
begins_last (t ∷ ts) zero v h e = go (or_cases (begins v t) false e)
  where
    go : (begins v t ≡ true) ⊎ (false ≡ true) → (false ≡ true) ⊎ (begins v t ≡ true)
    go (inl i) = inr i
    go (inr i) = inl i
begins_last (t ∷ ts) (suc u) v h e = go (or_cases (begins v t) (begins_one v (take (suc u) ts)) e) (begins_last ts u v (omega arith))
  where
    go : (begins v t ≡ true) ⊎ (begins_one v (take (suc u) ts) ≡ true)
        → (begins_one v (take (suc u) ts) ≡ true → (begins_one v (take u ts) ≡ true) ⊎ (begins v (get_or ts u []) ≡ true))
        → ((begins v t || begins_one v (take u ts)) ≡ true) ⊎ (begins v (get_or ts u []) ≡ true)
    go (inl i) ih = inl (or_l (begins v t) (begins_one v (take u ts)) i)
    go (inr i) ih = back (ih i)
      where
        back : (begins_one v (take u ts) ≡ true) ⊎ (begins v (get_or ts u []) ≡ true)
            → ((begins v t || begins_one v (take u ts)) ≡ true) ⊎ (begins v (get_or ts u []) ≡ true)
        back (inl j) = inl (or_r (begins v t) (begins_one v (take u ts)) j)
        back (inr j) = inr j

module _ (p t : Word) where
  abbrev more : Bool
  more = ltb (length p) (length t)

  -- a tag through p goes through its child on the next byte
  child_yes : (c : ℕ) → begins p t ≡ true → length p < length t → c ≡ get_or t (length p) 0 → begins (p ++ c ∷ []) t ≡ true
  child_yes c b h e =
      begins-child p t c
      ∙ and_both (begins p t && more) (eqb (get_or t (length p) 0) c) (and_both (begins p t) more b (lt-ltb (length p) (length t) h))
      (eq-eqb (get_or t (length p) 0) c (sym e))

  -- and through no other
  child-not : (x : ℕ) → (begins p t ≡ true → length p < length t → get_or t (length p) 0 ≡ x → ⊥) → begins (p ++ x ∷ []) t ≡ false
  child-not x h = is_false (begins (p ++ x ∷ []) t) (λ e.
      let b = sym (begins-child p t x) ∙ e in
      let r = and_l (begins p t && more) (eqb (get_or t (length p) 0) x) b in
      h (and_l (begins p t) more r) (ltb-true (length p) (length t) (and_r (begins p t) more r))
      (eqb-true (get_or t (length p) 0) x (and_r (begins p t && more) (eqb (get_or t (length p) 0) x) b)))

-- ---- one slot

module _ (ts : List Word) (u : ℕ) (hu : u < length ts) where
  through-next : (v : Word) (b : Bool) → begins v (get_or ts u []) ≡ b → through (take (u + 1) ts) v ≡ through (take u ts) v + cond b (2 ^ u) 0
  unfolding through
  through-next v b e =
      ap (λ (x : ℕ). through (take x ts) v) (add-one u) ∙ vector-take (λ t. begins v t) ts u hu
      ∙ ap (λ (x : Bool). through (take u ts) v + cond x (2 ^ u) 0) e

  -- a tag that doesn't go through it leaves it as it was
  sown-other : (table after : List ℕ) (r : ℕ) → Sown ts u table r → begins (word_of ts r) (get_or ts u []) ≡ false
      → ((j : ℕ) → j < 19 → number_at after r j ≡ number_at table r j) → Sown ts (u + 1) after r
  sown-other table after r o n same = record {
    bare = λ j a b. same j (omega arith) ∙ o.bare j a b;
    mask = same 18 (omega arith) ∙ o.mask ∙ omega (arith, through-next (word_of ts r) false n);
    begun = λ e. go (begins_last ts u (word_of ts r) hu (subst (λ (x : ℕ). begins_one (word_of ts r) (take x ts) ≡ true) (add-one u) e));
  }
    where
      go : (begins_one (word_of ts r) (take u ts) ≡ true) ⊎ (begins (word_of ts r) (get_or ts u []) ≡ true)
          → (number_at after r 0 ≡ length (word_of ts r)) × (fail_at after r ≡ failure (by_level ts) r)
      go (inl e) = let b = o.begun e in (same 0 (omega arith) ∙ b.0, same 17 (omega arith) ∙ b.1)
      go (inr e) = absurd (not-both e n)

  -- one that does is in its mask, and it has its depth and failure state
  sown_this : (table : List ℕ) (r d f : ℕ) → r * 19 + 18 < length table → Sown ts u table r → begins (word_of ts r) (get_or ts u []) ≡ true
      → d ≡ length (word_of ts r) → f ≡ failure (by_level ts) r → Sown ts (u + 1) (placed table r d f (vector_at table r + 2 ^ u)) r
  sown_this table r d f h o on ed ef = record {
    bare = λ j a b. placed-bare table r d f (vector_at table r + 2 ^ u) j a b ∙ o.bare j a b;
    mask = placed-mask table r d f (vector_at table r + 2 ^ u) h ∙ omega (arith, o.mask, through-next (word_of ts r) true on);
    begun = λ e. (placed-depth table r d f (vector_at table r + 2 ^ u) h ∙ ed, placed-fail table r d f (vector_at table r + 2 ^ u) h ∙ ef);
  }

-- ---- the table

module _ (ts : List Word) (s : ℕ) (table : List ℕ) (q k u : ℕ) (g : Sowing ts s table q k u) where
  abbrev p : Word
  p = word_of ts q

  -- the state and those before it are below the children
  q-below : q < k
  q-below = omega (arith, reached ts g.lawful q g.state, g.counted)

  kids-few : k + kids ts q ≤ length (by_level ts)
  kids-few = omega (arith, placed-few ts g.lawful q g.state, g.counted)

  child-is : (r : ℕ) → k ≤ r → r < k + kids ts q → Child ts p 0 256 (word_of ts r)
  child-is r lo hi = child-word ts g.lawful q g.state r (omega (arith, g.counted)) (omega (arith, g.counted))

  -- the children are sown by one more tag, and all else is as it was
  next-by : (after : List ℕ) → length after ≡ length table → ((r j : ℕ) → r < k → j < 19 → number_at after r j ≡ number_at table r j)
      → ((j : ℕ) → (k + kids ts q) * 19 ≤ j → get_or after j 0 ≡ get_or table j 0) → ((r : ℕ) → k ≤ r → r < k + kids ts q → Sown ts (u + 1) after r)
      → Sowing ts s after q k (u + 1)
  next-by after long same clear sown = record {
    lawful = g.lawful;
    room = g.room;
    slots = omega (arith, g.slots, long);
    state = g.state;
    settled = record {
      few = g.settled.few;
      maps = λ r hr j hj. same r j (omega (arith, q-below)) (omega arith) ∙ g.settled.maps r hr j hj;
      child = λ r hr. same r 16 (omega (arith, q-below)) (omega arith) ∙ g.settled.child r hr;
      fail = λ r hr. same r 17 (omega (arith, q-below)) (omega arith) ∙ g.settled.fail r hr;
    };
    marks = λ r hr. same r 18 (omega (arith, q-below)) (omega arith) ∙ g.marks r hr;
    waiting = λ r lo hi.
        let w = g.waiting r lo hi in record {
          depth = same r 0 hi (omega arith) ∙ w.depth;
          bare = λ j a b. same r j hi (omega arith) ∙ w.bare j a b;
          fail = same r 17 hi (omega arith) ∙ w.fail;
          mask = same r 18 hi (omega arith) ∙ w.mask;
        };
    counted = g.counted;
    sown = sown;
    blank = λ j h. clear j h ∙ g.blank j h;
  }

  module _ (hu : u < length ts) where
    abbrev t : Word
    t = get_or ts u []

    -- a tag that doesn't go through q, or ends there
    pub sow_none : (begins p t ≡ true → length p < length t → ⊥) → Sowing ts s table q k (u + 1)
    sow_none n = next-by table refl (λ r j a b. refl) (λ j h. refl) (λ r lo hi.
        let c = child-is r lo hi in
        sown-other ts u hu table table r (g.sown r lo hi)
        (subst (λ (w : Word). begins w t ≡ false) (sym c.is) (child-not p t c.byte (λ a b e. n a b))) (λ j h. refl))

    -- one that goes on from there
    module _ (d f c : ℕ) (ed : d ≡ length p) (ef : f ≡ failure (by_level ts) q) (through-q : begins p t ≡ true) (longer : d < length t)
        (ec : c ≡ get_or t d 0) where
      abbrev r₀ : ℕ
      r₀ = child_number table q k c

      begun : begins (p ++ c ∷ []) t ≡ true
      begun = child_yes p t c through-q (omega (arith, ed, longer)) (ec ∙ ap (λ (x : ℕ). get_or t x 0) ed)

      on : goes ts p c ≡ true
      on = begins-some ts u (p ++ c ∷ []) hu begun

      hc : c < 256
      hc = begins-byte 256 ts p c g.lawful.bytes on

      number_is : r₀ ≡ index_of (p ++ c ∷ []) (by_level ts)
      number_is =
          omega (
            arith,
            ones_below-is table q (forward (by_level ts) p) (g.settled.maps q (omega arith)) c hc,
            tally-same (forward (by_level ts) p) (goes ts p) (forward-goes ts g.lawful.short g.lawful.bytes p) c 0,
            next-free ts g.lawful q g.state c hc on,
            g.counted,
          )

      high : r₀ < k + kids ts q
      high = omega (arith, number_is, next-free ts g.lawful q g.state c hc on, tally_lt (goes ts p) c 256 hc on, g.counted)

      low : k ≤ r₀
      low = omega arith

      word-is : word_of ts r₀ ≡ p ++ c ∷ []
      word-is =
          ap (word_of ts) number_is
          ∙ get_d_index_of (p ++ c ∷ []) (by_level ts) (forward-goes ts g.lawful.short g.lawful.bytes p c ∙ on)

      -- no other child is on that byte
      alone : (r : ℕ) → k ≤ r → r < k + kids ts q → (r ≡ r₀ → ⊥) → begins (word_of ts r) t ≡ false
      alone r lo hi n =
          let i = child-is r lo hi in
          subst (λ (w : Word). begins w t ≡ false) (sym i.is) (child-not p t i.byte (λ a b e.
          let same : i.byte ≡ c = sym e ∙ sym (ec ∙ ap (λ (x : ℕ). get_or t x 0) ed) in
          n (sym (index_of_get_d (by_level ts) r (level_tree ts g.lawful).distinct (omega (arith, kids-few)))
          ∙ ap (λ (w : Word). index_of w (by_level ts)) (i.is ∙ ap (λ (x : ℕ). p ++ x ∷ []) same) ∙ sym number_is)))

      fail-is : fail_to q (step s table f c) ≡ failure (by_level ts) r₀
      fail-is = failing ts g.lawful s g.room table q g.settled f ef c hc on ∙ ap (failure (by_level ts)) (sym number_is)

      there : r₀ * 19 + 18 < length table
      there = omega (arith, high, kids-few, g.room, g.slots)

      abbrev after : List ℕ
      after = sown_by table s q f d k c u

      mask_is : vector_at table r₀ + 2 ^ u ≡ through (take (u + 1) ts) (word_of ts r₀)
      mask_is = omega (arith, (g.sown r₀ low high).mask, through-next ts u hu (word_of ts r₀) true (ap (λ (w : Word). begins w t) word-is ∙ begun))

      pub sow_able : Sowable table s q f d k c u
      sow_able = record {
        slots = omega (arith, g.slots);
        parent = omega (arith, g.state, g.room);
        fails = omega (arith, ef, failure-state ts g.lawful q, g.room);
        child = omega (arith, high, kids-few, g.room);
        deep = omega (arith, longer, short-at ts u g.lawful.short hu);
        tag = omega (arith, hu, g.lawful.few);
        goes = omega (arith, fail-is, failure-state ts g.lawful r₀, states-few ts g.lawful);
        mask =
            omega (
              arith,
              mask_is,
              through-fits (take (u + 1) ts) (word_of ts r₀) (omega (arith, length-take-le (u + 1) ts (omega arith), g.lawful.few)),
            );
      }

      pub sow_this : Sowing ts s after q k (u + 1)
      sow_this = next-by after (placed-length table r₀ (d + 1) x m)
          (λ r j hr hj. placed-other table r₀ (d + 1) x m r j (λ z. omega (arith, low)) hj)
          (λ j h. placed-cell table r₀ (d + 1) x m j (λ z. omega (arith, high)) (λ z. omega (arith, high)) (λ z. omega (arith, high)))
          (λ r lo hi. go r lo hi (ℕ_discrete r r₀))
        where
          x : ℕ
          x = fail_to q (step s table f c)

          m : ℕ
          m = vector_at table r₀ + 2 ^ u

          go : (r : ℕ) → k ≤ r → r < k + kids ts q → Dec (r ≡ r₀) → Sown ts (u + 1) after r
          go r lo hi (yes z) =
              subst (Sown ts (u + 1) after) (sym z)
              (sown_this ts u hu table r₀ (d + 1) x there (g.sown r₀ low high) (ap (λ (w : Word). begins w t) word-is ∙ begun)
              (omega (arith, ed, ap {B = ℕ} length word-is, length-append p (c ∷ []))) fail-is)
          go r lo hi (no n) =
              sown-other ts u hu table after r (g.sown r lo hi) (alone r lo hi n) (λ j h. placed-other table r₀ (d + 1) x m r j n h)

  -- ---- all tags are sown

  pub sow_done : length ts ≤ u → Growing ts s table (q + 1) (k + kids ts q)
  sow_done h = rw (add-one q) (record {
    lawful = g.lawful;
    room = g.room;
    slots = g.slots;
    settled = g.settled;
    marks = g.marks;
    waiting = λ r lo hi. go r lo hi (dec_lt r k);
    counted = omega (arith, g.counted, placed-more ts q g.state);
    blank = g.blank;
  })
    where
      all : take u ts ≡ ts
      all = take_all u ts h

      go : (r : ℕ) → suc q ≤ r → r < k + kids ts q → Dec (r < k) → Waiting ts table r
      go r lo hi (yes z) = g.waiting r lo z
      go r lo hi (no n) =
          let o = g.sown r (omega arith) hi in
          let b = o.begun (ap (begins_one (word_of ts r)) all ∙ (child-is r (omega arith) hi).begun) in
          record { depth = b.0; bare = o.bare; fail = b.1; mask = o.mask ∙ ap (λ (l : List Word). through l (word_of ts r)) all }

-- ---- as the code has it

module _ (q : ℕ) (t : Step) where
  pub fail-first : q ≡ 0 → 0 ≡ fail_to q t
  unfolding fail_to
  fail-first e = rw e refl

  pub fail-never : Wrong ≡ t → 0 ≡ fail_to q t
  unfolding fail_to
  fail-never e = go q ∙ ap (fail_to q) e
    where
      go : (n : ℕ) → 0 ≡ fail_to n Wrong
      go zero = refl
      go (suc n) = refl

  pub fail-there : (q ≡ 0 → ⊥) → (n moves : ℕ) → To n moves ≡ t → n ≡ fail_to q t
  unfolding fail_to
  fail-there ne n moves e = go q ne ∙ ap (fail_to q) e
    where
      go : (i : ℕ) → (i ≡ 0 → ⊥) → n ≡ fail_to i (To n moves)
      go zero h = absurd (h refl)
      go (suc i) h = refl

module _ (l : List ℕ) (s q f d k c u : ℕ) (a : Sowable l s q f d k c u) (n : ℕ) (en : n ≡ ones_below l q c) (x : ℕ) (ex : x ≡ fail_to q (step s l f c)) where
  pub one-fits : ((k + n) * 19 + 18 < length l) × (d + 1 < 65536) × (x < 65536) × (u < 16) × (vector_at l (k + n) + 2 ^ u < 65536)
  one-fits = (
    omega (arith, en, a.child, a.slots),
    omega (arith, a.deep),
    omega (arith, ex, a.goes),
    a.tag,
    subst (λ (y : ℕ). vector_at l (k + y) + 2 ^ u < 65536) (sym en) a.mask,
  )

  pub one-sown : (after : List ℕ) → after ≡ placed l (k + n) (d + 1) x (vector_at l (k + n) + 2 ^ u) → after ≡ sown_by l s q f d k c u
  one-sown after e =
      e ∙ ap (λ (y : ℕ). placed l (k + y) (d + 1) x (vector_at l (k + y) + 2 ^ u)) en
      ∙ ap (λ (y : ℕ). placed l (k + ones_below l q c) (d + 1) y (vector_at l (k + ones_below l q c) + 2 ^ u)) ex

module _ {ts : List Word} {s : ℕ} {table : List ℕ} {q k u : ℕ} (g : Sowing ts s table q k u) (hu : u < length ts) {d f mask : ℕ} (o : Found ts q d f mask)
    (b : Bool) (eb : b ≡ eqb (mask / 2 ^ u % 2) 1) where
  passes : b ≡ begins (word_of ts q) (get_or ts u [])
  passes = goes-begins ts (word_of ts q) mask u b o.waits.goes hu eb

  pub tag_elsewhere : not b ≡ true → Sowing ts s table q k (u + 1)
  tag_elsewhere e = sow_none ts s table q k u g hu (λ a h. not-both (passes ∙ a) (not-true b e))

  module _ (t : Word) (et : t ≡ get_or ts u []) where
    pub tag-ends : length t ≤ d → Sowing ts s table q k (u + 1)
    tag-ends h = sow_none ts s table q k u g hu (λ a i. omega (arith, h, i, o.waits.deep, ap {B = ℕ} length et))

    module _ (e : not b ≡ false) (h : d < length t) where
      longer : d < length (get_or ts u [])
      longer = omega (arith, h, ap {B = ℕ} length et)

      through_it : begins (word_of ts q) (get_or ts u []) ≡ true
      through_it = sym passes ∙ not-false b e

      pub tag_able : Sowable table s q f d k (get_or t d 0) u
      tag_able = sow_able ts s table q k u g hu d f (get_or t d 0) o.waits.deep o.fails through_it longer (ap (λ (w : Word). get_or w d 0) et)

      pub tag-sown : (after : List ℕ) → after ≡ sown_by table s q f d k (get_or t d 0) u → Sowing ts s after q k (u + 1)
      tag-sown after e =
          subst (λ (l : List ℕ). Sowing ts s l q k (u + 1)) (sym e)
          (sow_this ts s table q k u g hu d f (get_or t d 0) o.waits.deep o.fails through_it longer (ap (λ (w : Word). get_or w d 0) et))
