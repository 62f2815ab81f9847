-- A state is settled when its turn comes; when all are, the table is built.
use Prim.Native.Nat.{◌*◌, ◌+◌, ◌<◌, ◌^◌, ◌≤◌, suc, zero, ℕ}
use Rattle.std.specs.Prelude.{Bool, cond, false, true, List, ◌≡◌, eqb, set}
use Rattle.std.proofs.lemmas.Bool.{false≢true}
use Rattle.std.proofs.Common.{◌∙◌, not-suc-le-zero, length-set, pow_mono, lt-length-set, eq-eqb, ne_eqb}
use Rattle.std.proofs.Math.Path.{ap, ap₂, refl, subst, sym}
use Rattle.std.proofs.Math.Decide.{dec_lt, ℕ_discrete}
use Rattle.std.proofs.Math.Nat.{zero-add}
use native.Mathlib.Omega.{arith}
use Rattle.std.proofs.Math.ListN.{get_or, length}
use Rattle.std.proofs.Math.Seq.{get_or-set_other, get_or-set_same}
use Rattle.matching.specs.Laws.Vectors.{vector_lt}
use Rattle.matching.specs.Machine.{failure, vector, vector_by}
use Rattle.matching.specs.Words.{Lawful, Word, begins_one}
use Rattle.bitmap.specs.Laws.Built.{built_only, word-zero}
use Rattle.bitmap.specs.Laws.Children.{goes}
use Rattle.bitmap.specs.Laws.Maps.{ones_over-is}
use Rattle.bitmap.specs.Laws.States.{states-few}
use Rattle.bitmap.specs.Levels.{below, by_level}
use Rattle.bitmap.specs.Slots.{built, first_child, map_word}
use Rattle.bitmap.specs.Steps.{child_at, fail_at, number_at, ones_over, vector_at}
use Rattle.bitmap_maps.specs.Laid.{MapLaid, Unlaid}
use Rattle.bitmap_maps.specs.Laws.Laid.{laid-map}
use Rattle.bitmap_maps.specs.Laws.Masks.{through_root}
use Rattle.bitmap_maps.specs.Laws.Vectors.{vector-first, vector-later}
use Rattle.bitmap_maps.specs.Through.{own_tags, through}
use Rattle.bitmap_growing.specs.Growing.{Begun, Closable, Found, Growing, Sowing, Sown, Waiting, closed, first_behind, inherits, kids, placed_by, word_of}
use Rattle.bitmap_growing.specs.Laws.Failing.{failure-state, fails-first, fails-lower}
use Rattle.bitmap_growing.specs.Laws.Numbers.{first-none, first_some, placed-all, placed-few, reached}

-- ---- the cells of a closed slot

module _ (l : List ℕ) (q k f own : ℕ) where
  closed-cell : (j : ℕ) → (j ≡ q * 19 + 16 → ⊥) → (j ≡ q * 19 + 18 → ⊥) → get_or (closed l q k f own) j 0 ≡ get_or l j 0
  closed-cell j a b =
      get_or-set_other (set l (q * 19 + 16) (first_behind k (ones_over l q 0 16))) (q * 19 + 18) j (inherits q l f + own) 0 b
      ∙ get_or-set_other l (q * 19 + 16) j (first_behind k (ones_over l q 0 16)) 0 a

  closed-length : length (closed l q k f own) ≡ length l
  closed-length =
      length-set (set l (q * 19 + 16) (first_behind k (ones_over l q 0 16))) (q * 19 + 18) (inherits q l f + own)
      ∙ length-set l (q * 19 + 16) (first_behind k (ones_over l q 0 16))

  module _ (h : q * 19 + 18 < length l) where
    closed-child : child_at (closed l q k f own) q ≡ first_behind k (ones_over l q 0 16)
    unfolding number_at
    closed-child =
        get_or-set_other (set l (q * 19 + 16) (first_behind k (ones_over l q 0 16))) (q * 19 + 18) (q * 19 + 16) (inherits q l f + own) 0 (λ e. omega arith)
        ∙ get_or-set_same l (q * 19 + 16) (first_behind k (ones_over l q 0 16)) 0 (omega arith)

    closed-vector : vector_at (closed l q k f own) q ≡ inherits q l f + own
    unfolding number_at
    closed-vector =
        get_or-set_same (set l (q * 19 + 16) (first_behind k (ones_over l q 0 16))) (q * 19 + 18) (inherits q l f + own) 0
        (lt-length-set l (q * 19 + 16) (first_behind k (ones_over l q 0 16)) h)

-- the first child, or 0
first-is : (k n x : ℕ) → (0 < n → x ≡ k) → (n ≡ 0 → x ≡ 0) → first_behind k n ≡ x
first-is k zero x a b = sym (b refl)
first-is k (suc n) x a b = ap (λ (t : Bool). cond t 0 k) (ne_eqb (suc n) 0 (λ e. omega arith)) ∙ sym (a (omega arith))

-- ---- state q, whose turn it is

module _ {ts : List Word} {s : ℕ} {table : List ℕ} {q k : ℕ} (g : Growing ts s table q k) (hq : q < length (by_level ts)) where
  abbrev p : Word
  p = word_of ts q

  waits : Waiting ts table q
  waits = g.waiting q (omega arith) (omega (arith, reached ts g.lawful q hq, g.counted))

  pub turn_room : q * 19 + 18 < length table
  turn_room = omega (arith, hq, g.room, g.slots)

  pub turn_found : (d f mask : ℕ) → d ≡ number_at table q 0 → f ≡ fail_at table q → mask ≡ vector_at table q → Found ts q d f mask
  turn_found d f mask a b c = record { waits = record { deep = a ∙ waits.depth; goes = c ∙ waits.mask }; fails = b ∙ waits.fail }

  pub turn_unlaid : Unlaid q table
  turn_unlaid = record { room = turn_room; bare = λ j a b. waits.bare j a (omega arith) }

  module _ {d f mask : ℕ} (o : Found ts q d f mask) {mid : List ℕ} (laid : MapLaid ts p q table mid) {own : ℕ} (eo : own ≡ own_tags ts p) where
    -- laying a map changes no other slot, and of its own only the map
    laid-other : (r j : ℕ) → (r ≡ q → ⊥) → j < 19 → number_at mid r j ≡ number_at table r j
    unfolding number_at
    laid-other r j n h = go (dec_lt r q)
      where
        go : Dec (r < q) → get_or mid (r * 19 + j) 0 ≡ get_or table (r * 19 + j) 0
        go (yes b) = laid.low (r * 19 + j) (omega arith)
        go (no b) = laid.high (r * 19 + j) (omega arith)

    -- the vector is that of the failure state, and the tags that end here
    vector-is : (n : ℕ) → n ≡ q → inherits n mid f + own ≡ vector ts p
    unfolding inherits
    vector-is zero e =
        zero-add own ∙ eo ∙ ap (λ (x : ℕ). own_tags ts (word_of ts x)) (sym e) ∙ sym (vector-first ts g.lawful) ∙ ap (λ (x : ℕ). vector ts (word_of ts x)) e
    vector-is (suc n) e =
        let low : failure (by_level ts) q < q = fails-lower ts g.lawful q hq (omega arith) in
        let at : vector_at mid f ≡ vector ts (word_of ts (failure (by_level ts) q)) =
        ap (vector_at mid) o.fails ∙ laid-other (failure (by_level ts) q) 18 (λ z. omega (arith, low)) (omega arith)
        ∙ g.marks (failure (by_level ts) q) low in
        ap₂ ◌+◌ at eo ∙ sym (vector-later ts g.lawful q (omega arith) hq)

    pub turn_kids : ones_over mid q 0 16 ≡ kids ts q
    turn_kids = ones_over-is mid q (goes ts p) laid.map 16 0 (omega arith)

    pub turn_closable : Closable mid q k f own
    turn_closable = record {
      room = omega (arith, turn_room, laid.long);
      fails = omega (arith, o.fails, failure-state ts g.lawful q, g.room, g.slots, laid.long);
      few = omega (arith, g.counted, placed-few ts g.lawful q hq, states-few ts g.lawful);
      vector = omega (arith, vector-is q refl, vector_lt ts p, pow_mono {i = length ts} {j = 16} g.lawful.few);
    }

    abbrev after : List ℕ
    after = closed mid q k f own

    first-child : first_behind k (ones_over mid q 0 16) ≡ first_child (by_level ts) p 0 256
    first-child =
        first-is k (ones_over mid q 0 16) (first_child (by_level ts) p 0 256)
        (λ h. first_some ts g.lawful q hq (omega (arith, turn_kids)) ∙ sym g.counted)
        (λ e. first-none ts g.lawful q hq (sym turn_kids ∙ e))

    after-other : (r j : ℕ) → (r ≡ q → ⊥) → j < 19 → number_at after r j ≡ number_at table r j
    unfolding number_at
    after-other r j n h = closed-cell mid q k f own (r * 19 + j) (λ e. n (omega arith)) (λ e. n (omega arith)) ∙ laid-other r j n h

    after_map : (j : ℕ) → j < 16 → number_at after q j ≡ map_word (by_level ts) p j
    unfolding number_at
    after_map j h =
        closed-cell mid q k f own (q * 19 + j) (λ e. omega arith) (λ e. omega arith) ∙ laid-map ts g.lawful p q table mid laid j h

    after-fail : fail_at after q ≡ failure (by_level ts) q
    unfolding number_at
    after-fail =
        closed-cell mid q k f own (q * 19 + 17) (λ e. omega arith) (λ e. omega arith) ∙ laid.high (q * 19 + 17) (omega arith) ∙ waits.fail

    after-blank : (j : ℕ) → k * 19 ≤ j → get_or after j 0 ≡ 0
    after-blank j h =
        let low : q < k = omega (arith, reached ts g.lawful q hq, g.counted) in
        closed-cell mid q k f own j (λ e. omega arith) (λ e. omega arith) ∙ laid.high j (omega arith) ∙ g.blank j h

    settled-to : {P : ℕ → Type 0} → ((r : ℕ) → r < q → P r) → P q → (r : ℕ) → r < suc q → P r
    settled-to {P} a b r h = go (ℕ_discrete r q)
      where
        go : Dec (r ≡ q) → P r
        go (yes e) = subst P (sym e) b
        go (no n) = a r (omega arith)

    sown-none : (r : ℕ) → k ≤ r → r < k + kids ts q → Sown ts 0 after r
    unfolding number_at through vector_by begins_one
    sown-none r lo hi = record {
      bare = λ j a b. after-blank (r * 19 + j) (omega arith);
      mask = after-blank (r * 19 + 18) (omega arith);
      begun = λ e. absurd (false≢true e);
    }

    pub turn_closed : Sowing ts s after q k 0
    turn_closed = record {
      lawful = g.lawful;
      room = g.room;
      slots = omega (arith, g.slots, laid.long, closed-length mid q k f own);
      state = hq;
      settled = record {
        few = omega arith;
        maps =
            settled-to {P = λ (r : ℕ). (j : ℕ) → j < 16 → number_at after r j ≡ map_word (by_level ts) (word_of ts r) j}
            (λ r hr j hj. after-other r j (λ e. omega arith) (omega arith) ∙ g.settled.maps r hr j hj) after_map;
        child =
            settled-to {P = λ (r : ℕ). child_at after r ≡ first_child (by_level ts) (word_of ts r) 0 256}
            (λ r hr. after-other r 16 (λ e. omega arith) (omega arith) ∙ g.settled.child r hr)
            (closed-child mid q k f own turn_closable.room ∙ first-child);
        fail =
            settled-to {P = λ (r : ℕ). fail_at after r ≡ failure (by_level ts) r}
            (λ r hr. after-other r 17 (λ e. omega arith) (omega arith) ∙ g.settled.fail r hr) after-fail;
      };
      marks =
          settled-to {P = λ (r : ℕ). vector_at after r ≡ vector ts (word_of ts r)}
          (λ r hr. after-other r 18 (λ e. omega arith) (omega arith) ∙ g.marks r hr)
          (closed-vector mid q k f own turn_closable.room ∙ vector-is q refl);
      waiting = λ r lo hi.
          let w = g.waiting r (omega arith) hi in record {
            depth = after-other r 0 (λ e. omega arith) (omega arith) ∙ w.depth;
            bare = λ j a b. after-other r j (λ e. omega arith) (omega arith) ∙ w.bare j a b;
            fail = after-other r 17 (λ e. omega arith) (omega arith) ∙ w.fail;
            mask = after-other r 18 (λ e. omega arith) (omega arith) ∙ w.mask;
          };
      counted = g.counted;
      sown = sown-none;
      blank = λ j h. after-blank j (omega (arith, h));
    }

    -- ---- as the code has it

    pub turn_sowing : (l : List ℕ) → l ≡ after → Sowing ts s l q k 0
    turn_sowing l e = subst (λ (x : List ℕ). Sowing ts s x q k 0) (sym e) turn_closed

    pub turn_done : (n : ℕ) → n ≡ ones_over mid q 0 16 → (l : List ℕ) → Growing ts s l (q + 1) (k + kids ts q) → Growing ts s l (q + 1) (k + n)
    turn_done n e l h = subst (λ (x : ℕ). Growing ts s l (q + 1) (k + x)) (sym (e ∙ turn_kids)) h

module _ (k n : ℕ) where
  pub first-zero : n ≡ 0 → 0 ≡ first_behind k n
  first-zero e = sym (ap (λ (t : Bool). cond t 0 k) (eq-eqb n 0 e))

  pub first_more : (n ≡ 0 → ⊥) → k ≡ first_behind k n
  first_more h = sym (ap (λ (t : Bool). cond t 0 k) (ne_eqb n 0 h))

  pub first_le : first_behind k n ≤ k
  first_le = go (eqb n 0)
    where
      go : (b : Bool) → cond b 0 k ≤ k
      go true = omega arith
      go false = omega arith

module _ (q : ℕ) (l : List ℕ) (f : ℕ) where
  pub inherits-none : q ≡ 0 → 0 ≡ inherits q l f
  unfolding inherits
  inherits-none e = rw e refl

  pub inherits-some : (q ≡ 0 → ⊥) → vector_at l f ≡ inherits q l f
  unfolding inherits
  inherits-some h = go q h
    where
      go : (n : ℕ) → (n ≡ 0 → ⊥) → vector_at l f ≡ inherits n l f
      go zero h = absurd (h refl)
      go (suc n) h = refl

pub closed_is : (l : List ℕ) (q k f own n x v : ℕ) → n ≡ ones_over l q 0 16 → x ≡ first_behind k n → v ≡ inherits q l f
    → set (set l (q * 19 + 16) x) (q * 19 + 18) (v + own) ≡ closed l q k f own
closed_is l q k f own n x v en ex ev = ap₂ (λ (a b : ℕ). set (set l (q * 19 + 16) a) (q * 19 + 18) (b + own)) (ex ∙ ap (first_behind k) en) ev

-- ---- the first state, over zeros

pub begun-is : (tags : ℕ) (before zeros : List ℕ) (mask : ℕ) → 18 < length before → length zeros ≡ length before → ((j : ℕ) → get_or zeros j 0 ≡ 0)
    → mask + 1 ≡ 2 ^ tags → Begun tags (set zeros 18 mask) (length before)
begun-is tags before zeros mask h long all e = record {
  long = length-set zeros 18 mask ∙ long;
  blank = λ j n. get_or-set_other zeros 18 j mask 0 n ∙ all j;
  mask = ap (λ (x : ℕ). x + 1) (get_or-set_same zeros 18 mask 0 (omega (arith, h, long))) ∙ e;
}

module _ {ts : List Word} (l : Lawful ts) {s : ℕ} (room : length (by_level ts) ≤ s) {len : ℕ} (slots : s * 19 ≡ len) where
  pub begin_fits : 18 < len
  begin_fits = omega (arith, room, slots, placed-all ts l)

  module _ {tags : ℕ} (many : length ts ≡ tags) {table : List ℕ} (b : Begun tags table len) where
    root : Waiting ts table 0
    unfolding number_at
    root = record {
      depth = b.blank 0 (λ e. omega arith) ∙ sym (ap {B = ℕ} length (word-zero ts l));
      bare = λ j a h. b.blank (0 * 19 + j) (λ e. omega arith);
      fail = b.blank 17 (λ e. omega arith) ∙ sym (fails-first ts l);
      mask = omega (arith, b.mask, through_root ts, ap (λ (w : Word). through ts w) (word-zero ts l), ap (λ (x : ℕ). 2 ^ x) many);
    }

    pub begun_growing : Growing ts s table 0 1
    unfolding below
    begun_growing = record {
      lawful = l;
      room = room;
      slots = omega (arith, slots, b.long);
      settled = record {
        few = omega arith;
        maps = λ q h. absurd (not-suc-le-zero h);
        child = λ q h. absurd (not-suc-le-zero h);
        fail = λ q h. absurd (not-suc-le-zero h);
      };
      marks = λ r h. absurd (not-suc-le-zero h);
      waiting = λ r lo hi. let z : r ≡ 0 = omega arith in subst (Waiting ts table) (sym z) root;
      counted = refl;
      blank = λ j h. b.blank j (λ e. omega arith);
    }

-- ---- all states are settled

pub all_grown : {ts : List Word} {s : ℕ} {table : List ℕ} {q k : ℕ} → Growing ts s table q k → length (by_level ts) ≤ q → table ≡ built s ts
unfolding number_at
all_grown {ts} {s} {table} {q} {k} g h =
    let z : q ≡ length (by_level ts) = omega (arith, g.settled.few) in
    let e : k ≡ length (by_level ts) = g.counted ∙ ap (placed_by ts) z ∙ placed-all ts g.lawful in
    built_only s ts table
    (record {
      fits = g.room;
      maps = λ r hr. g.settled.maps r (omega arith);
      child = λ r hr. g.settled.child r (omega arith);
      fail = λ r hr. g.settled.fail r (omega arith);
      mark = λ r hr. g.marks r (omega arith);
    })
    (sym g.slots) (λ r j hr hj. g.blank (r * 19 + j) (omega arith))
