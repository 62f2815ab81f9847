-- A table as `built` lays it down holds the machines.
use Prim.Native.Nat.{◌%◌, ◌*◌, ◌+◌, ◌-◌, ◌/◌, ◌<◌, ◌^◌, ◌≤◌, suc, zero, ℕ}
use Rattle.std.specs.Prelude.{false, true, List, [], ◌++◌, ◌∷◌, ◌⊎◌, ◌≡◌, ltb, drop, length, replicate, take}
use Rattle.std.proofs.Common.{inl, inr, ◌∙◌, ap₂, subst, add_assoc, add-mul, div-add-mod', div-lt_iff_lt-mul, eq-zero-or-pos, le_of_suc-le-suc, mod-lt, mul_assoc, mul-zero, not-suc-le-zero, zero-add, arith, lt→ltb, length-drop, take-append-drop, ext_get_or, get_or-drop, get_or-take, length-take-le}
use Rattle.std.proofs.Math.Path.{ap, refl, sym}
use Rattle.std.proofs.Math.Decide.{dec_le, ℕ_discrete}
use Rattle.std.proofs.Math.Nat.{suc-mul, zero-mul}
use Rattle.std.proofs.Math.Arith.{digits_lt}
use Rattle.std.proofs.Math.Dec.{ltb→lt}
use Rattle.std.proofs.Math.ListN.{get_or-append, get_or, length-append}
use Rattle.std.proofs.lemmas.List.{length-replicate, get_or_at}
use Rattle.std.proofs.Math.Seq.{get_or-append-add}
use Rattle.matching.specs.Laws.Bools.{decided, is_false, is_true, to-T}
use Rattle.matching.specs.Laws.Counting.{after}
use Rattle.matching.specs.Laws.Readings.{Holds}
use Rattle.matching.specs.Machine.{next, prefixes, states}
use Rattle.matching.specs.Table.{Room, built, enough_slots, laid, room_from, short_of_slots, slot, slot_size, slots, spot, tags_for}
use Rattle.matching.specs.Words.{Word}

module _ (f : ℕ → List ℕ) (z : ℕ) (size : (i : ℕ) → length (f i) ≡ z) where
  pub laid-length : (from count : ℕ) → length (laid f from count) ≡ count * z
  unfolding laid
  laid-length from zero = sym (zero-mul z)
  laid-length from (suc count) = omega (arith, length-append (f from) (laid f (suc from) count), size from, laid-length (suc from) count, suc-mul count z)

  pub laid-at : (count from i j : ℕ) → i < count → j < z → get_or (laid f from count) (i * z + j) 0 ≡ get_or (f (from + i)) j 0
  unfolding laid
  laid-at zero from i j hi hj = absurd (not-suc-le-zero hi)
  laid-at (suc count) from zero j hi hj =
      ap (λ (x : ℕ). get_or (f from ++ laid f (suc from) count) x 0) (omega (arith, zero-mul z))
      ∙ get_or-append (f from) (laid f (suc from) count) 0 j (omega (arith, size from))
      ∙ ap (λ (x : ℕ). get_or (f x) j 0) (omega arith)
  laid-at (suc count) from (suc i) j hi hj =
      ap (λ (x : ℕ). get_or (f from ++ laid f (suc from) count) x 0) (omega (arith, suc-mul i z, size from))
      ∙ get_or-append-add (f from) (laid f (suc from) count) (i * z + j) 0
      ∙ laid-at count (suc from) i j (le_of_suc-le-suc hi) hj
      ∙ ap (λ (x : ℕ). get_or (f x) j 0) (omega arith)

-- ---- a slot

slot-used : (n : ℕ) (mark : Word → ℕ) (ps : List Word) (q : ℕ) → q < length ps → slot n mark ps q ≡ laid (λ c. next ps q c ∷ []) 0 (2 ^ n) ++ mark (get_or ps q []) ∷ []
unfolding slot
slot-used n mark ps q h = rw (is_true (ltb q (length ps)) (lt→ltb q (length ps) h), slot) refl

pub slot_unused : (n : ℕ) (mark : Word → ℕ) (ps : List Word) (q : ℕ) → length ps ≤ q → slot n mark ps q ≡ replicate (slot_size n) 0
unfolding slot
slot_unused n mark ps q h = rw (is_false (ltb q (length ps)) (λ e. omega (arith, ltb→lt q (length ps) (to-T (ltb q (length ps)) e))), slot) refl

nexts-length : (n q : ℕ) (ps : List Word) → length (laid (λ c. next ps q c ∷ []) 0 (2 ^ n)) ≡ 2 ^ n
nexts-length n q ps = laid-length (λ c. next ps q c ∷ []) 1 (λ i. refl) 0 (2 ^ n) ∙ omega arith

pub slot-length : (n : ℕ) (mark : Word → ℕ) (ps : List Word) (q : ℕ) → length (slot n mark ps q) ≡ slot_size n
unfolding slot
slot-length n mark ps q = go (decided (ltb q (length ps)))
  where
    go : (ltb q (length ps) ≡ true) ⊎ (ltb q (length ps) ≡ false) → length (slot n mark ps q) ≡ slot_size n
    go (inl e) = rw (e, slot) (length-append (laid (λ c. next ps q c ∷ []) 0 (2 ^ n)) (mark (get_or ps q []) ∷ []) ∙ omega (arith, nexts-length n q ps))
    go (inr e) = rw (e, slot) (length-replicate (slot_size n) 0)

pub slot_next : (n : ℕ) (mark : Word → ℕ) (ps : List Word) (q c : ℕ) → q < length ps → c < 2 ^ n → get_or (slot n mark ps q) c 0 ≡ next ps q c
slot_next n mark ps q c hq hc =
    ap (λ (l : List ℕ). get_or l c 0) (slot-used n mark ps q hq)
    ∙ get_or-append (laid (λ c. next ps q c ∷ []) 0 (2 ^ n)) (mark (get_or ps q []) ∷ []) 0 c (omega (arith, nexts-length n q ps))
    ∙ ap (λ (x : ℕ). get_or (laid (λ c. next ps q c ∷ []) 0 (2 ^ n)) x 0) (omega arith)
    ∙ laid-at (λ c. next ps q c ∷ []) 1 (λ i. refl) (2 ^ n) 0 c 0 hc (omega arith)
    ∙ ap (next ps q) (zero-add c)

pub slot-vector : (n : ℕ) (mark : Word → ℕ) (ps : List Word) (q : ℕ) → q < length ps → get_or (slot n mark ps q) (2 ^ n) 0 ≡ mark (get_or ps q [])
slot-vector n mark ps q hq =
    ap (λ (l : List ℕ). get_or l (2 ^ n) 0) (slot-used n mark ps q hq)
    ∙ get_or_at (laid (λ c. next ps q c ∷ []) 0 (2 ^ n)) (mark (get_or ps q [])) [] 0 (2 ^ n) (nexts-length n q ps)

-- ---- a machine, and the table

pub slots_length : (n s : ℕ) (ts : List Word) (mark : ℕ → Word → ℕ) (m : ℕ) → length (slots n s ts mark m) ≡ s * (slot_size n)
unfolding slots
slots_length n s ts mark m = laid-length (slot n (mark m) (prefixes (tags_for n ts m))) (slot_size n)
    (slot-length n (mark m) (prefixes (tags_for n ts m))) 0 s

pub built-length : (n k s : ℕ) (ts : List Word) (mark : ℕ → Word → ℕ) → length (built n k s ts mark) ≡ k * (s * (slot_size n))
unfolding built
built-length n k s ts mark = laid-length (slots n s ts mark) (s * (slot_size n)) (slots_length n s ts mark) 0 k

spot_as : (n s m q j : ℕ) → spot n s m q + j ≡ m * (s * (slot_size n)) + (q * (slot_size n) + j)
unfolding spot
spot_as n s m q j =
    ap (λ (x : ℕ). x + j) (add-mul (m * s) q (slot_size n) ∙ ap (λ (x : ℕ). x + q * (slot_size n)) (mul_assoc m s (slot_size n)))
    ∙ add_assoc (m * (s * (slot_size n))) (q * (slot_size n)) j

pub built-at : (n k s : ℕ) (ts : List Word) (mark : ℕ → Word → ℕ) (rest : List ℕ) (m q j : ℕ) → m < k → q < s → j < slot_size n
    → get_or (built n k s ts mark ++ rest) (spot n s m q + j) 0 ≡ get_or (slot n (mark m) (prefixes (tags_for n ts m)) q) j 0
unfolding built slots
built-at n k s ts mark rest m q j hm hq hj =
    ap (λ (x : ℕ). get_or (built n k s ts mark ++ rest) x 0) (spot_as n s m q j)
    ∙ get_or-append (built n k s ts mark) rest 0 (m * (s * (slot_size n)) + (q * (slot_size n) + j))
    (subst (λ (x : ℕ). m * (s * (slot_size n)) + (q * (slot_size n) + j) < x) (sym (built-length n k s ts mark)) (digits_lt hm (digits_lt hq hj)))
    ∙ laid-at (slots n s ts mark) (s * (slot_size n)) (slots_length n s ts mark) k 0 m (q * (slot_size n) + j) hm (digits_lt hq hj)
    ∙ ap (λ (x : ℕ). get_or (slots n s ts mark x) (q * (slot_size n) + j) 0) (zero-add m)
    ∙ laid-at (slot n (mark m) (prefixes (tags_for n ts m))) (slot_size n) (slot-length n (mark m) (prefixes (tags_for n ts m))) s 0 q j hq hj
    ∙ ap (λ (x : ℕ). get_or (slot n (mark m) (prefixes (tags_for n ts m)) x) j 0) (zero-add q)

-- THE TABLE THEOREM: what `built` lays down, whatever stands behind it, holds the machines
pub built-holds : (n k s : ℕ) (ts : List Word) (mark : ℕ → Word → ℕ) (rest : List ℕ) → ((m : ℕ) → m < k → states (tags_for n ts m) ≤ s) → Holds n k s ts mark (built n k s ts mark ++ rest)
unfolding states
built-holds n k s ts mark rest room =
    record {
      fits = room;
      moves = λ m q c hm hq hc. built-at n k s ts mark rest m q c hm (omega (arith, room m hm, hq)) (omega (arith, hc))
          ∙ slot_next n (mark m) (prefixes (tags_for n ts m)) q c hq hc;
      marks = λ m q hm hq. built-at n k s ts mark rest m q (2 ^ n) hm (omega (arith, room m hm, hq)) (omega arith)
          ∙ slot-vector n (mark m) (prefixes (tags_for n ts m)) q hq;
    }

-- ---- the machine that is short of slots

module _ (n s : ℕ) (ts : List Word) where
  pub room_from-short : (m k : ℕ) → s < states (tags_for n ts m) → room_from n s ts m (suc k) ≡ short_of_slots m (states (tags_for n ts m))
  unfolding room_from
  room_from-short m k h = rw (is_true (ltb s (states (tags_for n ts m))) (lt→ltb s (states (tags_for n ts m)) h), room_from) refl

  pub room_from-next : (m k : ℕ) → states (tags_for n ts m) ≤ s → room_from n s ts m (suc k) ≡ room_from n s ts (suc m) k
  unfolding room_from
  room_from-next m k h =
      rw (
        is_false (ltb s (states (tags_for n ts m))) (λ e. omega (arith, ltb→lt s (states (tags_for n ts m)) (to-T (ltb s (states (tags_for n ts m))) e))),
        room_from,
      ) refl

  -- machine j is the lowest of machines m, .., m + k - 1 that is short of slots
  pub record Lowest (m k j : ℕ) : Type 0 where
    pub from : m ≤ j
    pub below : j < m + k
    pub short : s < states (tags_for n ts j)
    pub others : (i : ℕ) → m ≤ i → i < j → states (tags_for n ts i) ≤ s

  lower : (m k j : ℕ) → states (tags_for n ts m) ≤ s → Lowest (suc m) k j → Lowest m (suc k) j
  lower m k j h l = record { from = omega (arith, l.from); below = omega (arith, l.below); short = l.short; others = λ i a b. go i a b (ℕ_discrete m i) }
    where
      go : (i : ℕ) → m ≤ i → i < j → Dec (m ≡ i) → states (tags_for n ts i) ≤ s
      go i a b (yes e) = subst (λ (x : ℕ). states (tags_for n ts x) ≤ s) e h
      go i a b (no d) = l.others i (omega arith) b

  upper : (m k j : ℕ) → states (tags_for n ts m) ≤ s → Lowest m (suc k) j → Lowest (suc m) k j
  upper m k j h l = go (ℕ_discrete m j)
    where
      go : Dec (m ≡ j) → Lowest (suc m) k j
      go (yes e) = absurd (omega (arith, l.short, subst (λ (x : ℕ). states (tags_for n ts x) ≤ s) e h))
      go (no d) = record { from = omega (arith, l.from); below = omega (arith, l.below); short = l.short; others = λ i a b. l.others i (omega arith) b }

  -- either all machines fit, or there is a lowest that is short
  pub data Judged (m k : ℕ) : Room → Type 0 where
    all_fit : ((j : ℕ) → m ≤ j → j < m + k → states (tags_for n ts j) ≤ s) → Judged m k enough_slots
    one-short : (j : ℕ) → Lowest m k j → Judged m k (short_of_slots j (states (tags_for n ts j)))

  judged_next : (m k : ℕ) (r : Room) → states (tags_for n ts m) ≤ s → Judged (suc m) k r → Judged m (suc k) r
  judged_next m k r h (all_fit f) = all_fit (λ j a b. go j a b (ℕ_discrete m j))
    where
      go : (j : ℕ) → m ≤ j → j < m + suc k → Dec (m ≡ j) → states (tags_for n ts j) ≤ s
      go j a b (yes e) = subst (λ (x : ℕ). states (tags_for n ts x) ≤ s) e h
      go j a b (no d) = f j (omega arith) (omega arith)
  judged_next m k r h (one-short j l) = one-short j (lower m k j h l)

  pub judged : (k m : ℕ) → Judged m k (room_from n s ts m k)
  unfolding room_from
  judged zero m = all_fit (λ j a b. absurd (omega arith))
  judged (suc k) m = go (dec_le (states (tags_for n ts m)) s) (judged k (suc m))
    where
      go : Dec (states (tags_for n ts m) ≤ s) → Judged (suc m) k (room_from n s ts (suc m) k) → Judged m (suc k) (room_from n s ts m (suc k))
      go (yes h) ih = rw (room_from-next m k h) (judged_next m k (room_from n s ts (suc m) k) h ih)
      go (no h) ih = rw (room_from-short m k (omega arith))
          (one-short m (record { from = omega arith; below = omega arith; short = omega arith; others = λ i a b. absurd (omega arith) }))

-- ---- a list that agrees cell by cell is the one laid

module _ (f : ℕ → List ℕ) (z : ℕ) (size : (i : ℕ) → length (f i) ≡ z) where
  pub laid_ext : (count : ℕ) (l : List ℕ) → length l ≡ count * z → ((i j : ℕ) → i < count → j < z → get_or l (i * z + j) 0 ≡ get_or (f i) j 0) → l ≡ laid f 0 count
  laid_ext count l e h = ext_get_or 0 l (laid f 0 count) (e ∙ sym (laid-length f z size 0 count)) cell
    where
      cell : (x : ℕ) → x < length l → get_or l x 0 ≡ get_or (laid f 0 count) x 0
      cell x hx = go (eq-zero-or-pos z)
        where
          within : 0 < z → x / z < count
          within q = (div-lt_iff_lt-mul q).1 (omega (arith, hx, e))

          go : (z ≡ 0) ⊎ (0 < z) → get_or l x 0 ≡ get_or (laid f 0 count) x 0
          go (inl q) = absurd (omega (arith, hx, e, ap (λ (y : ℕ). count * y) q ∙ mul-zero count))
          go (inr q) =
              ap (λ (y : ℕ). get_or l y 0) (sym (div-add-mod' x z))
              ∙ h (x / z) (x % z) (within q) (mod-lt x q)
              ∙ ap (λ (y : ℕ). get_or (f y) (x % z) 0) (sym (zero-add (x / z)))
              ∙ sym (laid-at f z size count 0 (x / z) (x % z) (within q) (mod-lt x q))
              ∙ ap (λ (y : ℕ). get_or (laid f 0 count) y 0) (div-add-mod' x z)

-- a table of just the size that holds, cell by cell, the slots
pub built_ext : (n k s : ℕ) (ts : List Word) (mark : ℕ → Word → ℕ) (tab : List ℕ) → length tab ≡ k * (s * (slot_size n))
    → ((m q j : ℕ) → m < k → q < s → j < slot_size n → get_or tab (spot n s m q + j) 0 ≡ get_or (slot n (mark m) (prefixes (tags_for n ts m)) q) j 0)
    → tab ≡ built n k s ts mark
unfolding built slots
built_ext n k s ts mark tab e h = laid_ext (slots n s ts mark) (s * (slot_size n)) (slots_length n s ts mark) k tab e cell
  where
    pos : 0 < slot_size n
    pos = omega arith

    cell : (m x : ℕ) → m < k → x < s * (slot_size n) → get_or tab (m * (s * (slot_size n)) + x) 0 ≡ get_or (slots n s ts mark m) x 0
    cell m x hm hx =
        ap (λ (y : ℕ). get_or tab (m * (s * (slot_size n)) + y) 0) (sym (div-add-mod' x (slot_size n)))
        ∙ ap (λ (y : ℕ). get_or tab y 0) (sym (spot_as n s m (x / (slot_size n)) (x % (slot_size n))))
        ∙ h m (x / (slot_size n)) (x % (slot_size n)) hm ((div-lt_iff_lt-mul pos).1 hx) (mod-lt x pos)
        ∙ ap (λ (y : ℕ). get_or (slot n (mark m) (prefixes (tags_for n ts m)) y) (x % (slot_size n)) 0) (sym (zero-add (x / (slot_size n))))
        ∙ sym (laid-at (slot n (mark m) (prefixes (tags_for n ts m))) (slot_size n) (slot-length n (mark m) (prefixes (tags_for n ts m))) s 0
        (x / (slot_size n)) (x % (slot_size n)) ((div-lt_iff_lt-mul pos).1 hx) (mod-lt x pos))
        ∙ ap (λ (y : ℕ). get_or (slots n s ts mark m) y 0) (div-add-mod' x (slot_size n))

-- THE BUILDER'S EQUATION: a lent run after building, from its cells: the table, and behind it what was there
pub built-run : (n k s : ℕ) (ts : List Word) (mark : ℕ → Word → ℕ) (before after : List ℕ) → length after ≡ length before → k * (s * (slot_size n)) ≤ length before
    → ((m q j : ℕ) → m < k → q < s → j < slot_size n → get_or after (spot n s m q + j) 0 ≡ get_or (slot n (mark m) (prefixes (tags_for n ts m)) q) j 0)
    → ((x : ℕ) → k * (s * (slot_size n)) ≤ x → x < length before → get_or after x 0 ≡ get_or before x 0)
    → after ≡ built n k s ts mark ++ drop (k * (s * (slot_size n))) before
built-run n k s ts mark before after e room cells rest =
    sym (take-append-drop (k * (s * (slot_size n))) after) ∙ ap₂ ◌++◌ front back
  where
    front : take (k * (s * (slot_size n))) after ≡ built n k s ts mark
    front = built_ext n k s ts mark (take (k * (s * (slot_size n))) after) (length-take-le (k * (s * (slot_size n))) after (omega arith))
        (λ m q j hm hq hj. get_or-take (k * (s * (slot_size n))) after (spot n s m q + j) 0
        (subst (λ (y : ℕ). y < k * (s * (slot_size n))) (sym (spot_as n s m q j)) (digits_lt hm (digits_lt hq hj)))
        ∙ cells m q j hm hq hj)

    back : drop (k * (s * (slot_size n))) after ≡ drop (k * (s * (slot_size n))) before
    back = ext_get_or 0 (drop (k * (s * (slot_size n))) after) (drop (k * (s * (slot_size n))) before)
        (length-drop (k * (s * (slot_size n))) after ∙ ap (λ (y : ℕ). y - k * (s * (slot_size n))) e ∙ sym (length-drop (k * (s * (slot_size n))) before))
        (λ x hx. get_or-drop (k * (s * (slot_size n))) after x 0
        ∙ rest (k * (s * (slot_size n)) + x) (omega arith) (omega (arith, hx, e, length-drop (k * (s * (slot_size n))) after))
        ∙ sym (get_or-drop (k * (s * (slot_size n))) before x 0))
