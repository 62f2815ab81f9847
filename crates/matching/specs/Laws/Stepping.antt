-- What holds of every reading, whatever its steps.
use Prim.Native.Nat.{◌+◌, ◌-◌, ◌<◌, ◌≤◌, suc, ℕ}
use Rattle.std.specs.Prelude.{Bool, false, not, true, ◌↔◌, ◌⊎◌, ◌≡◌, T, leb, get_or}
use mathlib.Core.List.Memᴰ
use mathlib.Core.List.{List, Memᴰ, [], ◌++◌, ◌∷◌, append_assoc}
use Rattle.std.proofs.Common.{inl, inr, ◌∙◌, subst, zero-add, leb→le, le→leb, length-append}
use Rattle.std.proofs.Math.Path.{ap, ap₂, refl, sym}
use native.Mathlib.Omega.{arith}
use Rattle.std.proofs.Math.Dec.{nleb→lt}
use Rattle.std.proofs.Math.ListN.{length}
use Rattle.matching.specs.Laws.Bools.{decided, is_false, is_true, to-T}
use Rattle.matching.specs.Laws.Matches.{occur_at-length}
use Rattle.matching.specs.Occurrence.{Before, Occurrence, Ordered, occur_at}
use Rattle.matching.specs.Stepping.{OutcomeOf, Step, Stepped, goes_to, halted, is_damaged, joined, read_by, stepped, took_byte}
use Rattle.matching.specs.Words.{Below, Word}
use Rattle.matching.specs.declared.Stop.{Stop}
use Rattle.matching.specs.declared.Stop.TheVariants.{All, Damaged, Full}

pub leb_le : (m n : ℕ) → leb m n ≡ true → m ≤ n
leb_le m n e = leb→le m n (to-T (leb m n) e)

pub leb_lt : (m n : ℕ) → leb m n ≡ false → n < m
leb_lt m n e = nleb→lt m n (subst (λ (b : Bool). T (not b)) (sym e) tt)

pub le_is : (m n : ℕ) → m ≤ n → leb m n ≡ true
le_is m n h = is_true (leb m n) (le→leb m n h)

pub lt_is : (m n : ℕ) → n < m → leb m n ≡ false
lt_is m n h = is_false (leb m n) (λ e. omega (arith, leb_le m n e))

pub full-not-all : Full ≡ All → ⊥
full-not-all e = let z : ◌≡◌ {A = ℕ} 0 1 = cc in omega arith

pub damaged_not-all : Damaged ≡ All → ⊥
damaged_not-all e = let z : ◌≡◌ {A = ℕ} 0 1 = cc in omega arith

-- ---- one byte

module _ {P : Type 0} (step : Step P) (place : P) (count room c : ℕ) (w : Word) where
  pub read_by-took : (to : P) (tags : List ℕ) → step place c ≡ goes_to to tags → leb (length tags) room ≡ true
      → read_by step place count room (c ∷ w) ≡ took_byte (suc count) tags (read_by step to (suc count) (room - length tags) w)
  unfolding read_by stepped
  read_by-took to tags e f = rw e (rw (f, stepped) refl)

  pub read_by-full : (to : P) (tags : List ℕ) → step place c ≡ goes_to to tags → leb (length tags) room ≡ false
      → read_by step place count room (c ∷ w) ≡ halted place Full
  unfolding read_by stepped
  read_by-full to tags e f = rw e (rw (f, stepped) refl)

  pub read_by_damaged : step place c ≡ is_damaged → read_by step place count room (c ∷ w) ≡ halted place Damaged
  unfolding read_by stepped
  read_by_damaged e = rw e refl

-- ---- THE CASES OF A READING, once: what holds at the end, at damage, for want of room, and of a byte before a reading of which it holds, holds of every
-- reading

pub record Cases {P : Type 0} (step : Step P) (M : P → ℕ → ℕ → Word → OutcomeOf P → Type 0) : Type 0 where
  pub none : (place : P) (count room : ℕ) → M place count room [] (halted place All)
  pub wrong : (place : P) (count room c : ℕ) (w : Word) → step place c ≡ is_damaged → M place count room (c ∷ w) (halted place Damaged)
  pub full : (place : P) (count room c : ℕ) (w : Word) (to : P) (tags : List ℕ) → step place c ≡ goes_to to tags → room < length tags
      → M place count room (c ∷ w) (halted place Full)
  pub took : (place : P) (count room c : ℕ) (w : Word) (to : P) (tags : List ℕ) (r : OutcomeOf P) → step place c ≡ goes_to to tags → length tags ≤ room
      → M to (suc count) (room - length tags) w r → M place count room (c ∷ w) (took_byte (suc count) tags r)

module _ {P : Type 0} (step : Step P) (M : P → ℕ → ℕ → Word → OutcomeOf P → Type 0) (k : Cases step M) where
  pub every-reading : (w : Word) (place : P) (count room : ℕ) → M place count room w (read_by step place count room w)
  unfolding read_by
  every-reading [] place count room = k.none place count room
  every-reading (c ∷ w) place count room = go (step place c) refl (λ to left. every-reading w to (suc count) left)
    where
      fits : (to : P) (tags : List ℕ) → step place c ≡ goes_to to tags → ((to : P) (left : ℕ) → M to (suc count) left w (read_by step to (suc count) left w))
          → (leb (length tags) room ≡ true) ⊎ (leb (length tags) room ≡ false) → M place count room (c ∷ w) (read_by step place count room (c ∷ w))
      fits to tags e ih (inl f) = rw (read_by-took step place count room c w to tags e f)
          (k.took place count room c w to tags (read_by step to (suc count) (room - length tags) w) e (leb_le (length tags) room f)
          (ih to (room - length tags)))
      fits to tags e ih (inr f) = rw (read_by-full step place count room c w to tags e f) (k.full place count room c w to tags e (leb_lt (length tags) room f))

      go : (x : Stepped P) → step place c ≡ x → ((to : P) (left : ℕ) → M to (suc count) left w (read_by step to (suc count) left w))
          → M place count room (c ∷ w) (read_by step place count room (c ∷ w))
      go (goes_to to tags) e ih = fits to tags e ih (decided (leb (length tags) room))
      go is_damaged e ih = rw (read_by_damaged step place count room c w e) (k.wrong place count room c w e)

-- ---- what every reading keeps

-- every one of a list
abbrev pub Every : {A : Type 0} → (A → Type 0) → List A → Type 0
Every P [] = Unit {0}
Every P (o ∷ os) = P o × Every P os

pub every_map : {A : Type 0} (P Q : A → Type 0) (os : List A) → ((o : A) → P o → Q o) → Every P os → Every Q os
every_map P Q [] f h = tt
every_map P Q (o ∷ os) f h = (f o h.0, every_map P Q os f h.1)

pub every_append : {A : Type 0} (P : A → Type 0) (a b : List A) → Every P a → Every P b → Every P (a ++ b)
every_append P [] b ha hb = hb
every_append P (o ∷ a) b ha hb = (ha.0, every_append P a b ha.1 hb)

-- both of every one
pub every-both : {A : Type 0} (P Q : A → Type 0) (os : List A) → Every P os → Every Q os → Every (λ o. P o × Q o) os
every-both P Q [] h k = tt
every-both P Q (o ∷ os) h k = ((h.0, k.0), every-both P Q os h.1 k.1)

pub every_one : {A : Type 0} (P : A → Type 0) (os : List A) → Every P os → (o : A) → Memᴰ o os → P o
every_one P [] h o m = absurd (Memᴰ.not-nil m)
every_one {A} P (x ∷ os) h o m = go (Memᴰ.cases_cons m) (every_one P os h.1 o)
  where
    go : (o ≡ x) ⊎ Memᴰ o os → (Memᴰ o os → P o) → P o
    go (inl q) f = subst P (sym q) h.0
    go (inr k) f = f k

pub every-occur_at : (P : Occurrence → Type 0) (e : ℕ) (tags : List ℕ) → Every (λ i. P (record { end = e; tag = i })) tags → Every P (occur_at e tags)
unfolding occur_at
every-occur_at P e [] h = tt
every-occur_at P e (i ∷ tags) h = (h.0, every-occur_at P e tags h.1)

pub every-all : {A : Type 0} (P : A → Type 0) (os : List A) → ((o : A) → P o) → Every P os
every-all P [] f = tt
every-all P (o ∷ os) f = (f o, every-all P os f)

took-length : {P : Type 0} (e : ℕ) (tags : List ℕ) (r : OutcomeOf P) → length (took_byte e tags r).found ≡ length tags + length r.found
unfolding took_byte
took-length e tags r = omega (arith, length-append (occur_at e tags) r.found, occur_at-length e tags)

-- why a reading of w stopped: at its end; or before a byte whose matches find no room; or before a byte at which the step shows damage
pub data Why {P : Type 0} (step : Step P) (room : ℕ) (w : Word) (r : OutcomeOf P) : Type 0 where
  at_end : r.stop ≡ All → r.taken ≡ length w → Why step room w r
  no_room : (to : P) (tags : List ℕ) → r.stop ≡ Full → r.taken < length w → step r.place (get_or w r.taken 0) ≡ goes_to to tags
      → room < length r.found + length tags → Why step room w r
  wrong_at : r.stop ≡ Damaged → r.taken < length w → step r.place (get_or w r.taken 0) ≡ is_damaged → Why step room w r

-- what a reading r of w has done: from a place, with count bytes taken before and room for so many records
pub record Went {P : Type 0} (step : Step P) (place : P) (count room : ℕ) (w : Word) (r : OutcomeOf P) : Type 0 where
  pub part : r.taken ≤ length w
  pub fits : length r.found ≤ room
  pub between : Every (λ o. (count < o.end) × (o.end ≤ count + r.taken)) r.found
  pub idle : r.taken ≡ 0 → (r.place ≡ place) × (r.found ≡ [])
  pub whole : (r.stop ≡ All) ↔ (r.taken ≡ length w)
  pub why : Why step room w r

module _ {P : Type 0} (step : Step P) where
  went_halted : (place : P) (count room c : ℕ) (w : Word) (stop : Stop) → (stop ≡ All → ⊥) → Why step room (c ∷ w) (halted place stop)
      → Went step place count room (c ∷ w) (halted place stop)
  unfolding halted
  went_halted place count room c w stop h y = record {
    part = omega arith;
    fits = omega arith;
    between = tt;
    idle = λ e. (refl, refl);
    whole = (λ e. absurd (h e), λ e. absurd (omega (arith, e)));
    why = y;
  }

  went_none : (place : P) (count room : ℕ) → Went step place count room [] (halted place All)
  unfolding halted
  went_none place count room = record {
    part = omega arith;
    fits = omega arith;
    between = tt;
    idle = λ e. (refl, refl);
    whole = (λ e. refl, λ e. refl);
    why = at_end refl refl;
  }

  why-full : (place : P) (room c : ℕ) (w : Word) (to : P) (tags : List ℕ) → step place c ≡ goes_to to tags → room < length tags
      → Why step room (c ∷ w) (halted place Full)
  unfolding halted
  why-full place room c w to tags e h = no_room to tags refl (omega arith) e (omega arith)

  why-wrong : (place : P) (room c : ℕ) (w : Word) → step place c ≡ is_damaged → Why step room (c ∷ w) (halted place Damaged)
  unfolding halted
  why-wrong place room c w e = wrong_at refl (omega arith) e

  why-took : (count room c : ℕ) (w : Word) (tags : List ℕ) (r : OutcomeOf P) → length tags ≤ room → Why step (room - length tags) w r
      → Why step room (c ∷ w) (took_byte (suc count) tags r)
  unfolding took_byte
  why-took count room c w tags r h (at_end e f) = at_end e (ap suc f)
  why-took count room c w tags r h (no_room to more e f g l) = no_room to more e (omega (arith, f)) g (omega (arith, l, took-length (suc count) tags r))
  why-took count room c w tags r h (wrong_at e f g) = wrong_at e (omega (arith, f)) g

  went_took : (place : P) (count room c : ℕ) (w : Word) (to : P) (tags : List ℕ) (r : OutcomeOf P) → length tags ≤ room
      → Went step to (suc count) (room - length tags) w r → Went step place count room (c ∷ w) (took_byte (suc count) tags r)
  unfolding took_byte
  went_took place count room c w to tags r few k = record {
    part = omega (arith, k.part);
    fits = omega (arith, k.fits, took-length (suc count) tags r);
    between = every_append (λ o. (count < o.end) × (o.end ≤ count + suc r.taken)) (occur_at (suc count) tags) r.found
        (every-occur_at _ (suc count) tags (every-all _ tags (λ i. (omega arith, omega arith))))
        (every_map _ _ r.found (λ o h. (omega (arith, h.0), omega (arith, h.1))) k.between);
    idle = λ e. absurd (omega (arith, e));
    whole = (λ e. ap suc (k.whole.0 e), λ e. k.whole.1 (omega (arith, e)));
    why = why-took count room c w tags r few k.why;
  }

  pub went : (w : Word) (place : P) (count room : ℕ) → Went step place count room w (read_by step place count room w)
  went = every-reading step (Went step) (record {
    none = went_none;
    wrong = λ place count room c w e. went_halted place count room c w Damaged damaged_not-all (why-wrong place room c w e);
    full = λ place count room c w to tags e h. went_halted place count room c w Full full-not-all (why-full place room c w to tags e h);
    took = λ place count room c w to tags r e h k. went_took place count room c w to tags r h k;
  })

  -- what steps keep, readings keep
  pub read_by_keeps : (I : P → Type 0) → ((p : P) (c : ℕ) (to : P) (tags : List ℕ) → I p → step p c ≡ goes_to to tags → I to)
      → (w : Word) (place : P) (count room : ℕ) → I place → I (read_by step place count room w).place
  unfolding halted took_byte
  read_by_keeps I f = every-reading step (λ place count room w r. I place → I r.place) (record {
    none = λ place count room h. h;
    wrong = λ place count room c w e h. h;
    full = λ place count room c w to tags e l h. h;
    took = λ place count room c w to tags r e l k h. k (f place c to tags h e);
  })

  -- what holds of the tags of every step, holds of those of every record
  pub read_by-tags : (G : ℕ → Type 0) → ((p : P) (c : ℕ) (to : P) (tags : List ℕ) → step p c ≡ goes_to to tags → Every G tags)
      → (w : Word) (place : P) (count room : ℕ) → Every (λ o. G o.tag) (read_by step place count room w).found
  unfolding halted took_byte
  read_by-tags G f = every-reading step (λ place count room w r. Every (λ o. G o.tag) r.found) (record {
    none = λ place count room. tt;
    wrong = λ place count room c w e. tt;
    full = λ place count room c w to tags e l. tt;
    took = λ place count room c w to tags r e l k.
        every_append (λ o. G o.tag) (occur_at (suc count) tags) r.found (every-occur_at (λ o. G o.tag) (suc count) tags (f place c to tags e)) k;
  })

-- ---- in which order the records stand

-- each below all those after it
abbrev pub Rising : List ℕ → Type 0
Rising [] = Unit {0}
Rising (i ∷ is) = Every (λ j. i < j) is × Rising is

-- the matches of a byte before those of later ones
pub rising_before : (e : ℕ) (tags : List ℕ) (rest : List Occurrence) → Rising tags → Ordered rest → Every (λ o. e < o.end) rest
    → Ordered (occur_at e tags ++ rest)
unfolding occur_at
rising_before e [] rest h ho f = ho
rising_before e (i ∷ tags) rest h ho f = (every_one (Before (record { end = e; tag = i })) (occur_at e tags ++ rest) all, rising_before e tags rest h.1 ho f)
  where
    all : Every (Before (record { end = e; tag = i })) (occur_at e tags ++ rest)
    all = every_append (Before (record { end = e; tag = i })) (occur_at e tags) rest
        (every-occur_at (Before (record { end = e; tag = i })) e tags (every_map (λ j. i < j) _ tags (λ j l. inr (refl, l)) h.0))
        (every_map (λ o. e < o.end) _ rest (λ o l. inl l) f)

module _ {P : Type 0} (step : Step P) where
  -- where the tags of each step rise, the records are by end, then by tag number
  pub read_by-ordered : ((p : P) (c : ℕ) (to : P) (tags : List ℕ) → step p c ≡ goes_to to tags → Rising tags)
      → (w : Word) (place : P) (count room : ℕ) → Ordered (read_by step place count room w).found
  unfolding halted took_byte
  read_by-ordered f w place count room = (every-reading step (λ place count room w r. Ordered r.found × Every (λ o. count < o.end) r.found) (record {
    none = λ place count room. (tt, tt);
    wrong = λ place count room c w e. (tt, tt);
    full = λ place count room c w to tags e l. (tt, tt);
    took = λ place count room c w to tags r e l k. (
      rising_before (suc count) tags r.found (f place c to tags e) k.0 k.1,
      every_append (λ o. count < o.end) (occur_at (suc count) tags) r.found
          (every-occur_at (λ o. count < o.end) (suc count) tags (every-all _ tags (λ i. omega arith)))
          (every_map (λ o. suc count < o.end) _ r.found (λ o h. omega (arith, h)) k.1),
    );
  }) w place count room).0

  -- ---- cut in two: a reading of v ++ w is one of v and, where that took it all, one of w from there, with the room that is left

  pub joined-took : (e : ℕ) (tags : List ℕ) (a b : OutcomeOf P) → took_byte e tags (joined a b) ≡ joined (took_byte e tags a) b
  unfolding joined took_byte
  joined-took e tags a b =
      let z : suc (a.taken + b.taken) ≡ suc a.taken + b.taken = omega arith in
      rw (z, append_assoc) refl

  joined-none : (place : P) (r : OutcomeOf P) → joined (halted place All) r ≡ r
  unfolding joined halted
  joined-none place r = rw (zero-add r.taken) refl

  pub cut_all : (v : Word) (place : P) (count room : ℕ) (w : Word) → (read_by step place count room v).stop ≡ All
      → read_by step place count room (v ++ w)
      ≡ joined (read_by step place count room v)
      (read_by step (read_by step place count room v).place (count + (read_by step place count room v).taken)
      (room - length (read_by step place count room v).found) w)
  unfolding halted took_byte
  cut_all v place count room w = every-reading step (λ place count room v r. r.stop ≡ All
      → read_by step place count room (v ++ w) ≡ joined r (read_by step r.place (count + r.taken) (room - length r.found) w)) (record {
        none = λ place count room e.
            let a : count ≡ count + 0 = omega arith in
            let b : room ≡ room - 0 = omega arith in
            ap₂ (λ (x y : ℕ). read_by step place x y w) a b ∙ sym (joined-none place (read_by step place (count + 0) (room - 0) w));
        wrong = λ place count room c w e f. absurd (damaged_not-all f);
        full = λ place count room c w to tags e l f. absurd (full-not-all f);
        took = λ place count room c v to tags r e l k f.
            let a : suc count + r.taken ≡ count + suc r.taken = omega arith in
            let b : room - length tags - length r.found ≡ room - length (occur_at (suc count) tags ++ r.found) =
            omega (arith, took-length (suc count) tags r) in
            read_by-took step place count room c (v ++ w) to tags e (le_is (length tags) room l)
            ∙ ap (took_byte (suc count) tags) (k f)
            ∙ joined-took (suc count) tags r (read_by step r.place (suc count + r.taken) (room - length tags - length r.found) w)
            ∙ ap₂ (λ (x y : ℕ). joined (took_byte (suc count) tags r) (read_by step r.place x y w)) a b;
      }) v place count room

  pub cut-stopped : (v : Word) (place : P) (count room : ℕ) (w : Word) → ((read_by step place count room v).stop ≡ All → ⊥)
      → read_by step place count room (v ++ w) ≡ read_by step place count room v
  unfolding halted took_byte
  cut-stopped v place count room w = every-reading step (λ place count room v r. (r.stop ≡ All → ⊥) → read_by step place count room (v ++ w) ≡ r) (record {
    none = λ place count room h. absurd (h refl);
    wrong = λ place count room c v e h. read_by_damaged step place count room c (v ++ w) e;
    full = λ place count room c v to tags e l h. read_by-full step place count room c (v ++ w) to tags e (lt_is (length tags) room l);
    took = λ place count room c v to tags r e l k h. read_by-took step place count room c (v ++ w) to tags e (le_is (length tags) room l)
        ∙ ap (took_byte (suc count) tags) (k h);
  }) v place count room

-- ---- THE SIMULATION: related places that step alike read alike

-- two steps alike: damage, or the same tags and related places
pub data Along {P Q : Type 0} (R : P → Q → Type 0) : Stepped P → Stepped Q → Type 0 where
  both_go : (p : P) (q : Q) (tags : List ℕ) → R p q → Along R (goes_to p tags) (goes_to q tags)
  both_stop : Along R is_damaged is_damaged

-- two readings alike
pub record Together {P Q : Type 0} (R : P → Q → Type 0) (a : OutcomeOf P) (b : OutcomeOf Q) : Type 0 where
  pub taken : a.taken ≡ b.taken
  pub stop : a.stop ≡ b.stop
  pub found : a.found ≡ b.found
  pub place : R a.place b.place

module _ {P Q : Type 0} (R : P → Q → Type 0) where
  along-go : (a : Stepped P) (b : Stepped Q) → Along R a b → (to : P) (tags : List ℕ) → a ≡ goes_to to tags → (q : Q) × (b ≡ goes_to q tags) × R to q
  along-go a b (both_go p q tags r) to more e = (q, ap (goes_to q) same, subst (λ (x : P). R x q) there r)
    where
      same : tags ≡ more
      same = cc

      there : p ≡ to
      there = cc
  along-go a b both_stop to more e = absurd (let z : ◌≡◌ {A = ℕ} 0 1 = cc in omega arith)

  along-stop : (a : Stepped P) (b : Stepped Q) → Along R a b → a ≡ is_damaged → b ≡ is_damaged
  along-stop a b (both_go p q tags r) e = absurd (let z : ◌≡◌ {A = ℕ} 0 1 = cc in omega arith)
  along-stop a b both_stop e = refl

  module _ (f : Step P) (g : Step Q) (m : ℕ) (alike : (p : P) (q : Q) (c : ℕ) → R p q → c < m → Along R (f p c) (g q c)) where
    pub simulation : (w : Word) (p : P) (q : Q) (count room : ℕ) → R p q → Below m w → Together R (read_by f p count room w) (read_by g q count room w)
    unfolding halted took_byte read_by
    simulation w p q count room = every-reading f (λ p count room w r. (q : Q) → R p q → Below m w → Together R r (read_by g q count room w)) (record {
      none = λ p count room q h b. record { taken = refl; stop = refl; found = refl; place = h };
      wrong = λ p count room c w e q h b.
          rw (read_by_damaged g q count room c w (along-stop (f p c) (g q c) (alike p q c h b.0) e)) record {
            taken = refl;
            stop = refl;
            found =
                refl;
            place = h;
          };
      full = λ p count room c w to tags e l q h b.
          let s = along-go (f p c) (g q c) (alike p q c h b.0) to tags e in
          rw (read_by-full g q count room c w s.0 tags s.1 (lt_is (length tags) room l)) record { taken = refl; stop = refl; found = refl; place = h };
      took = λ p count room c w to tags r e l k q h b.
          let s = along-go (f p c) (g q c) (alike p q c h b.0) to tags e in
          let t = k s.0 s.2 b.1 in
          rw (read_by-took g q count room c w s.0 tags s.1 (le_is (length tags) room l))
          record {
            taken = ap suc t.taken;
            stop = t.stop;
            found = ap {B = List Occurrence} (λ (x : List Occurrence). occur_at (suc count) tags ++ x)
                t.found;
            place = t.place;
          };
    }) w p count room q
