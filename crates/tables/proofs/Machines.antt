-- A part's machines as they are made, one behind the other.
use Prim.Native.Nat.{◌%◌, ◌*◌, ◌+◌, ◌-◌, ◌/◌, ◌<◌, ◌^◌, ◌≤◌, suc, zero, ℕ}
use mathlib.Core.List.{List, ◌++◌, append_assoc, append-nil}
use mathlib.Core.Path.{◌∙◌, ◌≡◌, ap, ap₂, refl, subst, sym}
use native.Mathlib.Decide.{dec_lt}
use native.Mathlib.Nat.{add-zero, div-add-mod', mod-lt, mul-le-mul_right, suc-mul, zero-add, zero-mul}
use native.Mathlib.Numerals.{add-one}
use native.Mathlib.Omega.{arith}
use lib.ListN.{drop, get_or, get_or-replicate, length, length-append, length-drop, take}
use lib.Seq.{drop_at, drop-drop, length-take-le, take_at}
use Rattle.machines.specs.Rows.{Filled}
use Rattle.matching.specs.Laws.Dealt.{dealt}
use Rattle.matching.specs.Laws.Tables.{laid_ext, laid-length, slot-length, slot_next, slot_unused, slot-vector, slots_length}
use Rattle.matching.specs.Machine.{prefixes, states}
use Rattle.matching.specs.Table.{built, laid, slot, slot_size, slots, tags_for}
use Rattle.matching.specs.Words.{Word}
use Rattle.choosing.specs.Dealing.{DealtOut, is_of}
use Rattle.choosing.specs.Laws.Dealing.{dealt-zero}
use Rattle.tables.specs.Shape.{Marked, Shaped, mark_by}
use Rattle.tables.specs.declared.Part.{Part}

-- ---- one machine's slots

-- vectors over the part's own tags, dealt out
pub filled_marked : (kind : ℕ) (ks : List ℕ) (n : ℕ) (ts : List Word) (m letters : ℕ) (l after : List ℕ) → Filled (tags_for n ts m) letters l
    → DealtOut (dealt (is_of kind) ks) letters l after → Marked (tags_for n ts m) (mark_by kind ks n ts m) letters after
filled_marked kind ks n ts m letters l after f d = record {
  nexts = λ q c hq hc. d.nexts q c hc ∙ (f.done q hq).nexts c hc;
  vectors = λ q hq. d.vectors q ∙ ap (dealt (is_of kind) ks) (f.done q hq).flags;
  blank = blank;
}
  where
    blank : (j : ℕ) → states (tags_for n ts m) * (letters + 1) ≤ j → get_or after j 0 ≡ 0
    blank j h =
        ap (λ (x : ℕ). get_or after x 0) (sym at) ∙ go (dec_lt (j % (letters + 1)) letters)
      where
        at : j / (letters + 1) * (letters + 1) + j % (letters + 1) ≡ j
        at = div-add-mod' j (letters + 1)

        was : get_or l (j / (letters + 1) * (letters + 1) + j % (letters + 1)) 0 ≡ 0
        was = ap (λ (x : ℕ). get_or l x 0) at ∙ f.blank j h

        low : j % (letters + 1) < letters + 1
        low = mod-lt j (omega arith)

        go : Dec (j % (letters + 1) < letters) → get_or after (j / (letters + 1) * (letters + 1) + j % (letters + 1)) 0 ≡ 0
        go (yes k) = d.nexts (j / (letters + 1)) (j % (letters + 1)) k ∙ was
        go (no k) =
            let e : j % (letters + 1) ≡ letters = omega (arith, low) in
            ap (λ (x : ℕ). get_or after (j / (letters + 1) * (letters + 1) + x) 0) e ∙ d.vectors (j / (letters + 1))
            ∙ ap (dealt (is_of kind) ks) (ap (λ (x : ℕ). get_or l (j / (letters + 1) * (letters + 1) + x) 0) (sym e) ∙ was)
            ∙ dealt-zero (is_of kind) ks

states-is : (ts : List Word) → length (prefixes ts) ≡ states ts
unfolding states
states-is ts = refl

module _ (n : ℕ) (ts : List Word) (mark : ℕ → Word → ℕ) (m s : ℕ) (l : List ℕ) (f : Marked (tags_for n ts m) (mark m) (2 ^ n) l)
    (long : length l ≡ s * slot_size n) where
  abbrev ps : List Word
  ps = prefixes (tags_for n ts m)

  number : (q j : ℕ) → q < s → j < slot_size n → get_or l (q * slot_size n + j) 0 ≡ get_or (slot n (mark m) ps q) j 0
  number q j hq hj = go (dec_lt q (states (tags_for n ts m))) (dec_lt j (2 ^ n))
    where
      used : q < states (tags_for n ts m) → q < length ps
      used h = rw (states-is (tags_for n ts m)) h

      go : Dec (q < states (tags_for n ts m)) → Dec (j < 2 ^ n) → get_or l (q * slot_size n + j) 0 ≡ get_or (slot n (mark m) ps q) j 0
      go (yes h) (yes k) = f.nexts q j h k ∙ sym (slot_next n (mark m) ps q j (used h) k)
      go (yes h) (no k) =
          let e : j ≡ 2 ^ n = omega arith in
          rw e (f.vectors q h ∙ sym (slot-vector n (mark m) ps q (used h)))
      go (no h) k =
          f.blank (q * slot_size n + j) (omega (arith, mul-le-mul_right {m = states (tags_for n ts m)} {n = q} (slot_size n) (omega arith)))
          ∙ sym (rw (slot_unused n (mark m) ps q (rw (states-is (tags_for n ts m)) (omega arith))) (get_or-replicate (slot_size n) j 0 0 hj))

  slots-marked : l ≡ slots n s ts mark m
  unfolding slots
  slots-marked = laid_ext (slot n (mark m) ps) (slot_size n) (slot-length n (mark m) ps) s l long number

-- ---- one machine more

laid_snoc : (f : ℕ → List ℕ) (from count : ℕ) → laid f from (suc count) ≡ laid f from count ++ f (from + count)
unfolding laid
laid_snoc f from zero = append-nil (f from) ∙ ap f (sym (add-zero from))
laid_snoc f from (suc count) =
    ap (λ (l : List ℕ). f from ++ l) (laid_snoc f (suc from) count)
    ∙ sym (append_assoc (f from) (laid f (suc from) count) (f (suc from + count)))
    ∙ ap (λ (i : ℕ). (f from ++ laid f (suc from) count) ++ f i) (omega arith)

-- the first m machines are laid, and end at `at`
pub record Laid (n s : ℕ) (ts : List Word) (mark : ℕ → Word → ℕ) (m at : ℕ) (l₀ l : List ℕ) : Type 0 where
  pub place : at ≡ m * (s * slot_size n)
  pub is : l ≡ laid (slots n s ts mark) 0 m ++ drop at l₀
  pub long : length l ≡ length l₀

pub laid_none : (n s : ℕ) (ts : List Word) (mark : ℕ → Word → ℕ) (l : List ℕ) → Laid n s ts mark 0 0 l l
unfolding laid
laid_none n s ts mark l = record { place = sym (zero-mul (s * slot_size n)); is = refl; long = refl }

module _ {part : Part} (shaped : Shaped part) {s : ℕ} {ts : List Word} {mark : ℕ → Word → ℕ} {m at : ℕ} {l₀ l : List ℕ}
    (L : Laid part.bits s ts mark m at l₀ l) where
  size_is : s * (part.letters + 1) ≡ s * slot_size part.bits
  size_is = ap (λ (x : ℕ). s * (x + 1)) shaped.letters

  -- its numbers are there
  pub laid-room : m < part.machines → part.machines * (s * (part.letters + 1)) ≤ length l₀ → at + s * (part.letters + 1) ≤ length l
  laid-room h room =
      omega (
        arith,
        L.long,
        L.place,
        size_is,
        suc-mul m (s * (part.letters + 1)),
        ap (λ (x : ℕ). m * x) size_is,
        mul-le-mul_right {m = suc m} {n = part.machines} (s * (part.letters + 1)) h,
      )

  module _ (room : at + s * (part.letters + 1) ≤ length l) (few : states (tags_for part.bits ts m) ≤ s) where
    -- the part that is lent
    size-lent : at + s * (part.letters + 1) - at ≡ s * (part.letters + 1)
    size-lent = omega arith

    part-long : length (take (at + s * (part.letters + 1) - at) (drop at l)) ≡ s * (part.letters + 1)
    part-long = rw size-lent (length-take-le (s * (part.letters + 1)) (drop at l) (omega (arith, length-drop at l)))

    more : (ys : List ℕ) → length ys ≡ s * (part.letters + 1) → Marked (tags_for part.bits ts m) (mark m) part.letters ys
        → Laid part.bits s ts mark (m + 1) (at + s * (part.letters + 1)) l₀ (take at l ++ (ys ++ drop (s * (part.letters + 1)) (drop at l)))
    more ys long f =
        let z = s * (part.letters + 1) in
        let f' : Marked (tags_for part.bits ts m) (mark m) (2 ^ part.bits) ys =
        subst (λ (x : ℕ). Marked (tags_for part.bits ts m) (mark m) x ys) shaped.letters f in
        let e : ys ≡ slots part.bits s ts mark m = slots-marked part.bits ts mark m s ys f' (long ∙ size_is) in
        let front : length (laid (slots part.bits s ts mark) 0 m) ≡ at =
        laid-length (slots part.bits s ts mark) (s * slot_size part.bits) (slots_length part.bits s ts mark) 0 m ∙ sym L.place in
        let a : take at l ≡ laid (slots part.bits s ts mark) 0 m =
        ap (take at) L.is ∙ take_at (laid (slots part.bits s ts mark) 0 m) (drop at l₀) at front in
        let b : drop z (drop at l) ≡ drop (at + z) l₀ =
        ap (drop z) (ap (drop at) L.is ∙ drop_at (laid (slots part.bits s ts mark) 0 m) (drop at l₀) at front) ∙ drop-drop z at l₀ in
        record {
          place =
              omega (
                arith,
                L.place,
                size_is,
                add-one m,
                suc-mul m (s * slot_size part.bits),
                ap (λ (x : ℕ). x * (s * slot_size part.bits)) (add-one m),
              );
          is =
              ap₂ {C = List ℕ} (λ (x y : List ℕ). x ++ (ys ++ y)) a b
              ∙ sym (append_assoc (laid (slots part.bits s ts mark) 0 m) ys (drop (at + z) l₀))
              ∙ ap (λ (x : List ℕ). x ++ drop (at + z) l₀)
              (ap (λ (y : List ℕ). laid (slots part.bits s ts mark) 0 m ++ y) (e ∙ ap (slots part.bits s ts mark) (sym (zero-add m)))
              ∙ sym (laid_snoc (slots part.bits s ts mark) 0 m) ∙ ap (laid (slots part.bits s ts mark) 0) (sym (add-one m)));
          long =
              omega (
                arith,
                length-append (take at l) (ys ++ drop z (drop at l)),
                length-append ys (drop z (drop at l)),
                length-take-le at l (omega arith),
                length-drop z (drop at l),
                length-drop at l,
                L.long,
              );
        }

    pub laid_more : (ys : List ℕ) → length ys ≡ length (take (at + s * (part.letters + 1) - at) (drop at l))
        → Marked (tags_for part.bits ts m) (mark m) part.letters ys
        → Laid part.bits s ts mark (m + 1) (at + s * (part.letters + 1)) l₀
        (take at l ++ (ys ++ drop (at + s * (part.letters + 1) - at) (drop at l)))
    laid_more ys same f = rw size-lent (more ys (same ∙ part-long) f)

  pub laid-all : m ≡ part.machines
      → l ≡ built part.bits part.machines s ts mark ++ drop (part.machines * (s * slot_size part.bits)) l₀
  unfolding built
  laid-all e =
      L.is
      ∙ ap₂ {C = List ℕ} (λ (x i : ℕ). laid (slots part.bits s ts mark) 0 x ++ drop i l₀) e (L.place ∙ ap (λ (x : ℕ). x * (s * slot_size part.bits)) e)

-- ---- room for a machine
-- Laws that the pages name, though no proof needs them any more.

pub size_fits : {part : Part} → Shaped part → (s len : ℕ) → part.machines * (s * (part.letters + 1)) ≤ len → s * (part.letters + 1) ≤ len
size_fits {part} shaped s len h =
    omega (arith, mul-le-mul_right {m = 1} {n = part.machines} (s * (part.letters + 1)) shaped.slicing.machines)

module _ {part : Part} (shaped : Shaped part) {s : ℕ} {ts : List Word} {mark : ℕ → Word → ℕ} {m at : ℕ} {l₀ l : List ℕ}
    (L : Laid part.bits s ts mark m at l₀ l) where
  module _ (room : at + s * (part.letters + 1) ≤ length l) (few : states (tags_for part.bits ts m) ≤ s) where
    pub laid_asks : states (tags_for part.bits ts m) * (part.letters + 1) ≤ length (take (at + s * (part.letters + 1) - at) (drop at l))
    laid_asks = rw (part-long shaped L room few) (mul-le-mul_right (part.letters + 1) few)
