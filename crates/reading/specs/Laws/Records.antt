-- Writing a byte's records.
use Rattle.std.specs.Prelude.{None, Some, ◌%◌, ◌*◌, ◌+◌, ◌-◌, ◌/◌, ◌<◌, ◌≤◌, suc, zero, ℕ, Bool, cond, false, true, ◌⊎◌, ◌≡◌, refl, set}
use Rattle.std.proofs.Common.{zero-le, inl, inr, ◌∙◌, add-suc, add-zero, suc-add, add-one, arith, length-append, le-leb}
use mathlib.Core.List.{List, [], ◌++◌, ◌∷◌}
use Rattle.std.proofs.Math.Path.{ap}
use Rattle.std.proofs.Math.ListN.{length}
use Rattle.std.proofs.Math.Seq.{length-sets}
use Rattle.std.proofs.lemmas.List.Edits.{sets}
use Rattle.std.proofs.lemmas.Bool.{lt-leb}
use Rattle.matching.specs.Laws.Bits.{bit_cases, ones_of-none, ones_of-one}
use Rattle.matching.specs.Laws.Matches.{occur_at-length}
use Rattle.matching.specs.Occurrence.{Occurrence, flat, occur_at}
use Rattle.matching.specs.Reading.{ones_of}
use Rattle.passing.specs.Laws.Passing.{ones_none}
use Rattle.reading.specs.Records.{emit_by, emit_of, emitted, fits_in, tag_if}

pub tag-none : (bit tag : ℕ) → bit ≡ 0 → tag_if bit tag ≡ []
tag-none bit tag e = rw e

pub tag-some : (bit tag : ℕ) → (bit ≡ 0 → ⊥) → tag_if bit tag ≡ tag ∷ []
tag-some zero tag n = absurd (n refl)
tag-some (suc bit) tag n = refl

-- ---- lists of records, one behind another

pub flat_append : (a b : List Occurrence) → flat (a ++ b) ≡ flat a ++ flat b
unfolding flat
flat_append [] b = refl
flat_append (o ∷ a) b = ap (λ (l : List ℕ). o.end ∷ o.tag ∷ l) (flat_append a b)

pub flat-length : (os : List Occurrence) → length (flat os) ≡ 2 * length os
unfolding flat
flat-length [] = refl
flat-length (o ∷ os) = omega (arith, flat-length os)

occur_append : (e : ℕ) (a b : List ℕ) → occur_at e (a ++ b) ≡ occur_at e a ++ occur_at e b
unfolding occur_at
occur_append e [] b = refl
occur_append e (i ∷ a) b = ap (λ (l : List Occurrence). record { end = e; tag = i } ∷ l) (occur_append e a b)

records-length : (e : ℕ) (tags : List ℕ) → length (flat (occur_at e tags)) ≡ 2 * length tags
records-length e tags = flat-length (occur_at e tags) ∙ ap (λ (n : ℕ). 2 * n) (occur_at-length e tags)

records_append : (e : ℕ) (a b : List ℕ) → flat (occur_at e (a ++ b)) ≡ flat (occur_at e a) ++ flat (occur_at e b)
records_append e a b = ap flat (occur_append e a b) ∙ flat_append (occur_at e a) (occur_at e b)

pub sets_append : (l xs ys : List ℕ) (i : ℕ) → sets l i (xs ++ ys) ≡ sets (sets l i xs) (i + length xs) ys
sets_append l [] ys i = rw add-zero
sets_append l (x ∷ xs) ys i = rw (add-suc, ← suc-add) (sets_append (set l i x) xs ys (suc i))

-- ---- bit by bit

ones_step : (tag rest : ℕ) → tag < 16 → ones_of tag (16 - tag) rest ≡ tag_if (rest % 2) tag ++ ones_of (tag + 1) (16 - (tag + 1)) (rest / 2)
ones_step tag rest less = rw (z, add-one tag) (go (bit_cases rest))
  where
    z : 16 - tag ≡ suc (16 - suc tag)
    z = omega arith

    go : (rest % 2 ≡ 1) ⊎ (rest % 2 ≡ 0) → ones_of tag (suc (16 - suc tag)) rest ≡ tag_if (rest % 2) tag ++ ones_of (suc tag) (16 - suc tag) (rest / 2)
    go (inl q) = ones_of-one tag (16 - suc tag) rest q ∙ rw q
    go (inr q) = ones_of-none tag (16 - suc tag) rest q ∙ rw q

ones-end : (tag rest : ℕ) → 16 ≤ tag → ones_of tag (16 - tag) rest ≡ []
unfolding ones_of
ones-end tag rest more =
    let z : 16 - tag ≡ 0 = omega arith in
    rw z

-- what is still to be written, written where it belongs, gives the whole
pub record Putting (l₀ : List ℕ) (from e hits : ℕ) (l : List ℕ) (w rest tag : ℕ) : Type 0 where
  pub most : tag ≤ 16
  pub count : w + length (ones_of tag (16 - tag) rest) ≡ from + length (ones_of 0 16 hits)
  pub same : sets l (2 * w) (flat (occur_at e (ones_of tag (16 - tag) rest))) ≡ sets l₀ (2 * from) (flat (occur_at e (ones_of 0 16 hits)))
  pub long : length l ≡ length l₀

module _ (l₀ : List ℕ) (from e hits : ℕ) where
  pub putting_start : Putting l₀ from e hits l₀ from hits 0
  putting_start = record { most = zero-le; count = refl; same = refl; long = refl }

  module _ (l : List ℕ) (w rest tag : ℕ) (p : Putting l₀ from e hits l w rest tag) where
    pub putting_room : tag < 16 → 2 * (from + length (ones_of 0 16 hits)) ≤ length l₀ → 2 * (w + length (tag_if (rest % 2) tag)) ≤ length l
    putting_room less r =
        omega (
          arith,
          p.count,
          p.long,
          ap length (ones_step tag rest less),
          length-append (tag_if (rest % 2) tag)
              (ones_of (tag + 1) (16 - (tag + 1)) (rest / 2)),
        )

    pub putting_more : tag < 16 → (l' : List ℕ) (w' : ℕ) → w' ≡ w + length (tag_if (rest % 2) tag)
        → l' ≡ sets l (2 * w) (flat (occur_at e (tag_if (rest % 2) tag)))
        → Putting l₀ from e hits l' w' (rest / 2) (tag + 1)
    putting_more less l' w' ew el =
        let x = tag_if (rest % 2) tag in
        let y = ones_of (tag + 1) (16 - (tag + 1)) (rest / 2) in
        let i : 2 * w' ≡ 2 * w + length (flat (occur_at e x)) = omega (arith, records-length e x) in
        record {
          most = omega arith;
          count = omega (arith, p.count, ap length (ones_step tag rest less), length-append x y);
          same = rw (i, el, ← sets_append l (flat (occur_at e x)) (flat (occur_at e y)) (2 * w), ← records_append e x y, ← ones_step tag rest less) p.same;
          long = rw el (length-sets l (2 * w) (flat (occur_at e x)) ∙ p.long);
        }

    pub putting_done : 16 ≤ tag → (w ≡ from + length (ones_of 0 16 hits)) × (l ≡ sets l₀ (2 * from) (flat (occur_at e (ones_of 0 16 hits))))
    unfolding flat occur_at
    putting_done more = (omega (arith, p.count, ap length (ones-end tag rest more)), rw (ones-end tag rest more) at p.same)

-- ---- all of a byte's records, or none

module _ (l : List ℕ) (w e hits : ℕ) where
  pub emit_room : length (ones_of 0 16 hits) ≤ length l / 2 - w → (w' : ℕ) (l' : List ℕ) → w' ≡ w + length (ones_of 0 16 hits)
      → l' ≡ sets l (2 * w) (flat (occur_at e (ones_of 0 16 hits))) → (Some w' ≡ emit_of l w (ones_of 0 16 hits)) × (l' ≡ emitted l w e (ones_of 0 16 hits))
  emit_room r w' l' ew el = (rw (le-leb _ _ r, ew), rw (le-leb _ _ r, el))

  pub emit_none : length l / 2 - w < length (ones_of 0 16 hits) → (None ≡ emit_of l w (ones_of 0 16 hits)) × (l ≡ emitted l w e (ones_of 0 16 hits))
  emit_none r = (rw (lt-leb _ _ r), rw (lt-leb _ _ r))

  pub emit_zero : hits ≡ 0 → (Some w ≡ emit_of l w (ones_of 0 16 hits)) × (l ≡ emitted l w e (ones_of 0 16 hits))
  unfolding flat occur_at
  emit_zero z =
      let n : ones_of 0 16 hits ≡ [] = rw z (ones_none 0 16) in
      emit_room (omega (arith, ap length n)) w l (omega (arith, ap length n)) (rw n refl)

-- ---- what put_all answered

pub written_of : (b : Bool) (x y : ℕ) → Some x ≡ emit_by b y → (b ≡ true) × (x ≡ y)
written_of true x y e = (refl, cc)
written_of false x y e = let z : ◌≡◌ {A = ℕ} 0 1 = cc in absurd (omega arith)

pub none_of : (b : Bool) (y : ℕ) → None ≡ emit_by b y → b ≡ false
none_of true y e = let z : ◌≡◌ {A = ℕ} 0 1 = cc in absurd (omega arith)
none_of false y e = refl

-- the list keeps its length
pub emitted-long : (l : List ℕ) (w e : ℕ) (tags l' : List ℕ) → l' ≡ emitted l w e tags → length l' ≡ length l
emitted-long l w e tags l' el = ap length el ∙ go (fits_in l w tags)
  where
    go : (b : Bool) → length (cond b (sets l (2 * w) (flat (occur_at e tags))) l) ≡ length l
    go true = length-sets l (2 * w) (flat (occur_at e tags))
    go false = refl
