-- What a machine sees of the bytes of a set: its tags with each byte replaced by its slice.
use Prim.Native.Nat.{◌*◌, ◌+◌, ◌-◌, ◌/◌, ◌<◌, ◌^◌, ◌≤◌, suc, zero, ℕ}
use mathlib.Core.List.{List, [], ◌∷◌, map}
use mathlib.Core.Path.{◌∙◌, ◌≡◌, ap, fun_ext, subst, sym}
use native.Mathlib.Nat.{mod-lt, mul-le-mul_right, mul-zero, suc-mul}
use native.Mathlib.Omega.{arith}
use lib.Bits.{and_mask}
use lib.ListN.{length, length-map, length-replicate, replicate, take}
use lib.Pow.{pow_mono}
use lib.Seq.{length-take-le}
use Rattle.machines.specs.Letters.{letter_by}
use Rattle.machines.specs.Rows.{Filled, Fit, Roomy}
use Rattle.matching.specs.Laws.Slots.{slots-fit}
use Rattle.matching.specs.Laws.Vectors.{reduced-length}
use Rattle.matching.specs.Machine.{states}
use Rattle.matching.specs.Slicing.{reduced, slice}
use Rattle.matching.specs.Table.{slots_in, tags_for}
use Rattle.matching.specs.Words.{AllBelow, AllShort, Below, Word}
use Rattle.tagset.specs.Laws.Places.{cut-map}
use Rattle.choosing.specs.Choosing.{own_begins, own_ends, own_words}
use Rattle.choosing.specs.declared.Chosen.{Chosen}
use Rattle.tables.specs.Shape.{Shaped, Tagged}
use Rattle.tables.specs.declared.Part.{Part}

reduced-short : (n : ℕ) (f : ℕ → ℕ) (ts : List Word) → AllShort n ts → AllShort n (reduced f ts)
unfolding reduced
reduced-short n f [] a = tt
reduced-short n f (t ∷ ts) a = (rw (length-map t f) a.0, reduced-short n f ts a.1)

map_below : (m : ℕ) (f : ℕ → ℕ) → ((c : ℕ) → f c < m) → (w : Word) → Below m (map f w)
map_below m f h [] = tt
map_below m f h (c ∷ w) = (h c, map_below m f h w)

reduced-below : (m : ℕ) (f : ℕ → ℕ) → ((c : ℕ) → f c < m) → (ts : List Word) → AllBelow m (reduced f ts)
unfolding reduced
reduced-below m f h [] = tt
reduced-below m f h (t ∷ ts) = (map_below m f h t, reduced-below m f h ts)

-- ---- the places of tags, lent

module _ {bytes : List ℕ} {own : Chosen} {ts : List Word} (tagged : Tagged bytes own ts) where
  own-few : own.count ≤ 16
  own-few = omega (arith, tagged.many, tagged.few)

  pub fits-from : own.count ≤ length own.from
  fits-from = omega (arith, own-few, tagged.roomy.from)

  pub fits-to : own.count ≤ length own.to
  fits-to = omega (arith, own-few, tagged.roomy.to)

-- ---- the slices of a part

module _ {part : Part} (shaped : Shaped part) where
  bits-some : 0 < part.bits
  bits-some = go part.bits shaped.slicing.byte
    where
      go : (n : ℕ) → part.machines * n ≡ 8 → 0 < n
      go zero e = omega (arith, mul-zero part.machines)
      go (suc n) e = omega arith

  pub bits-few : part.bits ≤ 8
  bits-few = omega (arith, shaped.slicing.byte, mul-le-mul_right {m = 1} {n = part.machines} part.bits shaped.slicing.machines)

  pub letters-few : part.letters ≤ 256
  letters-few = omega (arith, shaped.letters, pow_mono {i = part.bits} {j = 8} bits-few)

  letters-some : 0 < 2 ^ part.bits
  letters-some = omega (arith, pow_mono {i = 0} {j = part.bits} (omega arith))

  -- the slots that a run has are there
  pub slots-room : (len s : ℕ) → s ≡ slots_in part.bits part.machines len → part.machines * (s * (part.letters + 1)) ≤ len
  slots-room len s e = rw (e, shaped.letters) (slots-fit part.bits part.machines len)

  module _ (m : ℕ) (low : m < part.machines) where
    letter_slice : (c : ℕ) → letter_by (m * part.bits) part.mask c ≡ slice part.bits m c
    unfolding slice
    letter_slice c =
        let e : part.mask ≡ 2 ^ part.bits - 1 = omega (arith, shaped.mask, shaped.letters) in
        rw e (and_mask (c / 2 ^ (m * part.bits)) part.bits)

    slice-low : (c : ℕ) → slice part.bits m c < 2 ^ part.bits
    unfolding slice
    slice-low c = mod-lt (c / 2 ^ (m * part.bits)) letters-some

    -- ---- in hand: the letters stand at the front of what was spelled

    module _ (bytes : List ℕ) (own : Chosen) (tagged : Tagged bytes own (own_words bytes own)) (out : List ℕ)
        (spelled : take (length bytes) out ≡ map (letter_by (m * part.bits) part.mask) bytes) where
      abbrev words : List Word
      words = own_words bytes own

      pub seen : own_words (take (length bytes) out) own ≡ tags_for part.bits words m
      unfolding reduced
      seen =
          ap (λ (l : List ℕ). own_words l own) (spelled ∙ ap (λ (f : ℕ → ℕ). map f bytes) (fun_ext letter_slice))
          ∙ cut-map (slice part.bits m) bytes (own_begins own) (own_ends own)

      pub seen-fit : Fit (own_words (take (length bytes) out) own)
      seen-fit =
          subst Fit (sym seen)
          (record {
            few = rw (reduced-length (slice part.bits m) words) tagged.few;
            short = reduced-short 32 (slice part.bits m) words tagged.short;
          })

      pub seen-room : (len : ℕ) → states (tags_for part.bits words m) * (part.letters + 1) ≤ len
          → Roomy (own_words (take (length bytes) out) own) part.letters len
      seen-room len room =
          subst (λ (ts : List Word). Roomy ts part.letters len) (sym seen)
          (record {
            low = rw shaped.letters (reduced-below (2 ^ part.bits) (slice part.bits m) slice-low words);
            small = letters-few;
            room = room;
          })

      pub seen_filled : (l : List ℕ) → Filled (own_words (take (length bytes) out) own) part.letters l
          → Filled (tags_for part.bits words m) part.letters l
      seen_filled l f = subst (λ (ts : List Word). Filled ts part.letters l) seen f

-- ---- a slice's bits, and the letters lent
-- Laws that the pages name, though no proof needs them any more.

module _ {part : Part} (shaped : Shaped part) where
  module _ (m : ℕ) (low : m < part.machines) where
    pub shift_small : m * part.bits < 8
    shift_small =
        omega (
          arith,
          shaped.slicing.byte,
          bits-some shaped,
          suc-mul m part.bits,
          mul-le-mul_right {m = suc m} {n = part.machines} part.bits low,
        )

-- the letters are lent as they were spelled, at the front of 576 places
pub spelled_long : (n : ℕ) (out : List ℕ) → n ≤ 576 → length out ≡ length {A = ℕ} (replicate 576 0) → n ≡ length (take n out)
spelled_long n out h e = sym (length-take-le n out (omega (arith, e, length-replicate {A = ℕ} 576 0)))
