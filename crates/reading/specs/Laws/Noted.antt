-- The records of a block, row by row.
use Rattle.std.specs.Prelude.{None, Some, ◌*◌, ◌+◌, ◌-◌, ◌/◌, ◌<◌, ◌≤◌, suc, ℕ, false, ◌≡◌, get_or, length, replicate}
use Rattle.std.proofs.Common.{zero-le, ◌∙◌, add-zero, add-one, arith, length-append, length-take-le, take-suc, leb-false, leb-true}
use mathlib.Core.List.{List, [], ◌++◌}
use Rattle.std.proofs.Math.Path.{ap, refl, sym}
use Rattle.std.proofs.lemmas.List.{length-map}
use Rattle.std.proofs.Math.ListN.{take}
use Rattle.std.proofs.Math.Seq.{length-sets, take-length}
use Rattle.matching.specs.Laws.Matches.{occur_at-length}
use Rattle.matching.specs.Occurrence.{flat, occur_at}
use Rattle.matching.specs.Reading.{ones_of}
use Rattle.blocks.specs.Laws.Blocks.{clean-front}
use Rattle.blocks.specs.Laws.Noting.{rows_at, rows_none}
use Rattle.blocks.specs.Laws.Running.{records-none, records_snoc}
use Rattle.blocks.specs.Noting.{tag_rows}
use Rattle.blocks.specs.Parts.{clean}
use Rattle.blocks.specs.Running.{records_of}
use Rattle.reading.specs.Laws.Records.{flat_append, flat-length, none_of, sets_append, written_of}
use Rattle.reading.specs.Noted.{Writing, WroteTo}
use Rattle.reading.specs.Records.{emit_of, emitted, fits_in}

module _ (rows : List (List ℕ)) (count : ℕ) (l₀ : List ℕ) (from : ℕ) where
  pub writing_start : 2 * from ≤ length l₀ → Writing rows count l₀ l₀ from from 0
  unfolding records_of flat
  writing_start h = record { most = zero-le; records = sym (add-zero from); fits = h; list = refl }

  -- rows without a tag write nothing
  writing-none : (end : ℕ) → rows ≡ replicate end [] → length rows ≡ end → 2 * from ≤ length l₀
      → WroteTo rows count l₀ l₀ from (record { at = end; records = from })
  unfolding flat
  writing-none end e n h =
      let none : records_of count (take end rows) ≡ [] =
      ap (records_of count) (ap (λ (k : ℕ). take k rows) (sym n) ∙ take-length rows ∙ e) ∙ records-none count end in
      record {
        writing = record { most = omega (arith, n); records = rw none (sym (add-zero from)); fits = h; list = rw none };
        full = λ less. absurd (omega (arith, less, n));
      }

  module _ (l : List ℕ) (w i : ℕ) (g : Writing rows count l₀ l from w i) where
    pub writing-long : length l ≡ length l₀
    writing-long = ap length g.list ∙ length-sets l₀ (2 * from) (flat (records_of count (take i rows)))

    module _ (less : i < length rows) where
      abbrev tags : List ℕ
      tags = get_or rows i []

      pub writing_more : (x : ℕ) → Some x ≡ emit_of l w tags → (l' : List ℕ) → l' ≡ emitted l w (count + i + 1) tags
          → Writing rows count l₀ l' from x (i + 1)
      writing_more x some l' el =
          let f = written_of _ _ _ some in
          let room : length tags ≤ length l / 2 - w = leb-true (length tags) (length l / 2 - w) f.0 in
          let e : count + i + 1 ≡ suc (count + i) = omega arith in
          let done = records_of count (take i rows) in
          let new = occur_at (suc (count + i)) tags in
          let all : records_of count (take (i + 1) rows) ≡ done ++ new =
          rw (add-one i) (ap (records_of count) (take-suc rows i [] less) ∙ records_snoc count (take i rows) tags
          ∙ rw (length-take-le i rows g.most)) in
          let at : 2 * w ≡ 2 * from + length (flat done) = omega (arith, g.records, flat-length done) in
          record {
            most = omega arith;
            records = omega (arith, f.1, g.records, ap length all, length-append done new, occur_at-length (suc (count + i)) tags);
            fits = omega (arith, f.1, room, g.fits, writing-long);
            list = el ∙ rw (f.0, e, at, g.list, all, flat_append done new) (sym (sets_append l₀ (flat done) (flat new) (2 * from)));
          }

      pub writing-full : None ≡ emit_of l w tags → (l' : List ℕ) → l' ≡ emitted l w (count + i + 1) tags
          → WroteTo rows count l₀ l' from (record { at = i; records = w })
      writing-full none l' el =
          let b : fits_in l w tags ≡ false = none_of _ _ none in
          let same : l' ≡ l = el ∙ rw b in
          record {
            writing = rw same g;
            full = λ h. omega (arith, leb-false (length tags) (length l / 2 - w) b, writing-long);
          }

    pub writing-end : length rows ≤ i → WroteTo rows count l₀ l from (record { at = i; records = w })
    writing-end more = record { writing = g; full = λ h. absurd (omega (arith, h)) }

-- ---- the same by what is noted

module _ (hits : List ℕ) (end : ℕ) (long : length hits ≡ 256) (few : end ≤ 256) (count : ℕ) (l₀ : List ℕ) (from : ℕ) where
  abbrev noted : List (List ℕ)
  noted = tag_rows (take end hits)

  rows_long : length noted ≡ end
  rows_long = length-map (take end hits) (ones_of 0 16) ∙ length-take-le end hits (omega (arith, long))

  module _ (l : List ℕ) (w i : ℕ) (g : Writing noted count l₀ l from w i) where
    module _ (less : i < end) where
      inside : i < length noted
      inside = omega (arith, rows_long)

      row : get_or noted i [] ≡ ones_of 0 16 (get_or hits i 0)
      row = rows_at end hits i less (omega (arith, long))

      pub noted_more : (x : ℕ) → Some x ≡ emit_of l w (ones_of 0 16 (get_or hits i 0)) → (l' : List ℕ)
          → l' ≡ emitted l w (count + i + 1) (ones_of 0 16 (get_or hits i 0)) → Writing noted count l₀ l' from x (i + 1)
      noted_more x some l' el = writing_more noted count l₀ from l w i g inside x (rw row some) l' (rw row el)

      pub noted-full : None ≡ emit_of l w (ones_of 0 16 (get_or hits i 0)) → (l' : List ℕ) → l' ≡ emitted l w (count + i + 1) (ones_of 0 16 (get_or hits i 0))
          → WroteTo noted count l₀ l' from (record { at = i; records = w })
      noted-full none l' el = writing-full noted count l₀ from l w i g inside (rw row none) l' (rw row el)

    pub noted-end : end ≤ i → WroteTo noted count l₀ l from (record { at = i; records = w })
    noted-end more = writing-end noted count l₀ from l w i g (omega (arith, rows_long))

  pub noted-none : hits ≡ clean → 2 * from ≤ length l₀ → WroteTo noted count l₀ l₀ from (record { at = end; records = from })
  noted-none e h =
      writing-none noted count l₀ from end (ap (λ (x : List ℕ). tag_rows (take end x)) e ∙ ap tag_rows (clean-front end 256 few) ∙ rows_none end) rows_long h
