-- The walk of one part, part of the way through a block.
use Rattle.std.specs.Prelude.{◌+◌, ◌<◌, ◌≤◌, suc, zero, ℕ, Bool, cond, false, ◌≡◌, refl, T, eqb, length}
use Rattle.std.proofs.Common.{zero-le, ◌∙◌, ap, subst, sym, add-one, arith, get_or-take, length-take-le, take-suc, take-take, eq-eqb, ne_eqb}
use Rattle.std.proofs.Math.Bool.{true}
use mathlib.Core.List.{List, [], ◌++◌, ◌∷◌}
use Rattle.std.specs.Int.Bits.{bit_or, or_zero_l}
use Rattle.std.proofs.Math.Dec.{eqb-suc-zero}
use Rattle.std.proofs.Math.ListN.{get_or, set, take}
use Rattle.std.proofs.lemmas.List.{length-map, set-get_or}
use Rattle.matching.specs.Laws.Readings.{table_step-goes, table_step-wrong}
use Rattle.matching.specs.Reading.{all_below, flagged, nexts, ones_of, table_step, vectors_at}
use Rattle.matching.specs.Slicing.{anded}
use Rattle.matching.specs.Stepping.{goes_to, is_damaged}
use Rattle.passing.specs.Laws.Below.{full}
use Rattle.passing.specs.Steps.{Ready}
use Rattle.passing.specs.Steps as steps
use Rattle.blocks.specs.Laws.Noting.{ored-at, ored_snoc, rows_snoc}
use Rattle.blocks.specs.Laws.Running.{ran-long, ran_snoc}
use Rattle.blocks.specs.Noting.{ored, tag_rows}
use Rattle.blocks.specs.Running.{Ran, at_rest}
use Rattle.blocks.specs.Walking.{Noted}

-- ---- noting one number

module _ (hits : List ℕ) (i v : ℕ) (loud : Bool) where
  pub note_quiet : v ≡ 0 → (loud ≡ cond (eqb v 0) loud true) × (hits ≡ set hits i (bit_or v (get_or hits i 0)))
  note_quiet e = (rw (eq-eqb v 0 e), sym (rw (e, or_zero_l (get_or hits i 0)) (set-get_or hits i 0)))

  pub note_loud : (v ≡ 0 → ⊥) → true ≡ cond (eqb v 0) loud true
  note_loud e = rw (ne_eqb v 0 e)

-- where nothing was noted, the run is what it was
quiet-more : (h₀ h : List ℕ) (i v : ℕ) (loud : Bool) → (loud ≡ false → h ≡ h₀) → cond (eqb v 0) loud true ≡ false → set h i (bit_or v (get_or h i 0)) ≡ h₀
quiet-more h₀ h i zero loud q e = rw (or_zero_l (get_or h i 0)) (set-get_or h i 0 ∙ q e)
quiet-more h₀ h i (suc v) loud q e = absurd (subst T (sym (ap (λ (t : Bool). cond t loud true) (eqb-suc-zero v)) ∙ e) tt)

-- ---- the bytes before i are walked

pub record Going (s : ℕ) (table bytes start : List ℕ) (to : ℕ) (h₀ h place : List ℕ) (loud : Bool) (i : ℕ) : Type 0 where
  pub most : i ≤ to
  pub vs : List ℕ
  pub ran : Ran (table_step 1 s table) start (take i bytes) place (tag_rows vs)
  pub noted : h ≡ ored vs h₀
  pub quiet : loud ≡ false → h ≡ h₀
  pub long : length place ≡ 8
  pub below : all_below s place ≡ true

module _ (s : ℕ) (table starts start : List ℕ) (step : steps.Step 1 s table starts start) (bytes : List ℕ) (to : ℕ) (most : to ≤ length bytes)
    (h₀ : List ℕ) where
  pub going_start : Going s table bytes start to h₀ h₀ start false 0
  unfolding ored
  going_start = record {
    most = zero-le;
    vs = [];
    ran = at_rest start;
    noted = refl;
    quiet = λ e. refl;
    long = step.ready.long;
    below = rw (full start step.ready.long) at step.ready.below;
  }

  module _ (h place : List ℕ) (loud : Bool) (i : ℕ) (g : Going s table bytes start to h₀ h place loud i) where
    vs-long : length g.vs ≡ i
    vs-long =
        sym (length-map g.vs (ones_of 0 16)) ∙ ran-long (table_step 1 s table) g.ran
        ∙ length-take-le i bytes (omega (arith, g.most))

    pub going_step : steps.Step 1 s table starts place
    going_step = record {
      even = step.even;
      begins = step.begins;
      ready = record { room = step.ready.room; few = step.ready.few; long = g.long; below = rw (full place g.long) g.below };
    }

    pub going-ready : (next : List ℕ) → length next ≡ 8 → all_below s (take 8 next) ≡ true → Ready 1 8 s table next
    going-ready next e b = record { room = step.ready.room; few = step.ready.few; long = e; below = b }

    module _ (less : i < to) (next : List ℕ) (wide : length next ≡ 8) (e : take 8 next ≡ nexts 1 s table 0 (take 8 place) (get_or bytes i 0)) where
      moves : next ≡ nexts 1 s table 0 place (get_or bytes i 0)
      moves = rw (full next wide, full place g.long) at e

      pub going_more : all_below s (take 8 next) ≡ true → (v : ℕ) → v ≡ anded 65535 (vectors_at 1 s table 0 (take 8 next)) → (b : Bool) → b ≡ cond (eqb v 0) loud true
          → (h' : List ℕ) → h' ≡ set h i (bit_or v (get_or h i 0)) → Going s table bytes start to h₀ h' next b (i + 1)
      unfolding flagged
      going_more below v ev b eb h' eh =
          let sound : all_below s next ≡ true = rw (full next wide) at below in
          let vector : v ≡ anded 65535 (vectors_at 1 s table 0 next) = rw (full next wide) at ev in
          let goes : table_step 1 s table place (get_or bytes i 0) ≡ goes_to next (ones_of 0 16 v) =
          table_step-goes 1 s table place (get_or bytes i 0) (rw moves at sound) ∙ rw (← moves, ← vector) in
          let front : take (i + 1) bytes ≡ take i bytes ++ get_or bytes i 0 ∷ [] = rw (add-one i) (take-suc bytes i 0 (omega (arith, most))) in
          record {
            most = omega arith;
            vs = g.vs ++ v ∷ [];
            ran = rw (front, rows_snoc g.vs v) (ran_snoc (table_step 1 s table) g.ran (get_or bytes i 0) next (ones_of 0 16 v) goes);
            noted = eh ∙ rw g.noted (subst (λ (k : ℕ). set (ored g.vs h₀) k (bit_or v (get_or (ored g.vs h₀) k 0)) ≡ ored (g.vs ++ v ∷ []) h₀) vs-long
                (rw (ored-at g.vs h₀) (ored_snoc g.vs h₀ v)));
            quiet = λ z. eh ∙ quiet-more h₀ h i v loud g.quiet (sym eb ∙ z);
            long = wide;
            below = sound;
          }

      pub going-wrong : all_below s (take 8 next) ≡ false → Noted (table_step 1 s table) start (take to bytes) (record { at = i; place = start; loud = loud }) h₀ h
      going-wrong below =
          let damaged : table_step 1 s table place (get_or bytes i 0) ≡ is_damaged =
          table_step-wrong 1 s table place (get_or bytes i 0) (ap (all_below s) (sym moves) ∙ rw (full next wide) at below) in
          record {
            vs = g.vs;
            came = record {
              most = omega (arith, length-take-le to bytes most);
              at = place;
              ran = rw (take-take i to bytes g.most) g.ran;
              there = λ z. absurd (omega (arith, z, length-take-le to bytes most));
              wrong = λ l. rw (get_or-take to bytes i 0 less) damaged;
            };
            wide = refl;
            noted = g.noted;
            quiet = g.quiet;
          }

    pub going_end : to ≤ i → Noted (table_step 1 s table) start (take to bytes) (record { at = i; place = place; loud = loud }) h₀ h
    going_end more = record {
      vs = g.vs;
      came = record {
        most = omega (arith, length-take-le to bytes most, g.most);
        at = place;
        ran = rw (take-take i to bytes g.most) g.ran;
        there = λ z. refl;
        wrong = λ l. absurd (omega (arith, l, length-take-le to bytes most));
      };
      wide = g.long ∙ sym step.ready.long;
      noted = g.noted;
      quiet = g.quiet;
    }
