-- What every reading keeps, over any table, ours or not.
use Rattle.std.specs.Prelude.{◌<◌, ℕ, false, true, List, ◌⊎◌, ◌≡◌}
use Rattle.std.proofs.Common.{inl, inr, ◌∙◌, sym, arith}
use Rattle.std.proofs.Math.Path.{subst}
use Rattle.matching.specs.Laws.Bools.{decided}
use Rattle.matching.specs.Laws.Readings.{table_step-goes, table_step-wrong}
use Rattle.matching.specs.Laws.Stepping.{Rising, every_map}
use Rattle.matching.specs.Laws.Stepping.{Every}
use Rattle.matching.specs.Reading.{all_below, flagged, nexts, ones_of, table_step, vectors_at}
use Rattle.matching.specs.Slicing.{anded}
use Rattle.matching.specs.Stepping.{goes_to}
use Rattle.matching.specs.Laws.AnyTable.{ones_of-within, ones_of_rising, Moved}

-- ---- what a table's step tells

module _ (n s : ℕ) (table place : List ℕ) (c : ℕ) where
  pub moved : (to tags : List ℕ) → table_step n s table place c ≡ goes_to to tags → Moved n s table place c to tags
  moved to tags e = go (decided (all_below s (nexts n s table 0 place c)))
    where
      go : (all_below s (nexts n s table 0 place c) ≡ true) ⊎ (all_below s (nexts n s table 0 place c) ≡ false) → Moved n s table place c to tags
      go (inl b) =
          let z = sym (table_step-goes n s table place c b) ∙ e in
          let at : nexts n s table 0 place c ≡ to = cc in
          record {
            there = at;
            below = subst (λ (x : List ℕ). all_below s x ≡ true) at b;
            marks =
                (let q : flagged n s table (nexts n s table 0 place c) ≡ tags = cc in rw at at q);
          }
      go (inr b) = absurd (let y = sym (table_step-wrong n s table place c b) ∙ e in let z : ◌≡◌ {A = ℕ} 0 1 = cc in omega arith)

  -- the tags of a step rise, and are below 16
  pub moved_rising : (to tags : List ℕ) → table_step n s table place c ≡ goes_to to tags → Rising tags
  unfolding flagged
  moved_rising to tags e = subst Rising (moved to tags e).marks (ones_of_rising 16 0 (anded 65535 (vectors_at n s table 0 to)))

  pub moved-tags : (to tags : List ℕ) → table_step n s table place c ≡ goes_to to tags → Every (λ i. i < 16) tags
  unfolding flagged
  moved-tags to tags e = subst (Every (λ i. i < 16)) (moved to tags e).marks
      (every_map _ (λ i. i < 16) (ones_of 0 16 (anded 65535 (vectors_at n s table 0 to))) (λ j h. omega (arith, h.1))
      (ones_of-within 16 0 (anded 65535 (vectors_at n s table 0 to))))
