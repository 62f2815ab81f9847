-- One byte of a reading, over any run of numbers.
use Rattle.std.specs.Prelude.{◌+◌, ℕ, List, ◌≡◌}
use Rattle.std.proofs.Math.Path.{ap}
use Rattle.matching.specs.Reading.{ones_of}
use Rattle.matching.specs.Stepping.{goes_to, is_damaged}
use Rattle.bitmap.specs.Steps.{To, Wrong, step, vector_at}
use Rattle.bitmap_reading.specs.Reading.{landed, map_step}

module _ (s : ℕ) (table : List ℕ) (q k c : ℕ) where
  pub map-goes : (n m : ℕ) → step s table q c ≡ To n m
      → map_step s table (record { state = q; moves = k }) c ≡ goes_to (record { state = n; moves = k + m }) (ones_of 0 16 (vector_at table n))
  unfolding map_step
  map-goes n m e = ap (landed table k) e

  pub map-wrong : step s table q c ≡ Wrong → map_step s table (record { state = q; moves = k }) c ≡ is_damaged
  unfolding map_step
  map-wrong e = ap (landed table k) e
