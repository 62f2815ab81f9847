-- What an expected reading amounts to, whatever is found and whatever its places are.
use Rattle.std.specs.Prelude.{◌+◌, ◌-◌, ◌<◌, ◌≤◌, suc, ℕ, true, List, [], ◌++◌, ◌∷◌, ◌⊎◌, ◌≡◌, refl, leb, length, take}
use Rattle.std.proofs.Math.Path.{ap}
use Rattle.std.proofs.Common.{arith}
use Rattle.matching.specs.Laws.Inputs.{all-by, done-by, input_step_lem}
pub use Rattle.matching.specs.Laws.Stepping.{leb_le, leb_lt}
use Rattle.matching.specs.Laws.Stepping.{le_is, read_by-took}
use Rattle.matching.specs.Occurrence.{occurrences_by}
use Rattle.matching.specs.Stepping.{OutcomeOf, expected_by, input_step, on_place, took_byte}
use Rattle.matching.specs.Words.{Word}
use Rattle.matching.specs.declared.Stop.TheVariants.{All, Full}

module _ {P : Type 0} (at : Word → P) (f : Word → List ℕ) where
  -- what a reading r of w after v has done
  pub record Done (v : Word) (count room : ℕ) (w : Word) (r : OutcomeOf P) : Type 0 where
    pub part : r.taken ≤ length w
    pub place : r.place ≡ at (v ++ take r.taken w)
    pub found : r.found ≡ occurrences_by f v count (take r.taken w)
    pub fits : length r.found ≤ room
    pub stopped : ((r.stop ≡ All) × (r.taken ≡ length w))
        ⊎ ((r.stop ≡ Full) × (r.taken < length w) × (room < length r.found + length (f (v ++ take (suc r.taken) w))))

  pub expected_done : (w v : Word) (count room : ℕ) → Done v count room w (expected_by at f v count room w)
  unfolding expected_by on_place
  expected_done w v count room =
      let d = done-by f w v count room in
      record {
        part = d.part;
        place = ap at d.place;
        found = d.found;
        fits = d.fits;
        stopped = d.stopped;
      }

  -- with room for them all, all are written
  pub expected_all : (w v : Word) (count room : ℕ) → length (occurrences_by f v count w) ≤ room
      → expected_by at f v count room w ≡ record { taken = length w; place = at (v ++ w); stop = All; found = occurrences_by f v count w }
  unfolding expected_by on_place
  expected_all w v count room h = ap (on_place at) (all-by f w v count room h)

  pub expected_took_byte : (v : Word) (count room c : ℕ) (w : Word) → leb (length (f (v ++ c ∷ []))) room ≡ true
      → expected_by at f v count room (c ∷ w)
      ≡ took_byte (suc count) (f (v ++ c ∷ [])) (expected_by at f (v ++ c ∷ []) (suc count) (room - length (f (v ++ c ∷ []))) w)
  unfolding expected_by on_place took_byte
  expected_took_byte v count room c w e = ap (on_place at) (read_by-took (input_step f) v count room c w _ _ (input_step_lem f v c) e)

  -- with room for what is found at each byte, a piece that is not empty advances
  pub expected_advances : (most : ℕ) → ((v : Word) → length (f v) ≤ most) → (c : ℕ) (w v : Word) (count room : ℕ) → most ≤ room
      → 0 < (expected_by at f v count room (c ∷ w)).taken
  unfolding took_byte
  expected_advances most few c w v count room h =
      rw (expected_took_byte v count room c w (le_is (length (f (v ++ c ∷ []))) room (omega (arith, few (v ++ c ∷ []), h)))) (omega arith)

-- two readings that differ at most in their places, as those over two layouts do
pub record Alike {P Q : Type 0} (a : OutcomeOf P) (b : OutcomeOf Q) : Type 0 where
  pub taken : a.taken ≡ b.taken
  pub stop : a.stop ≡ b.stop
  pub found : a.found ≡ b.found

-- the bytes taken, the stop and the records do not depend on what the places are
pub expected_alike : {P Q : Type 0} (at : Word → P) (to : Word → Q) (f : Word → List ℕ) (w v : Word) (count room : ℕ)
    → Alike (expected_by at f v count room w) (expected_by to f v count room w)
unfolding expected_by on_place
expected_alike at to f w v count room = record { taken = refl; stop = refl; found = refl }
