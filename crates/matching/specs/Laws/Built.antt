-- The start of every machine.
use Rattle.std.specs.Prelude.{suc, zero, ℕ, List, [], ◌∷◌, ◌≡◌, refl, replicate}
use Rattle.std.proofs.Common.{ap}
use Rattle.matching.specs.Machine.{walk}
use Rattle.matching.specs.Reading.{place_after}
use Rattle.matching.specs.Words.{Word}

-- at the opening of an input every machine is in state 0
pub place_after-start : (n : ℕ) (ts : List Word) (m k : ℕ) → place_after n ts m k [] ≡ replicate k 0
unfolding place_after walk
place_after-start n ts m zero = refl
place_after-start n ts m (suc k) = ap {B = List ℕ} (λ (l : List ℕ). 0 ∷ l) (place_after-start n ts (suc m) k)
