-- Refusals in their order: a number is given exactly if its ground is the first that holds.
use Rattle.std.specs.Prelude.{◌<◌, suc, zero, ℕ, Bool, cond, false, true, List, [], ◌∷◌, ◌↔◌, ◌≡◌, refl}
use Rattle.std.proofs.Common.{arith}
use Rattle.matching.specs.Laws.Bools.{not-both}
use Rattle.matching.specs.Refusal.{First, Ground, first_of, ground_at}

-- the first among the rest, behind a ground that does not hold
later : (g : Ground) (gs : List Ground) (n : ℕ) → g.holds ≡ false → First gs n → First (g ∷ gs) n
later g gs n e f = record { place = suc f.place; numbered = f.numbered; holds = f.holds; none_before = before }
  where
    before : (i : ℕ) → i < suc f.place → (ground_at (g ∷ gs) i).holds ≡ false
    before zero h = e
    before (suc i) h = f.none_before i (omega arith)

given-first : (gs : List Ground) (n : ℕ) → 0 < n → first_of gs ≡ n → First gs n
unfolding first_of
given-first [] n p e = absurd (omega arith)
given-first (g ∷ gs) n p e = go g.holds refl e (given-first gs n p)
  where
    go : (b : Bool) → g.holds ≡ b → cond b g.number (first_of gs) ≡ n → (first_of gs ≡ n → First gs n) → First (g ∷ gs) n
    go true q e ih = record { place = 0; numbered = e; holds = q; none_before = λ i h. absurd (omega arith) }
    go false q e ih = later g gs n q (ih e)

first-given : (gs : List Ground) (n i : ℕ) → (ground_at gs i).number ≡ n → (ground_at gs i).holds ≡ true
    → ((j : ℕ) → j < i → (ground_at gs j).holds ≡ false) → first_of gs ≡ n
unfolding first_of
first-given [] n i e t f = absurd (not-both t refl)
first-given (g ∷ gs) n zero e t f = rw t e
first-given (g ∷ gs) n (suc i) e t f = rw (f 0 (omega arith)) (first-given gs n i e t (λ j h. f (suc j) (omega arith)))

-- EACH NUMBER IS GIVEN EXACTLY IF ITS GROUND HOLDS AND NONE EARLIER IN THE ORDER DOES
pub first_of_iff : (gs : List Ground) (n : ℕ) → 0 < n → (first_of gs ≡ n) ↔ First gs n
first_of_iff gs n p = (given-first gs n p, λ f. first-given gs n f.place f.numbered f.holds f.none_before)
