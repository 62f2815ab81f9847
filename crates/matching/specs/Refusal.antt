-- Refusals in their order (docs/RULES.md, 7): each is given exactly if its condition holds and none earlier does.
use Rattle.std.specs.Prelude.{ℕ, ◌<◌, Bool, true, false, cond, List, [], ◌∷◌, ◌≡◌, get_or}

-- a ground for refusing: its number in the rules' table, and whether its condition holds
pub record Ground : Type 0 where
  pub number : ℕ
  pub holds : Bool

infix 20 ◌if◌
abbrev pub ◌if◌ : ℕ → Bool → Ground
◌if◌ n b = record { number = n; holds = b }

-- the number given: that of the first ground whose condition holds; 0 where none does
unfoldable pub first_of : List Ground → ℕ
first_of [] = 0
first_of (g ∷ gs) = cond g.holds g.number (first_of gs)

-- the ground in place i of the order; past the last, one that never holds
abbrev pub ground_at : List Ground → ℕ → Ground
ground_at gs i = get_or gs i (0 if false)

-- a ground numbered n holds, and none before it in the order does
pub record First (gs : List Ground) (n : ℕ) : Type 0 where
  pub place : ℕ
  pub numbered : (ground_at gs place).number ≡ n
  pub holds : (ground_at gs place).holds ≡ true
  pub none_before : (i : ℕ) → i < place → (ground_at gs i).holds ≡ false
