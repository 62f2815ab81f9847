-- The tags that end somewhere in some bytes, as one number.
use Rattle.std.specs.Prelude.{ℕ, zero, suc, ◌+◌, ◌*◌, Bool, ◌||◌, cond, false, length, take}
use Rattle.matching.specs.Tags.{Tags, tag_ends}
use Rattle.matching.specs.Words.{Word}

-- one of the numbers 1 to n passes a test
unfoldable pub any_up_to : ℕ → (ℕ → Bool) → Bool
any_up_to zero f = false
any_up_to (suc n) f = f (suc n) || any_up_to n f

-- tag i ends somewhere in the bytes
abbrev pub carried : Tags → Word → ℕ → Bool
carried tags bytes i = any_up_to (length bytes) (λ e. tag_ends tags i (take e bytes))

-- the number of n bits of which bit i is 1 where i passes a test, and else 0
unfoldable pub number_of : ℕ → (ℕ → Bool) → ℕ
number_of zero f = 0
number_of (suc n) f = number_of n (λ i. f (suc i)) * 2 + cond (f 0) 1 0

-- bit i is 1 exactly if tag i ends somewhere in the bytes
abbrev pub mask_of : Tags → Word → ℕ
mask_of tags bytes = number_of 64 (carried tags bytes)
