-- What the numbers of a part of the code must be to each other.
use Rattle.std.specs.Prelude.{◌+◌, ◌<◌, ◌^◌, ℕ, ◌≡◌}
use Rattle.matching.specs.Slicing.{Slicing}

-- machines of so many bits read the bits of a byte; and there are the letters that the bits make, and the mask that leaves these
pub record Sliced (bits machines first letters mask : ℕ) : Type 0 where
  pub slicing : Slicing bits machines
  pub letters_are : letters ≡ 2 ^ bits
  pub mask_is : mask + 1 ≡ letters
  pub named : first < 256
