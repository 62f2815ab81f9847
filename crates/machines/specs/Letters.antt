-- The letters that a machine sees, and how the code compares words.
use Rattle.std.specs.Prelude.{◌-◌, ◌/◌, ◌^◌, ℕ, Bool, ◌&&◌, eqb, ltb, get_or, length}
use Rattle.std.specs.Int.Bits.{bit_and}
use Rattle.matching.specs.Words.{Word}

-- what is left of a byte after a shift and a mask
abbrev pub letter_by : ℕ → ℕ → ℕ → ℕ
letter_by shift mask c = bit_and (c / 2 ^ shift) mask

-- the letters at place i from the ends of a word and a tag are there and the same
abbrev pub agree_at : Word → Word → ℕ → Bool
agree_at w t i = ltb i (length w) && eqb (get_or w (length w - 1 - i) 0) (get_or t (length t - 1 - i) 0)
