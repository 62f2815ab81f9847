-- NUMBER: one or more decimal digits, leading zeros allowed, at most as large as the call allows.
use Rattle.std.specs.Prelude.{ℕ, ◌+◌, ◌*◌, ◌-◌, Bool, true, false, ◌&&◌, not, cond, List, [], ◌∷◌, eqb, leb, ltb, length, Option, Some, None}
use Rattle.script.specs.Words.{word_of, behind}

-- what a digit counts: 0 to 9, and a to f for 10 to 15; any other byte is no digit and counts 16
unfoldable pub digit_of : ℕ → ℕ
digit_of b = cond (leb 48 b && leb b 57) (b - 48) (cond (leb 97 b && leb b 102) (b - 87) 16)

-- each of the bytes is a digit below base
unfoldable pub all_digits : ℕ → List ℕ → Bool
all_digits base [] = true
all_digits base (x ∷ xs) = ltb (digit_of x) base && all_digits base xs

-- decimal digits behind those that made n
unfoldable pub value_from : ℕ → List ℕ → ℕ
value_from n [] = n
value_from n (x ∷ xs) = value_from (n * 10 + digit_of x) xs

abbrev pub number_by : ℕ → Bool → Option ℕ
number_by n true = Some n
number_by n false = None

-- a word as a number of at most `most`
unfoldable pub number_of : ℕ → List ℕ → Option ℕ
number_of most word = number_by (value_from 0 word) (not (eqb (length word) 0) && (all_digits 10 word && leb (value_from 0 word) most))

abbrev pub both_by : Option ℕ → Option ℕ → Option (ℕ × ℕ)
both_by (Some n) (Some m) = Some (n, m)
both_by (Some n) None = None
both_by None second = None

-- the word at the front as a number of at most `first`, and the next one as a number of at most `last`
unfoldable pub numbers_of : ℕ → ℕ → List ℕ → Option (ℕ × ℕ)
numbers_of first last words = both_by (number_of first (word_of words)) (number_of last (word_of (behind words)))
