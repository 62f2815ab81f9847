-- BYTES: `-`, or x and an even number of hexadecimal digits in lower case, or a quotation.
use Rattle.std.specs.Prelude.{ℕ, ◌+◌, ◌*◌, ◌%◌, Bool, true, false, ◌&&◌, cond, List, [], ◌∷◌, eqb, length, take, Option, Some, None}
use Rattle.script.specs.Words.{reach}
use Rattle.script.specs.Numbers.{digit_of, all_digits}

-- what an answer means beside the buffer that the bytes were put in
abbrev pub bytes_in : List ℕ → Option ℕ → Option (List ℕ)
bytes_in buffer (Some n) = Some (take n buffer)
bytes_in buffer None = None

-- how many bytes an answer says
abbrev pub count_of : Option ℕ → ℕ
count_of (Some n) = n
count_of None = 0

abbrev pub bytes_by : List ℕ → Bool → Option (List ℕ)
bytes_by bytes true = Some bytes
bytes_by bytes false = None

-- two digits make a byte
unfoldable pub pairs : List ℕ → List ℕ
pairs [] = []
pairs (h ∷ []) = []
pairs (h ∷ l ∷ more) = (digit_of h * 16 + digit_of l) ∷ pairs more

-- an even number, 0 too, of hexadecimal digits
unfoldable pub hex_of : List ℕ → Option (List ℕ)
hex_of digits = bytes_by (pairs digits) (eqb (length digits % 2) 0 && all_digits 16 digits)

-- behind a first quotation mark: any bytes but a quotation mark, and one as the last
unfoldable pub quoted_of : List ℕ → Option (List ℕ)
quoted_of rest = bytes_by (take (reach 34 rest) rest) (eqb (reach 34 rest + 1) (length rest))

-- a whole word of bytes: its first byte says how they are written
unfoldable pub bytes_of : List ℕ → Option (List ℕ)
bytes_of [] = None
bytes_of (b ∷ rest) =
    cond (eqb b 45) (bytes_by [] (eqb (length rest) 0))
    (cond (eqb b 120) (hex_of rest) (cond (eqb b 34) (quoted_of rest) None))
