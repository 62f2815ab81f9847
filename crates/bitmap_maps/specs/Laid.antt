-- A slot before its map is laid, and after.
use Rattle.std.specs.Prelude.{◌%◌, ◌*◌, ◌+◌, ◌/◌, ◌<◌, ◌^◌, ◌≤◌, ℕ, Bool, ◌&&◌, false, true, List, [], ◌++◌, ◌∷◌, ◌≡◌, ltb, get_or, length, set}
use Rattle.std.specs.Int.Bits.{bit_or}
use Rattle.matching.specs.Words.{Word, begins_one}
use Rattle.bitmap.specs.Slots.{bits_from}
use Rattle.bitmap.specs.Steps.{number_at}

-- a slot q of the table whose map is zeros but for its first number, which may be any
pub record Unlaid (q : ℕ) (table : List ℕ) : Type 0 where
  pub room : q * 19 + 18 < length table
  pub bare : (j : ℕ) → 0 < j → j < 16 → number_at table q j ≡ 0

-- slot q has the map of the word p among the tags ts, and all other cells are as they were
pub record MapLaid (ts : List Word) (p : Word) (q : ℕ) (before after : List ℕ) : Type 0 where
  pub map : (j : ℕ) → j < 16 → number_at after q j ≡ bits_from (λ x. begins_one (p ++ x ∷ []) ts) (j * 16) 16
  pub low : (i : ℕ) → i < q * 19 → get_or after i 0 ≡ get_or before i 0
  pub high : (i : ℕ) → q * 19 + 16 ≤ i → get_or after i 0 ≡ get_or before i 0
  pub long : length after ≡ length before

-- a table with byte c in the map of slot q
unfoldable pub with_byte : List ℕ → ℕ → ℕ → List ℕ
with_byte table q c = set table (q * 19 + c / 16) (bit_or (number_at table q (c / 16)) (2 ^ (c % 16)))

-- one tag more: where it goes through a word of d letters and is longer, its byte behind them is in the map
pub record TagLaid (tag : Word) (q d : ℕ) (goes : Bool) (before after : List ℕ) : Type 0 where
  pub on : (goes && ltb d (length tag)) ≡ true → (get_or tag d 0 < 256) × (after ≡ with_byte before q (get_or tag d 0))
  pub off : (goes && ltb d (length tag)) ≡ false → after ≡ before
