-- The bits of records in a mask, tag i being bit i.
use Rattle.std.specs.Prelude.{ℕ, ◌%◌, ◌^◌, List, [], ◌∷◌}
use Rattle.std.specs.Int.Bits.{bit_or}
use Rattle.desk.specs.declared.Record.{Record}

-- a mask with the bit of each of some records set; a desk's tags are below 64
unfoldable pub with_bits : ℕ → List Record → ℕ
with_bits m [] = m
with_bits m (r ∷ rs) = with_bits (bit_or m (2 ^ (r.tag.0 % 64))) rs
