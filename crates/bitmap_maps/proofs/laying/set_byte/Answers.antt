-- The byte's word with its bit in it.
use Prim.Native.Nat.{◌%◌, ◌*◌, ◌+◌, ◌/◌, ◌^◌, ℕ}
use mathlib.Core.List.{List}
use mathlib.Core.Path.{◌≡◌, ap₂}
use native.Mathlib.Nat.{mod-lt}
use lib.Bits.{bit_or}
use lib.Dec.{lit<}
use lib.ListN.{get_or, set}
use Rattle.bitmap.specs.Laws.Loops.{shifted}
use Rattle.bitmap.specs.Steps.{number_at}
use Rattle.bitmap_maps.specs.Laid.{with_byte}
use Rattle.bitmap_maps.proofs.laying.set_byte.Goals as goal

-- what the code stores
stored : (table : List ℕ) (q j c : ℕ) → j ≡ c / 16
    → set table (q * 19 + j) (bit_or (get_or table (q * 19 + j) 0) (1 * 2 ^ (c % 16) % 2 ^ 16)) ≡ with_byte table q c
unfolding with_byte number_at
stored table q j c e =
    ap₂ (λ (i y : ℕ). set table (q * 19 + i) (bit_or (get_or table (q * 19 + i) 0) y)) e (shifted (c % 16) (mod-lt c (lit< tt)))

pub returns : goal.returns
returns c = stored c.args.table.now c.args.q c.from.result c.args.c c.from.ensures
