-- The three numbers that are written.
use Prim.Native.Nat.{◌*◌, ◌+◌, ℕ}
use mathlib.Core.Path.{ap}
use native.Mathlib.Omega.{arith}
use lib.ListN.{get_or}
use Rattle.bitmap.specs.Laws.Loops.{shifted}
use Rattle.bitmap.specs.Steps.{number_at}
use Rattle.bitmap_growing.specs.Growing.{placed}
use Rattle.bitmap_growing.proofs.sowing.place.Goals as goal

pub overflow_add-mask-2 : goal.overflow_add-mask-2
unfolding number_at
overflow_add-mask-2 c = let a = c.args in omega (arith, shifted a.u c.requires.3, c.requires.4)

pub returns : goal.returns
unfolding number_at
returns c =
    let a = c.args in
    ap (λ (x : ℕ). placed a.table.now a.r a.d a.f (get_or a.table.now (a.r * 19 + 18) 0 + x)) (shifted a.u c.requires.3)
