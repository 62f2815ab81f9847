-- Begun, and then grown.
use native.Mathlib.Omega.{arith}
use mathlib.Core.Path.{sym}
use Rattle.bitmap_growing.specs.Laws.Settling.{begin_fits, begun_growing}
use Rattle.bitmap_growing.proofs.make_bitmap.Goals as goal

pub begin-requires : goal.begin-requires
begin-requires c =
    let p = c.requires in (begin_fits p.0 (omega (arith, p.1, p.2)) p.3, omega (arith, p.0.few))

pub grow-requires : goal.grow-requires
grow-requires c =
    let p = c.requires in (p.1, begun_growing p.0 (omega (arith, p.1, p.2)) p.3 (sym c.count.ensures.counted) c.begin.ensures)
