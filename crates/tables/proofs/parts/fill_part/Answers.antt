-- `tables::parts::fill_part` meets its contract.
use native.Mathlib.Omega.{arith}
use lib.ListN.{length}
use Rattle.tables.proofs.OnePart.{kinds-many, part-enough, part_left}
use Rattle.tables.proofs.Seen.{slots-room}
use Rattle.tables.specs.Shape.{shape}
use Rattle.tables.proofs.parts.fill_part.Goals as goal

pub fill-requires : goal.fill-requires
fill-requires c =
    let a = c.args in
    let (is, reads, chosen) = c.of.ensures in
    let held = a.good.now.held in
    rw is (
      omega (arith, kinds-many held, held.fit.few),
      slots-room (shape a.part) (length a.table.now) _ c.slots-s.ensures,
      part-enough a.part held _ chosen _ reads a.table.now _ c.slots-s.ensures c.requires,
    )

pub returns : goal.returns
returns c =
    let a = c.args in
    let (is, reads, chosen) = c.of.ensures in
    part_left a.part a.good.now.held _ chosen _ reads a.table.now _ c.slots-s.ensures _ (rw is at c.fill.ensures)
