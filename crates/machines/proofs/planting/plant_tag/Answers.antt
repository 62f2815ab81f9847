-- `machines::planting::plant_tag` meets its contract. The first `i` letters of the tag are in the tree, and `q` is their state.
use native.Mathlib.Omega.{arith}
use lib.ListN.{length}
use Rattle.machines.proofs.Tree.{Here, path_start, plant_here, plant_more, plant_row}
use Rattle.machines.proofs.planting.plant_tag.Goals as goal
use Rattle.machines.proofs.planting.plant_tag.Goals.{After-from}

pub loop-i-init : goal.loop-i-init
loop-i-init c = path_start _ _ _ _ _ c.requires.1.planted

pub overflow_mul-at : goal.overflow_mul-at
overflow_mul-at c =
    omega (
      arith,
      plant_row c.requires.1 c.requires.0 c.tag-tag.result.now c.tag-tag.ensures c.loop-i.auto.part c.loop-i.invariant c.loop-i-test.true,
    )

here : (c : After-from) → Here c.args.m c.loop-i.q c.from.result c.loop-i.k (length c.loop-i.part)
here c =
    plant_here c.requires.1 c.requires.0 c.tag-tag.result.now c.tag-tag.ensures c.loop-i.auto.part c.loop-i.invariant c.loop-i-test.true
    c.from.result c.from.ensures

pub overflow_add-at : goal.overflow_add-at
overflow_add-at c = omega (arith, (here c).small)

pub sow-k-requires : goal.sow-k-requires
sow-k-requires c =
    let h = plant_here c.requires.1 c.requires.0 c.tag-tag.result.now c.tag-tag.ensures c.loop-i.auto.part c.loop-i.invariant c.loop-i-test.true
    c.from.result c.from.ensures in (h.room, omega (arith, h.few))

pub offset_bounds-part-at : goal.offset_bounds-part-at
offset_bounds-part-at c =
    let h = plant_here c.requires.1 c.requires.0 c.tag-tag.result.now c.tag-tag.ensures c.loop-i.auto.part c.loop-i.invariant c.loop-i-test.true
    c.from.result c.from.ensures in omega (arith, h.small)

pub bounds-part-at : goal.bounds-part-at
bounds-part-at c =
    let h = plant_here c.requires.1 c.requires.0 c.tag-tag.result.now c.tag-tag.ensures c.loop-i.auto.part c.loop-i.invariant c.loop-i-test.true
    c.from.result c.from.ensures in omega (arith, h.room, c.sow-k.auto.part)

pub loop-i-preserved : goal.loop-i-preserved
loop-i-preserved c =
    plant_more c.requires.1 c.requires.0 c.tag-tag.result.now c.tag-tag.ensures c.loop-i.auto.part c.loop-i.invariant c.loop-i-test.true
    c.from.result _ _ _ c.from.ensures c.sow-k.ensures.0 c.sow-k.ensures.1 c.from-q.ensures
