-- The whole reading is what is done and then what is left, from the place at byte i.
use Rattle.reading.specs.Laws.Blocks.{blockwise_all, blockwise_end, blockwise_more, blockwise_part}
use Rattle.reading.specs.Laws.Blocks.{blockwise_start, blockwise_stops}
use Rattle.reading.specs.Laws.Walks.{split_right}
use mathlib.Core.Path.{◌∙◌}
use native.Mathlib.Omega.{arith}
use Rattle.reading.proofs.split.on_blocks.Goals as goal

pub loop-i-init : goal.loop-i-init
loop-i-init c = blockwise_start _ _ _ _ _ _ _ _ c.requires.split_fits _ c.requires.piece_bound.1

pub overflow_add-i : goal.overflow_add-i
overflow_add-i c =
    let z = blockwise_part _ _ _ _ _ _ _ _ _ _ _ _ _ c.loop-i.invariant _ c.block_end-to.ensures.0 c.block_end-to.ensures.1.0
    c.read_block-r.result _ _ c.read_block-r.ensures in
    omega (arith, z, c.block_end-to.ensures)

pub loop-i-smaller : goal.loop-i-smaller
loop-i-smaller c =
    let z = blockwise_all _ _ _ _ _ _ _ _ _ _ _ _ _ c.loop-i.invariant _ c.block_end-to.ensures.0 c.block_end-to.ensures.1.0
    c.read_block-r.result _ _ c.read_block-r.ensures c.in-All.is in
    omega (arith, z, c.block_end-to.ensures.1.1.1 c.loop-i-test.true, c.block_end-to.ensures)

pub loop-i-preserved : goal.loop-i-preserved
loop-i-preserved c =
    blockwise_more _ _ _ _ _ _ _ _ _ _ _ _ _ c.loop-i.invariant _ c.block_end-to.ensures.0 c.block_end-to.ensures.1.0
    c.read_block-r.result _ _ c.read_block-r.ensures c.in-All.is

pub returns-in_default : goal.returns-in_default
returns-in_default c =
    let ends = blockwise_stops _ _ _ _ _ _ _ _ _ _ _ _ _ c.loop-i.invariant _ c.block_end-to.ensures.0 c.block_end-to.ensures.1.0
    c.read_block-r.result _ _ c.read_block-r.ensures
    c.in_default.not-All in
    let z = split_right _ _ _ _ _ _ _ ends in
    (c.stopped.ensures ∙ z.0, z.1)

pub returns : goal.returns
returns c =
    let z = split_right _ _ _ _ _ _ _ (blockwise_end _ _ _ _ _ _ _ _ _ _ _ _ _ c.loop-i.invariant c.loop-i-test.false) in
    (c.stopped-2.ensures ∙ z.0, z.1)
