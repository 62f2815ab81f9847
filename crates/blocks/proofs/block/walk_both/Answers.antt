-- One table, then the other.
use Rattle.std.proofs.Common.{arith}
use Rattle.blocks.specs.Laws.Both.{both_walked, first_able, second_able}
use Rattle.blocks.proofs.block.walk_both.Goals as goal

pub walk-second-requires : goal.walk-second-requires
walk-second-requires c =
    let t = c.args.tables.now in
    rw c.part_of.ensures (second_able _ _ _ _ _ _ _ _ _ t.exact.long t.folded.long c.requires.split_fits.0 _ _ c.requires.split_fits.1
    c.requires.block_len_bound.0 _ c.requires.block_len_bound.1)

pub walk-first-requires : goal.walk-first-requires
walk-first-requires c =
    let t = c.args.tables.now in
    rw c.part_of-2.ensures (first_able _ _ _ _ _ _ _ _ _ t.exact.long t.folded.long c.requires.split_fits.0 _ _ c.requires.split_fits.1
    c.requires.block_len_bound.0 _ c.requires.block_len_bound.1 c.walk-second.result _ (rw c.part_of.ensures at c.walk-second.ensures))

pub returns : goal.returns
returns c =
    let t = c.args.tables.now in
    rw c.joined.ensures (both_walked _ _ _ _ _ _ _ _ _ t.exact.long t.folded.long c.requires.split_fits.0 _ _ c.requires.split_fits.1
    c.requires.block_len_bound.0 _ c.requires.block_len_bound.1 c.walk-second.result _ (rw c.part_of.ensures at c.walk-second.ensures)
    c.walk-first.result _ (rw c.part_of-2.ensures at c.walk-first.ensures) (omega arith) (omega arith))
