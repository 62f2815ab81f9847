-- The second table reads the folded copy, or nothing.
use Rattle.blocks.specs.Laws.Parts.{letters-split, near_front}
use lib.ListN.{replicate}
use mathlib.Core.Bool.{true≢false}
use mathlib.Core.Path.{◌∙◌, sym}
use native.Mathlib.Nat.{sub-zero}
use Rattle.blocks.proofs.block.walk_block.Goals as goal

pub walk_both-requires-clause-split_fits : goal.walk_both-requires-clause-split_fits
walk_both-requires-clause-split_fits c =
    (c.requires.split_fits, letters-split _ _ _ (λ e. absurd (true≢false (sym e ∙ c.if-is_none.ensures))))

pub walk_both-requires-2-clause-split_fits : goal.walk_both-requires-2-clause-split_fits
walk_both-requires-2-clause-split_fits c =
    (c.requires.split_fits, letters-split _ _ _ (λ e. rw sub-zero at (near_front c.args.block.now (replicate 256 0) _ c.fold_all.ensures)))
