-- `tagset::distinct_tags` meets its contract. The set is folded into a run of its own, which is as long.
use Rattle.kinds.specs.Laws.Folding.{folded_front}
use Rattle.tagset.proofs.distinct_tags.Goals as goal

pub invariant_of-tags : goal.invariant_of-tags
invariant_of-tags c =
    record { lying = record { cut = c.requires; folds = folded_front c.args.set.now c.fold_all.new.out _ c.fold_all.ensures } }
