-- `tables::slots_needed` meets its contract. By the set's fault, or what its tags need.
use Rattle.std.proofs.lemmas.Result.{err_from_is_err_and}
use Rattle.matching.specs.Parts.{split_layout}
use Rattle.tables.proofs.Answers.{fault-needed, good-needed}
use Rattle.tables.proofs.Held.{split-taken}
use Rattle.tables.proofs.slots_needed.Goals as goal

pub returns-in_err-good : goal.returns-in_err-good
returns-in_err-good c =
    let (fault, is, same) = err_from_is_err_and c.from_residual.result c.from_residual.ensures.1 in
    rw (is, same) (fault-needed split_layout c.args.set.now (split-taken _ c.in_err-good.ensures))

pub returns : goal.returns
returns c = good-needed split_layout c.args.set.now (split-taken _ c.in_ok-good.ensures.1) _ _ c.part_needs.ensures c.part_needs-2.ensures
