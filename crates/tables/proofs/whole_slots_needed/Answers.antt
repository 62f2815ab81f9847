-- `tables::whole_slots_needed` meets its contract. By the set's fault, or what its tags need.
use Rattle.std.proofs.Common.{refl}
use Rattle.std.proofs.lemmas.Result.{err_from_is_err_and}
use Rattle.matching.specs.Parts.{whole_layout}
use Rattle.tables.proofs.Answers.{fault-needed, good-needed}
use Rattle.tables.proofs.Held.{whole_taken}
use Rattle.tables.proofs.whole_slots_needed.Goals as goal

pub returns-in_err-good : goal.returns-in_err-good
returns-in_err-good c =
    let (fault, is, same) = err_from_is_err_and c.from_residual.result c.from_residual.ensures.1 in
    rw (is, same) (fault-needed whole_layout c.args.set.now (whole_taken _ c.in_err-good.ensures))

pub returns : goal.returns
returns c = good-needed whole_layout c.args.set.now (whole_taken _ c.in_ok-good.ensures.1) _ _ c.part_needs.ensures refl
