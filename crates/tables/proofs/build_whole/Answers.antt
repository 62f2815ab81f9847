-- `tables::build_whole` meets its contract. By the set's fault, then its one part, and then its tags.
use mathlib.Core.Bool.{true}
use mathlib.Core.List.{[], ◌∷◌}
use lib.ListN.{length}
use Rattle.std.proofs.Common.{◌∙◌}
use Rattle.std.proofs.lemmas.Result.{err_from_is_err_and}
use Rattle.matching.specs.Kinds.{exact_kind}
use Rattle.matching.specs.Parts.{Part, part, whole_layout}
use Rattle.choosing.specs.Choosing.{lying_in}
use Rattle.tables.proofs.Answers.{alone, done-answer, done-tables, one_table, room-enough, room-refused, set-refused}
use Rattle.tables.proofs.OnePart.{tags-many}
use Rattle.tables.proofs.Held.{whole_taken}
use Rattle.tables.proofs.build_whole.Goals as goal

abbrev only_part : Part
only_part = part exact_kind 8 1 254

pub returns-in_err-good : goal.returns-in_err-good
returns-in_err-good c =
    let (fault, is, same) = err_from_is_err_and c.from_residual.result c.from_residual.ensures.1 in
    let r = set-refused whole_layout c.args.set.now (whole_taken _ c.in_err-good.ensures) true (c.args.table.now ∷ []) in
    record { answer = rw (is, same) r.answer; left = r.left }

pub returns-in_err-judge_part : goal.returns-in_err-judge_part
returns-in_err-judge_part c =
    let (fault, is, same) = err_from_is_err_and c.from_residual-in_err-judge_part.result c.from_residual-in_err-judge_part.ensures.1 in
    let e = c.in_err-judge_part.ensures ∙ alone _ only_part (length c.args.table.now) in
    let r = room-refused whole_layout c.args.set.now (whole_taken _ c.in_ok-good.ensures.1) _ true (c.args.table.now ∷ []) e in
    record { answer = rw (is, same) r.answer; left = r.left }

pub fill_part-requires : goal.fill_part-requires
fill_part-requires c =
    (room-enough whole_layout c.args.set.now (whole_taken _ c.in_ok-good.ensures.1) (c.args.table.now ∷ [])
    (c.in_ok-judge_part.ensures ∙ alone _ only_part (length c.args.table.now))).0

pub returns : goal.returns
returns c =
    let a = c.args in
    let good = c.in_ok-good.good in
    let tags = lying_in good.bytes.now good.places in
    let enough = c.in_ok-judge_part.ensures ∙ alone tags only_part (length a.table.now) in
    record {
      answer = done-answer whole_layout a.set.now (whole_taken _ c.in_ok-good.ensures.1) (a.table.now ∷ []) enough _ (tags-many good.held);
      left = done-tables whole_layout a.set.now (whole_taken _ c.in_ok-good.ensures.1) (a.table.now ∷ []) enough _
          (one_table tags only_part a.table.now _ c.fill_part.ensures);
    }
