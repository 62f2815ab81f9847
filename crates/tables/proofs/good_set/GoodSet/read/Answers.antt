-- `tables::good_set::GoodSet::read` meets its contract. By what reading the set answers.
use Rattle.std.proofs.Common.{◌∙◌, ap, refl, sym}
use Rattle.tagset.specs.Grammar.{good_set}
use Rattle.tagset.specs.Laws.Lent.{bad_read, good-read}
use Rattle.tagset.specs.Laws.Places.{below_all}
use Rattle.tables.proofs.Held.{good-held, good-small, set_folded}
use Rattle.std.proofs.lemmas.Result.{err_from_is_err_and}
use Rattle.tables.proofs.good_set.GoodSet.read.Goals as goal

pub returns-in_err-places : goal.returns-in_err-places
returns-in_err-places c =
    let (fault, is, same) = err_from_is_err_and c.from_residual.result c.from_residual.ensures.1 in
    rw (is, same) (bad_read _ _ c.in_err-places.ensures)

pub fold_all-requires : goal.fold_all-requires
fold_all-requires c = good-small c.args.takes (good-read _ _ _ c.in_ok-places.ensures)

pub invariant_of-result : goal.invariant_of-result
invariant_of-result c =
    record {
      held = good-held c.args.takes (good-read _ _ _ c.in_ok-places.ensures) (below_all 256 c.args.set.now (λ i h. (c.type_inv.set i).fits)) _
          (set_folded c.args.set.now _ _ c.fold_all.auto.out c.fold_all.ensures);
    }

pub returns : goal.returns
returns c =
    let g = good-read _ _ _ c.in_ok-places.ensures in
    (refl, g.good ∙ ap good_set (sym g.lent.lies))
