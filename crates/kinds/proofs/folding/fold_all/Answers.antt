-- `kinds::folding::fold_all`: the bytes before `i` are folded, and what stood behind them still does.
use borrow.Author.Rules.{rules}
use Rattle.matching.specs.Kinds.{lower}
use Rattle.kinds.specs.Laws.Folding.{fold_more}
use Rattle.kinds.proofs.folding.fold_all.Goals as goal

pub loop-i-preserved : goal.loop-i-preserved
loop-i-preserved c =
    let l = c.loop-i in
    (l.invariant.0, fold_more lower _ _ _ _ l.invariant.0 l.invariant.1 c.folded.result (search rules) c.folded.ensures)
