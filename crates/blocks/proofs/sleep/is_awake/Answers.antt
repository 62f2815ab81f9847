-- Where all machines stay and nothing is found, it is still.
use Rattle.blocks.specs.Laws.Sleep.{still}
use borrow.Author.Tests.{eqb-true, not-false}
use Rattle.blocks.proofs.sleep.is_awake.Goals as goal

pub returns : goal.returns
returns c = λ e.
    still _ _ _ c.requires (c.all_stay.ensures c.if-not-all_stay.false) c.hits_of.result c.hits_of.ensures
    (eqb-true _ _ (not-false _ e))
