-- The tags before u are sown.
use native.Mathlib.Omega.{arith}
use Rattle.tagset.specs.Cutting.{words_of}
use Rattle.bitmap_growing.specs.Laws.Sowing.{sow_done}
use Rattle.bitmap_growing.proofs.sowing.sow.Goals as goal

pub returns : goal.returns
returns c =
    let a = c.args in
    let l = c.loop-u in
    sow_done (words_of a.words.now) a.s l.table a.turn.state a.turn.placed l.u l.invariant (omega arith)
