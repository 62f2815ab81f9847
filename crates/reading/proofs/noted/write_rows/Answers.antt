-- The records of the first i bytes are written.
use Rattle.reading.specs.Laws.Noted.{noted_more, writing_start}
use mathlib.Core.Path.{◌∙◌, sym}
use native.Mathlib.Omega.{arith}
use Rattle.reading.proofs.noted.write_rows.Goals as goal

pub loop-i-init : goal.loop-i-init
loop-i-init c = writing_start _ _ _ _ c.requires.from_in_bounds.0

pub loop-i-preserved : goal.loop-i-preserved
loop-i-preserved c =
    noted_more _ _ c.requires.hits_len.0 c.requires.hits_len.1 _ _ _ _ _ _ c.loop-i.invariant (omega arith) _ (sym c.in-Some.is ∙ c.put_all.ensures.0) _
    c.put_all.ensures.1
