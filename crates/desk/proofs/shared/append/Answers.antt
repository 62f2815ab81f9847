use native.Mathlib.Omega.{arith}
use Rattle.desk.proofs.Appending.{appending_more, appending_end}
use Rattle.desk.proofs.shared.append.Goals as goal

pub loop-j-preserved : goal.loop-j-preserved
loop-j-preserved c = appending_more _ _ _ _ _ _ _ (omega arith) c.loop-j.invariant

pub returns : goal.returns
returns c = appending_end _ _ _ _ _ _ _ (omega arith) c.loop-j.invariant
