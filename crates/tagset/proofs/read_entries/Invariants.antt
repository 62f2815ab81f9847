-- `tagset::read_entries` meets its contract. The invariant: the first k entries passed, and the arrays hold where their tags lie, and their kinds.
use Prim.Native.Nat.{◌-◌}
use lib.ListN.{length, take}
use Rattle.matching.specs.Kinds as K
use Rattle.tagset.proofs.Reading.{Gone}
use Rattle.tagset.proofs.read_entries.Given as goal

abbrev pub invariant-loop-at : goal.invariant-loop-at
invariant-loop-at l = Gone (take l.rows K.kinds) l.set l.from l.to l.kinds l.k l.at

abbrev pub decreases-loop-at : goal.decreases-loop-at
decreases-loop-at l = length l.set - l.at
