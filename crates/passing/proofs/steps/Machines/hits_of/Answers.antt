-- The later vectors are ANDed to the first few, or there is nothing left to AND.
use Prim.Native.Nat.{zero-le}
use Rattle.std.proofs.Common.{rules}
use Rattle.passing.specs.Laws.Rows.{ready_fewer}
use Rattle.passing.specs.Laws.Vectors.{hits_late, hits_soon}
use Rattle.passing.proofs.steps.Machines.hits_of.Goals as goal

pub vectors-v-requires : goal.vectors-v-requires
vectors-v-requires g c = (search rules, (zero-le, (c.requires.1.0, ready_fewer _ _ _ _ _ c.requires.1.1 _ c.requires.0)))

pub returns-then-v-eq0 : goal.returns-then-v-eq0
returns-then-v-eq0 g c = hits_soon _ _ _ _ _ _ c.requires.0 _ c.vectors-v.ensures c.if-v-eq0.true

pub returns : goal.returns
returns g c = hits_late _ _ _ _ _ _ c.requires.0 _ c.vectors-v.ensures _ c.vectors.ensures
