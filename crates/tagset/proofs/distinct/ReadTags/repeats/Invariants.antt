-- `tagset::distinct::ReadTags::repeats` meets its contract. The tag is among the earlier ones exactly if it is among those not compared yet.
use Rattle.tagset.proofs.Parts.{Comparing}
use Rattle.tagset.proofs.distinct.ReadTags.repeats.Given as goal

abbrev pub invariant-loop-i : goal.invariant-loop-i
invariant-loop-i l = Comparing l.self.set.now l.self.from.now l.self.to.now l.self.kinds.now l.t l.kind l.tag l.i
