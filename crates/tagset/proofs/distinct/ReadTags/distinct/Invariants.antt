-- `tagset::distinct::ReadTags::distinct` meets its contract. No tag before `t` repeats: the test goes on with the tags that are left.
use Prim.Native.Nat.{◌≤◌}
use mathlib.Core.List.{[]}
use mathlib.Core.Path.{◌≡◌}
use lib.ListN.{drop, length, take}
use Rattle.tagset.specs.Answer.{tags_in}
use Rattle.tagset.specs.Grammar.{distinct}
use Rattle.tagset.proofs.distinct.ReadTags.distinct.Given as goal

abbrev pub invariant-loop-t : goal.invariant-loop-t
invariant-loop-t l = (l.t ≤ length l.self.from.now) × (length (tags_in l.self.set.now l.self.from.now l.self.to.now l.self.kinds.now) ≡ length l.self.from.now)
    × (distinct [] 0 (tags_in l.self.set.now l.self.from.now l.self.to.now l.self.kinds.now) ≡ distinct (take l.t (tags_in l.self.set.now l.self.from.now l.self.to.now l.self.kinds.now)) l.t (drop l.t (tags_in l.self.set.now l.self.from.now l.self.to.now l.self.kinds.now)))
