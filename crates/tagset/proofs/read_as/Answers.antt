-- `tagset::read_as` meets its contract. The folded bytes for the folded kind, else the bytes themselves.
use mathlib.Core.Path.{sym}
use Rattle.matching.specs.Laws.Kinds.{word_as-other}
use Rattle.tagset.proofs.read_as.Goals as goal

pub returns : goal.returns
returns c = let a = c.args in sym (word_as-other a.kind a.set.now c.if-kind-eq-FOLDED.false)
