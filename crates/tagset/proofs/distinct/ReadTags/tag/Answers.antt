-- `tagset::distinct::ReadTags::tag` meets its contract.
use mathlib.Core.List.{List, []}
use mathlib.Core.Path.{◌∙◌, ap}
use Prim.Native.Nat.{ℕ}
use lib.ListN.{get_or}
use Rattle.tagset.specs.Answer.{cut_at}
use Rattle.tagset.proofs.distinct.ReadTags.tag.Goals as goal

pub returns : goal.returns
returns c =
    let a = c.args in
    c.tag_bytes.ensures ∙ ap (λ (bytes : List ℕ). get_or (cut_at bytes a.self.now.from.now a.self.now.to.now) a.t []) c.read_as-bytes.ensures
