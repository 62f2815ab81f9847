-- `tagset::tag_bytes` meets its contract.
use mathlib.Core.Logic.{inl, inr}
use mathlib.Core.Path.{◌∙◌, sym}
use Rattle.tagset.specs.Laws.Places.{cut_at-at, cut_at-none}
use Rattle.tagset.proofs.tag_bytes.Goals as goal

pub returns-then-from-t : goal.returns-then-from-t
returns-then-from-t c =
    let args = c.args in
    c.part.ensures ∙ sym (cut_at-none args.set.now args.from.now args.to.now args.t (inl c.if-from-t.true))

pub returns-then-to-t : goal.returns-then-to-t
returns-then-to-t c =
    let args = c.args in
    c.part-then-to-t.ensures ∙ sym (cut_at-none args.set.now args.from.now args.to.now args.t (inr c.if-to-t.true))

pub returns : goal.returns
returns c =
    let c3 = c in
    let if2 = c3.if-to-t in
    let c4 = c3 in
    let if1 = c4.if-from-t in
    let args = c4.args in
    c.part-2.ensures ∙ sym (cut_at-at args.set.now args.from.now args.to.now args.t if1.false if2.false)
