-- `machines::counting::known_front` meets its contract. The most that is shared with a tag before `i`, and with those from `i` on.
use mathlib.Core.Path.{◌∙◌, sym}
use Rattle.std.proofs.Common.{rules}
use Rattle.machines.proofs.Sharing.{known-end, known_more}
use Rattle.tagset.specs.Cutting.{words_of}
use Rattle.machines.proofs.counting.known_front.Goals as goal

pub loop-i-preserved : goal.loop-i-preserved
loop-i-preserved c =
    let loop = c.loop-i in
    loop.invariant
    ∙ known_more (words_of c.args.words.now) c.args.t c.requires loop.i loop.most c.max-most.result c.shared_front.result c.tag-tag.result.now
    c.tag.result.now c.loop-i-test.true c.tag-tag.ensures c.tag.ensures c.shared_front.ensures (search rules)

pub returns : goal.returns
returns c =
    let loop = c.loop-i in
    sym (loop.invariant ∙ known-end (words_of c.args.words.now) c.args.t c.requires loop.i loop.most c.loop-i-test.false)
