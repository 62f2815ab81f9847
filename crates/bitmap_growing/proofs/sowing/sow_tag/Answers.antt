-- A tag that does not go on changes nothing.
use mathlib.Core.Bool.{not}
use mathlib.Core.Path.{ap}
use Rattle.bitmap_growing.specs.Laws.Sowing.{tag_able, tag_elsewhere, tag-ends, tag-sown}
use Rattle.bitmap_growing.proofs.sowing.sow_tag.Goals as goal

pub returns-then-not-goes_through : goal.returns-then-not-goes_through
returns-then-not-goes_through c =
    let p = c.requires in
    tag_elsewhere p.2 p.0 p.1 c.goes_through.result c.goes_through.ensures (ap not c.if-not-goes_through.true)

pub returns-then-tag-turn : goal.returns-then-tag-turn
returns-then-tag-turn c =
    let p = c.requires in
    tag-ends p.2 p.0 p.1 c.goes_through.result c.goes_through.ensures _ c.tag-tag.ensures c.if-tag-turn.true

pub sow_one-requires : goal.sow_one-requires
sow_one-requires c =
    let p = c.requires in
    tag_able p.2 p.0 p.1 c.goes_through.result c.goes_through.ensures _ c.tag-tag.ensures (ap not c.if-not-goes_through.false) c.if-tag-turn.false

pub returns : goal.returns
returns c =
    let p = c.requires in
    tag-sown p.2 p.0 p.1 c.goes_through.result c.goes_through.ensures _ c.tag-tag.ensures (ap not c.if-not-goes_through.false) c.if-tag-turn.false
    _ c.sow_one.ensures
