-- The map laid, the slot closed, the children sown: one state more is settled.
use mathlib.Core.Path.{◌∙◌}
use native.Mathlib.Omega.{arith}
use Rattle.bitmap_growing.specs.Laws.Settling.{turn_closable, turn_done, turn_found, turn_sowing, turn_unlaid}
use Rattle.bitmap_growing.proofs.settling.settle.Goals as goal

pub lay_map-requires : goal.lay_map-requires
lay_map-requires c = turn_unlaid c.requires.1 c.requires.0

pub close-n-requires : goal.close-n-requires
close-n-requires c =
    let p = c.requires in
    let o = turn_found p.1 p.0 _ _ _ (c.from.ensures ∙ c.number.ensures) c.fail.ensures c.vector.ensures in
    turn_closable p.1 p.0 o (c.lay_map.ensures _ o.waits) (c.own_tags-own.ensures _ o.waits)

pub sow-requires : goal.sow-requires
sow-requires c =
    let p = c.requires in
    let o = turn_found p.1 p.0 _ _ _ (c.from.ensures ∙ c.number.ensures) c.fail.ensures c.vector.ensures in
    (o, turn_sowing p.1 p.0 o (c.lay_map.ensures _ o.waits) (c.own_tags-own.ensures _ o.waits) _ c.close-n.ensures.2)

pub overflow_add-result : goal.overflow_add-result
overflow_add-result c =
    let p = c.requires in
    let o = turn_found p.1 p.0 _ _ _ (c.from.ensures ∙ c.number.ensures) c.fail.ensures c.vector.ensures in
    let h = turn_closable p.1 p.0 o (c.lay_map.ensures _ o.waits) (c.own_tags-own.ensures _ o.waits) in
    omega (arith, h.few, c.close-n.ensures.1)

pub returns : goal.returns
returns c =
    let p = c.requires in
    let o = turn_found p.1 p.0 _ _ _ (c.from.ensures ∙ c.number.ensures) c.fail.ensures c.vector.ensures in
    turn_done p.1 p.0 o (c.lay_map.ensures _ o.waits) (c.own_tags-own.ensures _ o.waits) c.close-n.result c.close-n.ensures.0 _ c.sow.ensures
