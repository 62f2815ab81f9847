-- Of every word whose depth and mask are lent, the map of the tags before u is laid.
use Prim.Native.Nat.{◌*◌, ◌+◌, ◌<◌}
use mathlib.Core.List.{[]}
use mathlib.Core.Path.{refl, subst, sym}
use native.Mathlib.Omega.{arith}
use lib.ListN.{get_or, length, length-set, set, take}
use Rattle.tagset.specs.Cutting.{words_of}
use Rattle.bitmap_maps.specs.Laid.{MapLaid}
use Rattle.bitmap_maps.specs.Laws.Laying.{laid_more, laid_none, tag_aside}
use Rattle.bitmap_maps.specs.Laws.Masks.{goes-begins}
use Rattle.bitmap_maps.proofs.laying.lay_map.Goals as goal
use Rattle.bitmap_maps.proofs.laying.lay_map.Goals.{then-goes, else-goes}

pub loop-u-init : goal.loop-u-init
loop-u-init c = λ p w. laid_none p c.args.q c.args.table.now c.requires

pub loop-u-preserved : goal.loop-u-preserved
loop-u-preserved c = λ p w.
    let a = c.args in
    let l = c.loop-u in
    let ts = words_of a.words.now in
    let low : l.u < length ts = omega arith in
    let room : a.q * 19 + 18 < length l.table = omega (arith, c.requires.room, l.auto.table, length-set a.table.now (a.q * 19) 0) in
    let bare = set a.table.now (a.q * 19) 0 in
    let goes = goes-begins ts p a.mask l.u c.goes_through-goes.result w.goes low c.goes_through-goes.ensures in
    elim c.if-goes.branch [
      | then-goes b ↦ subst (MapLaid (take (l.u + 1) ts) p a.q bare) (sym b.table-is)
          (laid_more ts p a.q l.u bare l.table b.lay_tag.new.table a.d c.goes_through-goes.result b.tag.result.now (l.invariant p w) room low
          b.tag.ensures w.deep goes b.lay_tag.ensures)
      | else-goes b ↦ subst (MapLaid (take (l.u + 1) ts) p a.q bare) (sym b.table-is)
          (laid_more ts p a.q l.u bare l.table l.table a.d c.goes_through-goes.result (get_or ts l.u []) (l.invariant p w) room low
          refl w.deep goes (tag_aside (get_or ts l.u []) a.q a.d c.goes_through-goes.result l.table b.if-goes.false))
    ]
