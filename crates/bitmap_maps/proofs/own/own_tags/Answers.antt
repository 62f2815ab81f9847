-- Of every word whose depth and mask are lent, v has the tags from u on that are the word.
use Prim.Native.Nat.{◌-◌, ◌<◌, ◌≤◌}
use mathlib.Core.Bool.{Bool, ◌&&◌, cond, false, true}
use mathlib.Core.List.{[]}
use mathlib.Core.Path.{◌∙◌, ◌≡◌, ap, refl, sym}
use native.Mathlib.Omega.{arith}
use Rattle.std.specs.Prelude.{eqb}
use lib.ListN.{get_or, length}
use lib.Pow.{pow_pos}
use mir.Val.{bool_byte}
use Rattle.tagset.specs.Cutting.{words_of}
use Rattle.bitmap_maps.specs.Laws.Masks.{goes-begins}
use Rattle.bitmap_maps.specs.Laws.Own.{one_more, own_is, own-more, own-none}
use Rattle.bitmap_maps.proofs.own.own_tags.Goals as goal
use Rattle.bitmap_maps.proofs.own.own_tags.Goals.{then-goes, else-goes}

bit_of : (b : Bool) → bool_byte b ≡ cond b 1 0
bit_of true = refl
bit_of false = refl

pub loop-u-init : goal.loop-u-init
loop-u-init c = record {
  few = pow_pos (length (words_of c.args.words.now) - c.count-u.result);
  own = λ p w. own-none (words_of c.args.words.now) p c.count-u.result (sym c.count-u.ensures.counted);
}

pub loop-u-preserved : goal.loop-u-preserved
loop-u-preserved c =
    let a = c.args in
    let l = c.loop-u in
    let ts = words_of a.words.now in
    let goes = c.goes_through-goes.result in
    let bit = c.from.ensures ∙ bit_of _ in
    let most : l.u ≤ length ts = omega arith in
    let below : l.u - 1 < length ts = omega (arith, c.loop-u-test.true) in record {
      few = one_more (length ts) l.u l.v c.from.result l.invariant.few c.loop-u-test.true most _ bit;
      own = λ p w.
          own-more ts p l.u l.v c.from.result _ (l.invariant.own p w) c.loop-u-test.true most
          (let through = goes-begins ts p a.mask (l.u - 1) goes w.goes below c.goes_through-goes.ensures in
          elim c.if-goes.branch [
            | then-goes b ↦ b.from-is
                ∙ own_is ts p (l.u - 1) a.d b.tag.result.now goes b.is_own.result b.tag.ensures through w.deep b.is_own.ensures
            | else-goes b ↦ b.from-is ∙ b.if-goes.false
                ∙ own_is ts p (l.u - 1) a.d (get_or ts (l.u - 1) []) goes false refl through w.deep
                (sym (ap (λ (x : Bool). x && eqb (length (get_or ts (l.u - 1) [])) a.d) b.if-goes.false))
          ])
          bit;
    }
