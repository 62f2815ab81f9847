-- The whole reading is what is done and then what is left, from the state at byte i.
use mathlib.Core.Path.{◌∙◌, sym}
use Rattle.passing.specs.Laws.Below.{one_below}
use Rattle.reading.specs.Laws.Walks.{going-pass, whole-all, whole_begin, whole_damaged, whole-full, whole-took}
use Rattle.reading.proofs.walks.on_whole.Goals as goal

pub loop-i-init : goal.loop-i-init
loop-i-init c = whole_begin _ _ _ _ _ _ c.requires.0

pub next-requires : goal.next-requires
next-requires c = one_below _ _ c.loop-i.invariant.below

pub returns-in_default : goal.returns-in_default
returns-in_default c =
    let n = c.in_default.ensures in
    let z = whole_damaged _ _ _ _ _ _ _ _ _ _ c.loop-i.invariant c.loop-i-test.true n.0 n.1 n.2 in
    (c.stopped.ensures ∙ z.0, z.1)

pub returns-in_default-put_all : goal.returns-in_default-put_all
returns-in_default-put_all c =
    let n = c.in-Some.ensures in
    let z = whole-full _ _ _ _ _ _ _ _ _ _ c.loop-i.invariant c.loop-i-test.true _ n.0 n.1 _ c.vector-hits.ensures
    (sym c.in_default-put_all.is ∙ c.put_all.ensures.0) c.put_all.new.list c.put_all.ensures.1 in
    (c.stopped-in_default-put_all.ensures ∙ z.0, z.1)

-- the byte is taken, and its records written
pub loop-i-preserved-then-hits-eq0 : goal.loop-i-preserved-then-hits-eq0
loop-i-preserved-then-hits-eq0 c =
    let n = c.in-Some.ensures in
    going-pass _ _ _ _ _ _ _ _ _ _ _
    (whole-took _ _ _ _ _ _ _ _ _ _ c.loop-i.invariant c.loop-i-test.true _ n.0 n.1 _ c.vector-hits.ensures
    _ (sym c.in-Some-put_all.is ∙ c.put_all.ensures.0) _ c.put_all.ensures.1) _ _ c.pass-p.ensures

pub loop-i-preserved : goal.loop-i-preserved
loop-i-preserved c =
    let n = c.in-Some.ensures in
    whole-took _ _ _ _ _ _ _ _ _ _ c.loop-i.invariant c.loop-i-test.true _ n.0 n.1 _ c.vector-hits.ensures
    _ (sym c.in-Some-put_all.is ∙ c.put_all.ensures.0) _ c.put_all.ensures.1

pub returns : goal.returns
returns c =
    let z = whole-all _ _ _ _ _ _ _ _ _ _ c.loop-i.invariant c.loop-i-test.false in
    (c.stopped-2.ensures ∙ z.0, z.1)
