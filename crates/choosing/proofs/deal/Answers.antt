-- `choosing::deal` meets its contract.
use Prim.Native.Nat.{◌+◌}
use mathlib.Core.Path.{refl, subst, sym}
use native.Mathlib.Omega.{arith}
use lib.ListN.{get_or}
use Rattle.choosing.specs.Dealing.{DealtTo, is_of}
use Rattle.choosing.specs.Laws.Dealing.{dealt-done, dealt-end, dealt-more, dealt-out, dealt-small}
use Rattle.choosing.proofs.deal.Goals as goal

pub overflow_cast-result : goal.overflow_cast-result
overflow_cast-result c =
    let a = c.args in
    let l = c.loop-own in
    omega (arith, dealt-out a.kind a.kinds.now a.v c.requires l.own-index l.d l.invariant)

pub returns-then-d-eq0 : goal.returns-then-d-eq0
returns-then-d-eq0 c =
    let a = c.args in
    let l = c.loop-own in
    dealt-done a.kind a.kinds.now a.v c.requires l.own-index l.d l.invariant c.if-d-eq0.true

pub deal_next-d-requires : goal.deal_next-d-requires
deal_next-d-requires c =
    let a = c.args in
    let l = c.loop-own in
    dealt-small a.kind a.kinds.now a.v c.requires l.own-index l.d l.invariant c.loop-own-test.true

pub loop-own-preserved : goal.loop-own-preserved
loop-own-preserved c =
    let a = c.args in
    let l = c.loop-own in
    subst (DealtTo a.kind a.kinds.now a.v (l.own-index + 1)) (sym c.deal_next-d.ensures)
    (dealt-more a.kind a.kinds.now a.v c.requires l.own-index l.d l.invariant
    c.loop-own-test.true (is_of a.kind (get_or a.kinds.now l.own-index 0)) refl)

pub overflow_cast-result-2 : goal.overflow_cast-result-2
overflow_cast-result-2 c =
    let a = c.args in
    let l = c.loop-own in
    omega (arith, dealt-out a.kind a.kinds.now a.v c.requires l.own-index l.d l.invariant)

pub returns : goal.returns
returns c =
    let a = c.args in
    let l = c.loop-own in
    dealt-end a.kind a.kinds.now a.v c.requires l.own-index l.d l.invariant c.loop-own-test.false
