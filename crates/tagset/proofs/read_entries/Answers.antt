-- `tagset::read_entries` meets its contract. The invariant: the first k entries passed, and the arrays hold where their tags lie, and their kinds.
use native.Mathlib.Omega.{arith}
use lib.ListN.{take}
use Rattle.std.proofs.lemmas.Result.{err_from_is_err_and}
use Rattle.matching.specs.Kinds as K
use Rattle.tagset.proofs.Reading.{gone-all, gone-fails, gone-few, gone-more, gone-start}
use Rattle.tagset.proofs.read_entries.Goals as goal

pub loop-at-init : goal.loop-at-init
loop-at-init c = gone-start (take c.args.rows K.kinds) c.args.set.now

pub returns-in_err-place : goal.returns-in_err-place
returns-in_err-place c =
    let (fault, is, same) = err_from_is_err_and c.from_residual.result c.from_residual.ensures.1 in
    rw (is, same) (gone-fails c.loop-at.invariant c.loop-at-test.true c.in_err-place.ensures)

pub offset_bounds-from-k : goal.offset_bounds-from-k
offset_bounds-from-k c =
    omega (arith, (gone-more c.loop-at.invariant c.loop-at-test.true _ c.in_ok-place.ensures).few)

pub bounds-from-k : goal.bounds-from-k
bounds-from-k c =
    omega (arith, (gone-more c.loop-at.invariant c.loop-at-test.true _ c.in_ok-place.ensures).few)

pub offset_bounds-to-k : goal.offset_bounds-to-k
offset_bounds-to-k c =
    omega (arith, (gone-more c.loop-at.invariant c.loop-at-test.true _ c.in_ok-place.ensures).few)

pub bounds-to-k : goal.bounds-to-k
bounds-to-k c =
    omega (arith, (gone-more c.loop-at.invariant c.loop-at-test.true _ c.in_ok-place.ensures).few)

pub offset_bounds-kinds-k : goal.offset_bounds-kinds-k
offset_bounds-kinds-k c =
    omega (arith, (gone-more c.loop-at.invariant c.loop-at-test.true _ c.in_ok-place.ensures).few)

pub bounds-kinds-k : goal.bounds-kinds-k
bounds-kinds-k c =
    omega (arith, (gone-more c.loop-at.invariant c.loop-at-test.true _ c.in_ok-place.ensures).few)

pub overflow_add-k : goal.overflow_add-k
overflow_add-k c = omega (arith, gone-few c.loop-at.invariant)

pub loop-at-preserved : goal.loop-at-preserved
loop-at-preserved c =
    (gone-more c.loop-at.invariant c.loop-at-test.true _ c.in_ok-place.ensures).gone

pub returns : goal.returns
returns c = gone-all c.loop-at.invariant c.loop-at-test.false
