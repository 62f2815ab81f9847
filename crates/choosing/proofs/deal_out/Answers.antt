-- `choosing::deal_out` meets its contract: slot after slot, up to the last.
use Rattle.std.proofs.Common.{◌+◌, ◌*◌, ◌<◌, ◌≡◌, length, add-mul, zero-mul}
use native.Mathlib.Omega.{arith}
use Rattle.matching.specs.Laws.Dealt.{dealt}
use Rattle.choosing.specs.Dealing.{is_of}
use Rattle.choosing.specs.Laws.Dealing.{dealing_all, dealing_more, dealing_past, dealing_start, dealt-zero, slot_fits, slots_end}
use Rattle.choosing.proofs.deal_out.Goals as goal
use Rattle.choosing.proofs.deal_out.Goals.{then-slots-at-gt0, else-slots-at-gt0}

pub loop-init : goal.loop-init
loop-init c =
    let a = c.args in
    (dealing_start (dealt (is_of a.kind) a.kinds.now) a.letters a.slots.now, omega (arith, zero-mul (a.letters + 1)))

-- the place lies in the run while a slot is left
pub bounds-slots-at : goal.bounds-slots-at
bounds-slots-at c =
    let l = c.loop in
    omega (arith, l.invariant.0.long, l.invariant.1, slot_fits c.args.letters l.counter (length c.args.slots.now) c.loop-test.true)

pub loop-preserved : goal.loop-preserved
loop-preserved c =
    let a = c.args in
    let l = c.loop in
    let f = dealt (is_of a.kind) a.kinds.now in
    let here : l.at < length l.slots =
    omega (arith, l.invariant.0.long, l.invariant.1, slot_fits a.letters l.counter (length a.slots.now) c.loop-test.true) in
    let next : l.at + (a.letters + 1) ≡ (l.counter + 1) * (a.letters + 1) + a.letters = omega (arith, l.invariant.1, add-mul l.counter 1 (a.letters + 1)) in
    elim c.if-slots-at-gt0.branch [
      | then-slots-at-gt0 w ↦ (rw w.slots-is (dealing_more f a.letters a.slots.now l.slots l.at l.invariant.0 here w.deal.result w.deal.ensures), next)
      | else-slots-at-gt0 w ↦ (
        rw w.slots-is (dealing_past f a.letters a.slots.now l.slots l.at l.invariant.0 (dealt-zero (is_of a.kind) a.kinds.now) here
            (omega (arith, w.if-slots-at-gt0.false))),
        next,
      )
    ]

pub returns : goal.returns
returns c =
    let a = c.args in
    let l = c.loop in
    let ends = slots_end a.letters l.counter (length a.slots.now) (omega (arith, c.loop-test.false)) in
    dealing_all (dealt (is_of a.kind) a.kinds.now) a.letters a.slots.now l.slots l.at l.invariant.0 (dealt-zero (is_of a.kind) a.kinds.now)
    (omega (arith, l.invariant.0.long, l.invariant.1, ends))
