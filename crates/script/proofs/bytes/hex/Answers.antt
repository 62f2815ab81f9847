-- `script::bytes::hex` meets its contract. The invariant: n pairs are put, and the rest of the digits is left.
use Rattle.std.proofs.Common.{arith, ℕ, List, Some, ◌≡◌, ◌*◌, ◌+◌, ◌<◌, ◌≤◌, sym, ap, ◌∙◌, take, ◌/◌, length, length-set, append-nil, ◌++◌}
use Rattle.script.specs.Laws.Numbers.{digits_miss, digits_step, digits_end}
use Rattle.script.specs.Laws.Bytes.{pairs-more, pairs_end, pair_passed, hex_other, hex_these}
use Rattle.script.proofs.bytes.hex.Goals as goal

pub returns-in_err-high-clause-result_after : goal.returns-in_err-high-clause-result_after
returns-in_err-high-clause-result_after c =
    let w = c.args.digits.now in
    let l = c.loop-n in
    let e = c.in_err-high.ensures in
    rw c.from_residual.ensures (sym (hex_other w (l.invariant.digits ∙ digits_miss 16 w (2 * l.n) (omega arith) (omega arith))))

pub returns-in_err-low-clause-result_after : goal.returns-in_err-low-clause-result_after
returns-in_err-low-clause-result_after c =
    let w = c.args.digits.now in
    let l = c.loop-n in
    let g = c.in_ok-high.ensures in
    let e = c.in_err-low.ensures in
    rw c.from_residual-in_err-low.ensures
    (sym (hex_other w (l.invariant.digits ∙ digits_step 16 w (2 * l.n) (omega arith) (omega arith)
    ∙ digits_miss 16 w (2 * l.n + 1) (omega arith) (omega arith))))

pub loop-n-preserved : goal.loop-n-preserved
loop-n-preserved c =
    let w = c.args.digits.now in
    let l = c.loop-n in
    let h : 2 * l.n + 1 < length w = omega arith in
    let g : l.n < length l.buffer = omega arith in
    let high = c.in_ok-high.ensures in
    let low = c.in_ok-low.ensures in record {
      long = simp length-set l.invariant.long;
      digits = l.invariant.digits ∙ pair_passed w l.n h (omega arith) (omega arith);
      put = rw (high.value, low.value) (pairs-more w l.buffer l.n h g l.invariant.put);
    }

pub returns-clause-result_after : goal.returns-clause-result_after
returns-clause-result_after c =
    let w = c.args.digits.now in
    let l = c.loop-n in
    let n : l.n ≡ length w / 2 = omega arith in
    let h : length w ≤ 2 * l.n = omega arith in
    ap Some (ap (λ (k : ℕ). take k l.buffer) (sym n) ∙ sym (l.invariant.put ∙ ap (λ (m : List ℕ). take l.n l.buffer ++ m) (pairs_end w (2 * l.n) h) ∙ append-nil (take l.n l.buffer)))
    ∙ sym (hex_these w (omega arith) (l.invariant.digits ∙ digits_end 16 w (2 * l.n) h))
