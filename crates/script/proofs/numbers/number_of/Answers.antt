-- `script::numbers::number_of` meets its contract. The invariant: what is left of the word makes the number.
use Rattle.std.proofs.Common.{rules, arith, sym, ◌∙◌, get_or}
use Rattle.script.specs.Laws.Numbers.{digit_decimal, digit_other, digits_miss, digits_step, digits_end, number-empty, number-other, value-more, value_large, value-whole}
use Rattle.script.proofs.numbers.number_of.Goals as goal

pub returns-then-is_empty-clause-value : goal.returns-then-is_empty-clause-value
returns-then-is_empty-clause-value c = sym (number-empty c.args.most c.args.word.now (search rules))

pub returns-then-not-is_ascii_digit-clause-value : goal.returns-then-not-is_ascii_digit-clause-value
returns-then-not-is_ascii_digit-clause-value c =
    let w = c.args.word.now in
    let l = c.loop-b in
    sym (number-other c.args.most w (l.invariant.digits ∙ digits_miss 10 w l.b-index c.loop-b-test.true
    (digit_other (get_or w l.b-index 0) c.if-not-is_ascii_digit.ensures.cases)))

pub returns-then-limit-n-clause-value : goal.returns-then-limit-n-clause-value
returns-then-limit-n-clause-value c =
    let w = c.args.word.now in
    let l = c.loop-b in
    let is = c.if-not-is_ascii_digit.ensures.cases in
    let d = digit_decimal (get_or w l.b-index 0) is.0 is.1 in
    sym (value_large c.args.most w l.b-index l.n c.from-digit.result c.loop-b-test.true (omega arith) l.invariant.value (omega arith))

pub loop-b-preserved : goal.loop-b-preserved
loop-b-preserved c =
    let w = c.args.word.now in
    let l = c.loop-b in
    let is = c.if-not-is_ascii_digit.ensures.cases in
    let d = digit_decimal (get_or w l.b-index 0) is.0 is.1 in record {
      small = omega arith;
      digits = l.invariant.digits ∙ digits_step 10 w l.b-index c.loop-b-test.true (omega arith);
      value = value-more w l.b-index l.n c.from-digit.result c.loop-b-test.true (omega arith) l.invariant.value;
    }

pub returns-clause-value : goal.returns-clause-value
returns-clause-value c =
    let w = c.args.word.now in
    let l = c.loop-b in
    sym (value-whole c.args.most w l.b-index l.n (search rules) (l.invariant.digits ∙ digits_end 10 w l.b-index c.loop-b-test.false)
    c.loop-b-test.false l.invariant.small l.invariant.value)
