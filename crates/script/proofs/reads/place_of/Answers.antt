-- `script::reads::place_of` meets its contract. The invariant: the first i numbers are read, and the words behind them are left.
use Rattle.std.proofs.Common.{arith, Some, ◌<◌, length, length-set}
use Rattle.script.specs.Words.{word_of}
use Rattle.script.specs.Laws.Numbers.{number-said}
use Rattle.script.specs.Laws.Calls.{place-more}
use Rattle.script.proofs.reads.place_of.Goals as goal

pub loop-i-preserved : goal.loop-i-preserved
loop-i-preserved c =
    let a = c.args in
    let l = c.loop-i in
    let n = c.in_ok-numbers.field-0 in
    let g : l.i < length l.numbers = omega (arith, c.requires) in record {
      long = simp length-set l.invariant.long;
      read = place-more a.k l.i n a.words.now l.rest.now c.behind-rest.result.now l.numbers c.loop-i-test.true g
          (number-said 65535 (word_of l.rest.now) (Some n) c.number_of.ensures.value c.word.ensures c.in_ok-numbers.was)
          c.behind-rest.ensures l.invariant.read;
    }
