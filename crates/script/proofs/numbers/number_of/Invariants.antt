-- `script::numbers::number_of` meets its contract. The invariant: what is left of the word makes the number.
use Rattle.std.proofs.Common.{◌≡◌, ◌≤◌, drop}
use Rattle.script.specs.Numbers.{all_digits, value_from}
use Rattle.script.proofs.numbers.number_of.Given as goal

abbrev pub invariant-loop-b : goal.invariant-loop-b
invariant-loop-b l = record {
  small : l.n ≤ l.most;
  digits : all_digits 10 l.word ≡ all_digits 10 (drop l.b-index l.word);
  value : value_from 0 l.word ≡ value_from l.n (drop l.b-index l.word);
}
