-- `answers::texts::put_wide_numbers` meets its contract. The invariant: the first numbers are put.
use mathlib.Core.List.{[]}
use lib.ListN.{take}
use Rattle.output.specs.Buffer.{Puts}
use Rattle.answers.specs.Answers.{listed}
use Rattle.answers.proofs.texts.put_wide_numbers.Given as goal

abbrev pub invariant-loop-number : goal.invariant-loop-number
invariant-loop-number l = Puts l.initial.out (listed [] (take l.number-index l.numbers)) l.out
