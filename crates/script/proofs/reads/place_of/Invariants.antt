-- `script::reads::place_of` meets its contract. The invariant: the first i numbers are read, and the words behind them are left.
use Rattle.std.proofs.Common.{◌≡◌, ◌-◌, take, length}
use Rattle.script.specs.Calls.{place_of}
use Rattle.script.specs.Laws.Calls.{before}
use Rattle.script.proofs.reads.place_of.Given as goal

abbrev pub invariant-loop-i : goal.invariant-loop-i
invariant-loop-i l = record {
  long : length l.numbers ≡ 16;
  read : place_of l.k l.words ≡ before (take l.i l.numbers) (place_of (l.k - l.i) l.rest);
}
