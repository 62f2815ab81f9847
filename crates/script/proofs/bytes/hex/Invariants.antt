-- `script::bytes::hex` meets its contract. The invariant: n pairs are put, and the rest of the digits is left.
use Rattle.std.proofs.Common.{◌≡◌, ◌*◌, ◌++◌, length, take, drop}
use Rattle.script.specs.Numbers.{all_digits}
use Rattle.script.specs.Bytes.{pairs}
use Rattle.script.proofs.bytes.hex.Given as goal

abbrev pub invariant-loop-n : goal.invariant-loop-n
invariant-loop-n l = record {
  long : length l.buffer ≡ length l.initial.buffer;
  digits : all_digits 16 l.digits ≡ all_digits 16 (drop (2 * l.n) l.digits);
  put : pairs l.digits ≡ take l.n l.buffer ++ pairs (drop (2 * l.n) l.digits);
}
