-- The first bytes are put.
use Rattle.std.proofs.Common.{take}
use Rattle.output.specs.Buffer.{buffer, Puts}
use Rattle.output.proofs.Buffer.put_words.Given as goal

abbrev pub invariant-loop-byte : goal.invariant-loop-byte
invariant-loop-byte l = Puts l.initial.self (take l.byte-index l.words) (buffer l.self.bytes l.used)
