use Rattle.output.specs.Buffer.{Puts}
use Rattle.serving.specs.Lines.{record_lines}
use Rattle.serving.proofs.lines.put_records.Given as goal

abbrev pub invariant-loop-j : goal.invariant-loop-j
invariant-loop-j l = Puts l.initial.out (record_lines l.j l.list) l.out
