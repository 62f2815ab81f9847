use Rattle.std.proofs.Common.{add-one}
use Rattle.output.specs.Laws.Waiting.{put-none, put_then}
use Rattle.serving.specs.Lines.{record_lines}
use Rattle.serving.proofs.lines.put_records.Goals as goal

pub loop-j-init : goal.loop-j-init
unfolding record_lines
loop-j-init c = put-none _

pub loop-j-preserved : goal.loop-j-preserved
unfolding record_lines
loop-j-preserved c = rw (add-one c.loop-j.j) (put_then c.loop-j.invariant c.put_record.ensures)
