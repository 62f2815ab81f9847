-- The records of the first i bytes are written.
use Rattle.blocks.specs.Noting.{tag_rows}
use Rattle.reading.specs.Noted.{Writing}
use lib.ListN.{take}
use Rattle.reading.proofs.noted.write_rows.Given as goal

abbrev pub invariant-loop-i : goal.invariant-loop-i
invariant-loop-i l = Writing (tag_rows (take l.end l.hits)) l.count l.initial.list l.list l.from l.w l.i
