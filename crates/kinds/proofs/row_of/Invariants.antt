-- `kinds::row_of`: the rows before `row` are other kinds'.
use lib.ListN.{take}
use Rattle.matching.specs.Kinds.{kinds}
use Rattle.kinds.specs.Laws.Rows.{Looking}
use Rattle.kinds.proofs.row_of.Given as goal

abbrev pub invariant-loop-row : goal.invariant-loop-row
invariant-loop-row l = Looking l.number (take l.rows kinds) l.row
