-- What a beginning and a replacement answer; over any tables.
use Rattle.std.proofs.Common.{sym}
use Rattle.desk.proofs.Laws.Good.{good}
use Rattle.desk.specs.Layout.{Order, Sizes}
use Rattle.gate.specs.Gate.{begin_of, change_of}
use Rattle.history.specs.Laws.Counts.{opens_as, replaces_as}
use Rattle.verdicts.specs.Cases.{BeginExactly, ReplaceExactly}
use Rattle.verdicts.specs.GateHistory.{GateWorld}
use Rattle.verdicts.specs.Laws.Held.{Held}
use Rattle.verdicts.specs.Laws.Standing.{Standing}

pub begins-exactly : (w : GateWorld) → Standing w → Held w → BeginExactly w (begin_of w.gate).answer
unfolding begin_of
begins-exactly w v c = opens_as w.gate.desk _ _ _ (good v.reached).rooms (sym v.editions) v.serials c.held c.few-serials

pub replaces_exactly : (w : GateWorld) → Standing w → Held w → (order : Order) (len : Sizes)
    → ReplaceExactly w order len (change_of w.gate order len).answer
unfolding change_of
replaces_exactly w v c = replaces_as w.gate.desk w.accepted (sym v.editions) c.few-editions
