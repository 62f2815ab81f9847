use Rattle.desk.proofs.HandingOut.{taken-many}
use Rattle.desk.proofs.Desk.take_many.Goals as goal

pub returns : goal.returns
returns c =
    let hand-out = c.hand_out in
    let args = c.args in
    let is = taken-many args.self args.list.now _ _ _ c.min-n.ensures hand-out.ensures.0 hand-out.ensures.1 in
    record { value = is.0; list_after = is.1 }
