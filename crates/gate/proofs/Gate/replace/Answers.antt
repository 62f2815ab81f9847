use Rattle.desk.specs.Layout.{by_set, lent, sizes_of}
use Rattle.gate.specs.Laws.Calls.{changed}
use Rattle.gate.proofs.Gate.replace.Goals as goal

pub returns : goal.returns
returns c =
    let r = c.replace-replacing in
    let a = c.args in
    record { value = changed a.self (by_set a.set.now) (sizes_of (lent a.first.now a.second.now)) r.result r.ensures.value; second_after = r.ensures.second_after }
