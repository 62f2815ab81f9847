use mathlib.Core.Path.{refl}
use Rattle.desk.proofs.ByAnswer.{replaced-is}
use Rattle.desk.specs.Layout.{lent}
use Rattle.desk.proofs.Desk.replace.Goals as goal

pub returns : goal.returns
returns c =
    let build-if = c.build_if-built in
    let slots = c.slots_in-s in
    let a = c.args in
    let is = replaced-is a.self a.set.now (lent a.first.now a.second.now) _ _ _ _ _ slots.ensures build-if.ensures.answer refl
    build-if.ensures.left c.replaced.ensures in
    record { value = is.0; second_after = is.1 }
