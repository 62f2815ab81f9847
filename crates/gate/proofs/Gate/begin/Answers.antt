use Rattle.std.proofs.Common.{◌∙◌, ap, sym}
use Rattle.gate.specs.Laws.Calls.{begins, not_begun}
use Rattle.gate.specs.Noting.{begun_seen}
use Rattle.gate.proofs.Gate.begin.Goals as goal

pub returns-in-Ok : goal.returns-in-Ok
returns-in-Ok c =
    let a = c.args in
    let o = c.open-opening in
    let is = begins a.self o.result _ o.ensures (c.begun.ensures ∙ ap (begun_seen o.result.desk a.self.seen) (sym c.in-Ok.is)) in
    rw c.in-Ok.is at is

pub returns-in_default : goal.returns-in_default
returns-in_default c =
    let a = c.args in
    let o = c.open-opening in
    begins a.self o.result _ o.ensures (not_begun o.result.desk a.self.seen o.result.answer c.in_default.not-Ok)
