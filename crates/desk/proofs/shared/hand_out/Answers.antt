use native.Mathlib.Omega.{arith}
use Rattle.desk.proofs.HandingOut.{handing_more, handing_end}
use Rattle.desk.proofs.shared.hand_out.Goals as goal

pub loop-j-preserved : goal.loop-j-preserved
loop-j-preserved c =
    let loop = c.loop-j in
    let args = c.args in
    let asked = c.requires in
    let l = loop in
    let a = args in
    rw c.from.ensures (handing_more a.records.now a.n a.list.now l.records l.list l.j (omega arith)
    (omega (arith, l.invariant.count, asked)) l.invariant)

pub returns : goal.returns
returns c =
    let l = c.loop-j in
    let a = c.args in
    handing_end a.records.now a.n a.list.now l.records l.list l.j (omega arith) l.invariant
