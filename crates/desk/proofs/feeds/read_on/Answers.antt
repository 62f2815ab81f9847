use native.Mathlib.Omega.{arith}
use Rattle.desk.specs.Layout.{lent}
use Rattle.desk.proofs.Scanning.{on-refused, on-stopped, read-on-is}
use Rattle.desk.proofs.feeds.read_on.Goals as goal

pub returns-in_default : goal.returns-in_default
returns-in_default c =
    let a = c.args in
    on-refused a.desk a.i a.t (lent a.first.now a.second.now) a.piece.now c.requires.1 _
    c.saturating_sub-room.ensures c.read_for-scan.result c.read_for-scan.ensures _ c.in_default.is _
    c.damaged.ensures

pub append-requires : goal.append-requires
append-requires c =
    let a = c.args in
    let w = on-stopped a.desk a.i a.t (lent a.first.now a.second.now) a.piece.now c.requires.1 _
    c.saturating_sub-room.ensures c.read_for-scan.result c.read_for-scan.ensures _ c.in-Ok.is in
    (w.fits, omega (arith, w.fits, c.read_for-scan.ensures.long))

pub overflow_cast-fed : goal.overflow_cast-fed
overflow_cast-fed c =
    let a = c.args in
    let w = on-stopped a.desk a.i a.t (lent a.first.now a.second.now) a.piece.now c.requires.1 _
    c.saturating_sub-room.ensures c.read_for-scan.result c.read_for-scan.ensures _ c.in-Ok.is in
    omega (arith, w.part, c.requires.1)

pub overflow_add-fed : goal.overflow_add-fed
overflow_add-fed c =
    let a = c.args in
    let w = on-stopped a.desk a.i a.t (lent a.first.now a.second.now) a.piece.now c.requires.1 _
    c.saturating_sub-room.ensures c.read_for-scan.result c.read_for-scan.ensures _ c.in-Ok.is in
    omega (arith, w.part, c.requires.1)

pub returns : goal.returns
returns c =
    let append = c.append in
    let a = c.args in
    let w = on-stopped a.desk a.i a.t (lent a.first.now a.second.now) a.piece.now c.requires.1 _
    c.saturating_sub-room.ensures c.read_for-scan.result c.read_for-scan.ensures _ c.in-Ok.is in
    read-on-is a.desk a.i a.t (lent a.first.now a.second.now) a.piece.now c.requires.1 _
    c.saturating_sub-room.ensures c.read_for-scan.result c.read_for-scan.ensures _ w _ append.ensures
