use Rattle.desk.specs.Layout.{desk_read_of, lent, no_slots}
use Rattle.std.specs.Prelude.{◌*◌, ◌≤◌, ◌≡◌, ℕ, List, length, replicate}
use native.Mathlib.Omega.{arith}
use Rattle.std.proofs.lemmas.List.{length-replicate}
use lib.Seq.{length-take-le}
use Rattle.desk.proofs.Scanning.{scanned}
use Rattle.desk.proofs.scan.read_for.Goals as goal

pub returns : goal.returns
unfolding desk_read_of
returns c =
    let read-split = c.read_split-read in
    let a = c.args in
    let asked = c.requires in
    let z : List ℕ = replicate 512 0 in
    let long : length z ≡ 512 = length-replicate {A = ℕ} 512 0 in
    let h : 2 * a.room ≤ length z = omega (arith, asked, long) in
    let e = length-take-le (2 * a.room) z h in
    scanned no_slots (lent a.first.now a.second.now) a.place a.count a.piece.now a.room _ z _ _ asked long e read-split.ensures.0
    read-split.ensures.1 read-split.auto.list
