-- The parts of the sum are small.
use Rattle.std.proofs.Common.{◌*◌, ◌+◌, ◌/◌, ◌^◌, ◌≤◌, mul-le-mul}
use native.Mathlib.Nat.{mod-lt}
use native.Mathlib.Omega.{arith}
use Rattle.passing.specs.Laws.Starts.{small}
use Rattle.passing.proofs.steps.Machines.start_of.Goals as goal

pub overflow_mul-rows : goal.overflow_mul-rows
overflow_mul-rows g c =
    let a = c.args in
    let z = small g.row.BITS a.self.now.slots a.h a.j c.requires.0 c.requires.1.0 c.requires.1.1.0 c.requires.1.1.1 in
    let size : 2 ^ g.row.BITS + 1 ≤ 17 = omega (arith, z.letters) in
    rw c.letters-size.ensures (omega (arith, mul-le-mul c.requires.1.0 size))

pub overflow_mul-result-2 : goal.overflow_mul-result-2
overflow_mul-result-2 g c =
    let a = c.args in
    let z = small g.row.BITS a.self.now.slots a.h a.j c.requires.0 c.requires.1.0 c.requires.1.1.0 c.requires.1.1.1 in
    rw c.letters-size.ensures (omega arith)

pub overflow_add-result-2 : goal.overflow_add-result-2
overflow_add-result-2 g c =
    let a = c.args in
    let z = small g.row.BITS a.self.now.slots a.h a.j c.requires.0 c.requires.1.0 c.requires.1.1.0 c.requires.1.1.1 in
    rw c.letters-size.ensures (omega (arith, mod-lt (a.x / 2 ^ (a.j * g.row.BITS)) z.size))
