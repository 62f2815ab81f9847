use native.Mathlib.Omega.{arith}
use Prim.Native.Nat.{ℕ, ◌+◌, ◌%◌}
use mathlib.Core.Path.{◌≡◌}
use borrow.Author.Tests.{eq-eqb, ne_eqb}
use Rattle.desk.specs.Calls.{take_of}
use Rattle.desk.proofs.Desk.take.Goals as goal

-- the place after the first, round the ring
turned : (n : ℕ) → (n % 256 + 1) % 256 ≡ (n + 1) % 256
turned n = omega arith

pub returns-then-records-eq0 : goal.returns-then-records-eq0
unfolding take_of
returns-then-records-eq0 c = simp (eq-eqb _ _ c.if-records-eq0.true)

pub returns : goal.returns
unfolding take_of
returns c = simp (ne_eqb _ _ c.if-records-eq0.false, turned c.args.self.records.first)
