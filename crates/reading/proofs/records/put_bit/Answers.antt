-- One record of two numbers, or none.
use Prim.Native.Nat.{◌*◌}
use mathlib.Core.Path.{refl}
use native.Mathlib.Numerals.{add-one}
use native.Mathlib.Omega.{arith}
use Rattle.matching.specs.Occurrence.{flat, occur_at}
use Rattle.reading.specs.Laws.Records.{tag-none, tag-some}
use Rattle.reading.proofs.records.put_bit.Goals as goal

pub returns-then-bit-eq0 : goal.returns-then-bit-eq0
unfolding flat occur_at
returns-then-bit-eq0 c = rw (tag-none _ c.args.tag c.if-bit-eq0.true) (omega arith, refl)

pub returns : goal.returns
unfolding flat occur_at
returns c = rw (tag-some _ c.args.tag c.if-bit-eq0.false) (refl, rw (add-one (2 * c.args.w)))
