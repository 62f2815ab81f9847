-- As many records as bits; none where they do not all fit.
use native.Mathlib.Omega.{arith}
use Rattle.matching.specs.Laws.Bits.{ones_of-count}
use Rattle.reading.specs.Laws.Records.{emit_none, emit_room, emit_zero}
use Rattle.reading.proofs.records.put_all.Goals as goal

pub returns-then-hits-eq0 : goal.returns-then-hits-eq0
returns-then-hits-eq0 c = let a = c.args in emit_zero a.list.now a.w a.end a.hits c.if-hits-eq0.true

pub returns-then-list-w : goal.returns-then-list-w
returns-then-list-w c =
    let a = c.args in
    emit_none a.list.now a.w a.end a.hits (omega (arith, ones_of-count a.hits c.ranges.hits.fits))

pub put-requires : goal.put-requires
put-requires c = omega (arith, ones_of-count c.args.hits c.ranges.hits.fits)

pub returns : goal.returns
returns c =
    let put = c.put in
    let args = c.args in
    let fits = c.ranges in
    let a = args in
    emit_room a.list.now a.w a.end a.hits (omega (arith, ones_of-count a.hits fits.hits.fits)) _ _ put.ensures.0
    put.ensures.1
