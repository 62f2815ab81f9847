-- What is still to be written, written where it belongs, gives the whole.
use native.Mathlib.Omega.{arith}
use Rattle.reading.specs.Laws.Records.{putting_done, putting_more, putting_room}
use Rattle.reading.proofs.records.put.Goals as goal

pub put_bit-w-requires : goal.put_bit-w-requires
put_bit-w-requires c =
    let l = c.loop-tag in
    putting_room c.args.list.now c.args.from c.args.end c.args.hits l.list l.w l.rest l.tag l.invariant (omega arith) c.requires

pub loop-tag-preserved : goal.loop-tag-preserved
loop-tag-preserved c =
    let l = c.loop-tag in
    putting_more c.args.list.now c.args.from c.args.end c.args.hits l.list l.w l.rest l.tag l.invariant (omega arith) _ _
    c.put_bit-w.ensures.0 c.put_bit-w.ensures.1

pub returns : goal.returns
returns c =
    let l = c.loop-tag in
    putting_done c.args.list.now c.args.from c.args.end c.args.hits l.list l.w l.rest l.tag l.invariant (omega arith)
