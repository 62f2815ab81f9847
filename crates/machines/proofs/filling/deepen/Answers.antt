-- `machines::filling::deepen` meets its contract. The tag has no letter here; or its slot is made before; or it is made now.
use Rattle.machines.proofs.Deepening.{deepen_known, deepen_made, fail_asks, next_asks, slot_asks}
use Rattle.machines.proofs.filling.deepen.Goals as goal

pub next_of-q-requires : goal.next_of-q-requires
next_of-q-requires c =
    next_asks c.requires.1 c.requires.0 c.tag-tag.result.now c.tag-tag.ensures c.if-tag-d.false c.from-c.result c.from-c.ensures

pub failing-x-requires : goal.failing-x-requires
failing-x-requires c =
    fail_asks c.requires.1 c.requires.0 c.tag-tag.result.now c.tag-tag.ensures c.if-tag-d.false c.from-c.result c.from-c.ensures

pub returns-then-d-walk : goal.returns-then-d-walk
returns-then-d-walk c =
    deepen_known c.requires.1 c.requires.0 c.tag-tag.result.now c.tag-tag.ensures c.if-tag-d.false c.from-c.result c.from-c.ensures
    c.next_of-q.result c.failing-x.result c.next_of-q.ensures c.failing-x.ensures c.if-d-walk.true

pub make_slot-requires : goal.make_slot-requires
make_slot-requires c =
    slot_asks c.requires.1 c.requires.0 c.tag-tag.result.now c.tag-tag.ensures c.if-tag-d.false c.from-c.result c.from-c.ensures
    c.next_of-q.result c.failing-x.result c.next_of-q.ensures c.failing-x.ensures

pub returns : goal.returns
returns c =
    deepen_made c.requires.1 c.requires.0 c.tag-tag.result.now c.tag-tag.ensures c.if-tag-d.false c.from-c.result c.from-c.ensures
    c.next_of-q.result c.failing-x.result c.next_of-q.ensures c.failing-x.ensures c.vector_of-vector.result _ c.vector_of-vector.ensures
    c.make_slot.ensures
