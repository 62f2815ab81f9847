-- Short of slots nothing is written; else the slots are made, and what stands behind them is left.
use mathlib.Core.Path.{sym}
use Rattle.bitmap_tables.proofs.Answers.{done-answer, done-table, short-answer, short-table, slots_lent, states_are}
use Rattle.bitmap_tables.proofs.build_tags.Goals as goal

pub returns-then-s-n : goal.returns-then-s-n
returns-then-s-n c =
    let p = c.requires in
    let t = c.args.table.now in
    let s = c.map_slots-s in
    let n = c.count_states-n in record { answer = short-answer p.1 t s.result s.ensures n.result n.ensures c.if-s-n.true; left = short-table p.1 t s.result s.ensures n.result n.ensures c.if-s-n.true }

pub make_bitmap-requires : goal.make_bitmap-requires
make_bitmap-requires c =
    let p = c.requires in
    let t = c.args.table.now in
    let s = c.map_slots-s in
    let n = c.count_states-n in (
      p.1,
      states_are p.1 t s.result s.ensures n.result n.ensures,
      c.if-s-n.false,
      slots_lent p.1 t s.result s.ensures n.result n.ensures,
    )

pub returns : goal.returns
returns c =
    let p = c.requires in
    let t = c.args.table.now in
    let s = c.map_slots-s in
    let n = c.count_states-n in record {
      answer = done-answer p.1 t s.result s.ensures n.result n.ensures c.if-s-n.false _ (sym c.count.ensures.counted);
      left = done-table p.1 t s.result s.ensures n.result n.ensures c.if-s-n.false _ c.make_bitmap.ensures;
    }
