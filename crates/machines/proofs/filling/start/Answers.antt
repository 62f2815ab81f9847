-- `machines::filling::start` meets its contract. Each tag before `t` has its front.
use Rattle.std.proofs.Common.{ℕ, ◌<◌, ◌≢◌, length, ap, arith, get_or-set_other, get_or-set_same, length-set, below_more}
use Rattle.machines.specs.declared.filling.Walk.{Walk}
use Rattle.machines.proofs.filling.start.Goals as goal

abbrev started : ℕ → ℕ → Walk
started at front = record { front = front; at = at; fail = 0 }

pub loop-t-preserved : goal.loop-t-preserved
loop-t-preserved c =
    record {
      room = simp length-set c.loop-t.invariant.room;
      each = below_more _ _
          (λ u h. let other : u ≢ c.loop-t.t = omega arith in rw get_or-set_other (c.loop-t.invariant.each u h))
          (let low : c.loop-t.t < length c.loop-t.walks = omega arith in rw get_or-set_same (ap (started 0) c.known_front.ensures));
    }

pub returns : goal.returns
returns c = record { each = λ u h. c.loop-t.invariant.each u (omega arith); room = c.loop-t.invariant.room }
