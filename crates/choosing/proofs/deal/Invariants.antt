-- `choosing::deal` meets its contract.
use Rattle.choosing.specs.Dealing.{DealtTo}
use Rattle.choosing.proofs.deal.Given as goal

abbrev pub invariant-loop-own : goal.invariant-loop-own
invariant-loop-own l = DealtTo l.kind l.kinds l.v l.own-index l.d
