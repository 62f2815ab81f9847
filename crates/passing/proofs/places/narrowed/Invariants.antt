-- The first m numbers are copied; each fits.
use Rattle.passing.specs.Laws.Below.{Copied}
use Rattle.passing.proofs.places.narrowed.Given as goal

abbrev pub invariant-loop-m : goal.invariant-loop-m
invariant-loop-m l = Copied l.fn.place l.at l.m
