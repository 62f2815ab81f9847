use mathlib.Core.Path.{◌≡◌}
use Rattle.gate.specs.Noting.{noted_numbers}
use Rattle.gate.proofs.noting.note_all.Given as goal

abbrev pub invariant-loop-j : goal.invariant-loop-j
invariant-loop-j l = l.seen ≡ noted_numbers l.tickets l.initial.seen l.j l.list
