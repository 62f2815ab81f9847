use Prim.Native.Nat.{◌+◌, ◌*◌}
use mathlib.Core.List.{List}
use mathlib.Core.Path.{◌∙◌, ap, refl}
use lib.ListN.{get_or}
use native.Mathlib.Numerals.{add-one}
use Rattle.gate.specs.Noting.{noted_numbers, noted_one}
use Rattle.gate.specs.declared.Seen.{Seen}
use Rattle.gate.proofs.noting.note_all.Goals as goal

pub loop-j-init : goal.loop-j-init
unfolding noted_numbers
loop-j-init c = refl

pub loop-j-preserved : goal.loop-j-preserved
unfolding noted_numbers
loop-j-preserved c =
    let l = c.loop-j in
    let a = c.args in
    rw (add-one l.j)
    (c.note.ensures
    ∙ ap (λ (x : List Seen). noted_one a.tickets.now x (get_or a.list.now (4 * l.j) 0) (get_or a.list.now (4 * l.j + 3) 0)) l.invariant)
