use mathlib.Core.Path.{◌∙◌, ◌≡◌, ap, sym}
use Prim.Native.Nat.{ℕ}
use lib.Dec.{eqb}
use lib.ListN.{get_or, length}
use Rattle.desk.specs.Laws.Layout.{fits-first, fits-second}
use Rattle.desk.proofs.layout.fits.Goals as goal

pub returns-then-slots-remembered : goal.returns-then-slots-remembered
returns-then-slots-remembered c =
    let a = c.args in
    let two : length a.remembered ≡ 2 = c.well_formed.1.1.0.1.0.1 in
    sym (fits-first a.first a.second a.remembered two (λ e. c.if-slots-remembered.true (c.slots.ensures ∙ e)))

pub returns : goal.returns
returns c =
    let a = c.args in
    let two : length a.remembered ≡ 2 = c.well_formed.1.1.0.1.0.1 in
    ap (λ (n : ℕ). eqb n (get_or a.remembered 1 0)) c.slots-2.ensures
    ∙ sym (fits-second a.first a.second a.remembered two (sym c.slots.ensures ∙ c.if-slots-remembered.false))
