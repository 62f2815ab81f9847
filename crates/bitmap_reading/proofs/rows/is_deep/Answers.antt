-- A product of 0 has a factor of 0.
use mathlib.Core.Path.{◌∙◌, ap, sym}
use lib.Dec.{eqb}
use borrow.Author.Tests.{eqb-true}
use Rattle.bitmap.specs.Steps.{in_map}
use Rattle.bitmap_reading.specs.Laws.Rows.{not-not, shallow}
use Rattle.bitmap_reading.proofs.rows.is_deep.Goals as goal

pub returns : goal.returns
unfolding in_map
returns c = λ e.
    shallow c.args.table.now.numbers.now c.args.q c.args.c c.own_bit.result c.number.result
    (ap (λ x. eqb x 1) c.own_bit.ensures) c.number.ensures (sym c.times.ensures ∙ eqb-true _ 0 (not-not _ e))
