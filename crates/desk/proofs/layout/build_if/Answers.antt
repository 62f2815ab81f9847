use Rattle.desk.specs.Layout.{desk_built, desk_table}
use mathlib.Core.Bool.{Bool, cond, false, true}
use mathlib.Core.List.{[], ◌∷◌}
use mathlib.Core.Path.{◌∙◌, ◌≡◌, ap, refl}
use Rattle.desk.specs.Layout.{lent_from}
use Rattle.matching.specs.Parts.{Runs, split_layout}
use Rattle.tables.specs.Building.{tables_of}
use Rattle.desk.proofs.layout.build_if.Goals as goal

-- either way, as what is lent
cond-lent : (b : Bool) (x y : Runs) → lent_from (cond b x y) ≡ cond b (lent_from x) (lent_from y)
cond-lent true x y = refl
cond-lent false x y = refl

pub returns : goal.returns
unfolding desk_built desk_table
returns c =
    let built = c.build_split_if.ensures in
    let a = c.args in
    let runs = a.first.now ∷ a.second.now ∷ [] in
    record { answer = built.answer; left = ap lent_from built.left ∙ cond-lent a.write (tables_of split_layout a.set.now runs) runs }
