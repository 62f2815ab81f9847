-- The library's test of all, which is the rules' own.
use Rattle.std.proofs.Common.{ℕ, Bool, List, [], ◌∷◌, ◌≡◌, ◌∙◌, ◌&&◌, refl, ap, take, rules, tests, ltb}
use Rattle.std.proofs.lemmas.Iterator.{YieldsList-from_slice}
use Rattle.std.proofs.lemmas.Iterator.Search.{all_from_yields_List}
use Rattle.std.specs.List.{list_all}
use Rattle.matching.specs.Reading.{all_below}
use Rattle.passing.proofs.places.all_below.Goals as goal

all_below-listed : (s : ℕ) (qs : List ℕ) → list_all (λ q. ltb q s) qs ≡ all_below s qs
unfolding all_below
all_below-listed s [] = refl
all_below-listed s (q ∷ qs) = ap (λ (b : Bool). ltb q s && b) (all_below-listed s qs)

pub returns : goal.returns
returns c =
    all_from_yields_List (λ q. ltb q c.args.s) _ _ _ c.all.ensures.ran (YieldsList-from_slice (take c.args.k c.args.place) cc) (λ x b q k. search (rules, tests))
    ∙ all_below-listed c.args.s (take c.args.k c.args.place)
