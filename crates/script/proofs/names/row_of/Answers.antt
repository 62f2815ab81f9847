-- `script::names::row_of` meets its contract: as the library's search finds the row.
use Rattle.std.proofs.Common.{rules, tests, Bor, List, ℕ, bytes_eq, ◌≡◌, refl, ap, ◌∙◌}
use Rattle.std.specs.Option.{option_map}
use Rattle.std.proofs.lemmas.Iterator.{YieldsList-from_slice}
use Rattle.std.proofs.lemmas.Iterator.Search.{find_from_yields_List}
use Rattle.script.specs.Calls.{first_row}
use Rattle.script.specs.Laws.Calls.{first_row_found}
use Rattle.script.proofs.names.row_of.Goals as goal

pub returns : goal.returns
returns g c =
    let w = c.args.word.now in
    let named : c.map.result ≡ option_map (λ row. row.1) (option_map (λ x. x.now) c.find.result) = search rules in
    named
    ∙ first_row_found {B = Bor (List ℕ) × g.row.A.Denot} (λ row. row.0.now) (λ row. row.1) w c.iter.result.rest.now
    (find_from_yields_List (λ row. bytes_eq row.0.now w) _ _ c.find.result c.find.ensures.ran (YieldsList-from_slice _ refl)
    (λ x b q k. search (rules, tests)))
    ∙ ap (first_row {B = Bor (List ℕ) × g.row.A.Denot} (λ row. row.0.now) (λ row. row.1) w) c.iter.ensures.rest
