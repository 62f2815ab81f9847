-- `script::words::reach` meets its contract: what the library's search finds.
use Rattle.std.proofs.Common.{rules, tests, Option, ℕ, ap, ◌∙◌, eqb, unwrap_or, length}
use Rattle.std.proofs.lemmas.Iterator.{YieldsList-from_slice}
use Rattle.std.proofs.lemmas.Iterator.Search.{position_from_yields_List}
use Rattle.script.specs.Laws.Words.{reach_found}
use Rattle.script.proofs.words.reach.Goals as goal

pub returns : goal.returns
returns c =
    let l = c.args.bytes.now in
    c.unwrap_or.ensures
    ∙ ap (λ (o : Option ℕ). unwrap_or o (length l)) (position_from_yields_List (λ x. eqb x c.args.b) _ _ c.position.result c.position.ensures.ran
    (YieldsList-from_slice _ c.iter.ensures.rest) (λ x b q k. search (rules, tests)))
    ∙ reach_found c.args.b l
