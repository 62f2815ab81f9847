-- `script::call_of` meets its contract: a line too long, a line passed over, or a call by its name.
use Rattle.std.proofs.Common.{rules, None, Some, length, refl, ap, ◌∙◌, arith}
use Rattle.script.specs.Words.{reach, behind}
use Rattle.script.specs.Calls.{meant}
use Rattle.script.specs.Laws.Words.{length-behind}
use Rattle.script.specs.Laws.Calls.{call_named}
use Rattle.script.proofs.call_of.Goals as goal

pub by_name-requires : goal.by_name-requires
by_name-requires c = (omega (arith, ap length c.behind.ensures, length-behind c.args.line.now), omega arith)

pub returns-in_default-name_of-clause-call_after : goal.returns-in_default-name_of-clause-call_after
returns-in_default-name_of-clause-call_after c =
    let l = c.args.line.now in
    call_named l c.word.result.now (behind l) None (reach 32 l) (omega arith) (search rules) (search rules) c.word.ensures c.in_default-name_of.ensures
    refl refl

pub returns-clause-call_after : goal.returns-clause-call_after
returns-clause-call_after c =
    ap (meant c.by_name.new.buffer) c.unwrap_or.ensures
    ∙ c.by_name.ensures.says.means
    ∙ call_named c.args.line.now c.word.result.now c.behind.result.now (Some c.in-Some.name) c.reach.result (omega arith) (search rules)
    (search rules) c.word.ensures c.in-Some.ensures c.reach.ensures c.behind.ensures
