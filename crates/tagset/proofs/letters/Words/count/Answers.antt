-- `tagset::Words::count` meets its contract.
use Rattle.std.proofs.Common.{sym}
use Rattle.tagset.specs.Laws.Places.{cut_at-long}
use Rattle.tagset.proofs.letters.Words.count.Goals as goal

pub returns-clause-counted : goal.returns-clause-counted
returns-clause-counted c =
    let words = c.args.self.now in
    sym (cut_at-long words.letters.now words.from.now words.to.now words.ended)
