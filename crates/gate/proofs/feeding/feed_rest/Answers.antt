use Rattle.std.specs.Prelude.{ℕ, replicate}
use Rattle.std.proofs.Common.{sym}
use Rattle.std.proofs.lemmas.List.{length-replicate}
use Rattle.desk.specs.Layout.{lent}
use Rattle.desk.specs.Laws.Pieces.{at-most-held}
use Rattle.gate.specs.Laws.Feeding.{rest-fed}
use Rattle.gate.proofs.feeding.feed_rest.Goals as goal

pub note_all-requires : goal.note_all-requires
note_all-requires c = at-most-held c.feed-feeding.result.desk c.take_many-taking.result (replicate 1024 0) (sym (length-replicate {A = ℕ} 1024 0))
    c.take_many-taking.ensures.value

pub returns : goal.returns
returns c =
    let a = c.args in
    let f = c.feed-feeding in
    let t = c.take_many-taking in
    rest-fed a.gate a.serial (lent a.first.now a.second.now) a.rest.now f.result t.result (replicate 1024 0) _ _ _ f.ensures
    (sym (length-replicate {A = ℕ} 1024 0)) t.ensures.value t.ensures.list_after c.note_all.ensures c.taken_by.ensures
