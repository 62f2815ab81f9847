use Rattle.std.specs.Prelude.{ℕ, replicate}
use Rattle.std.proofs.Common.{sym}
use Rattle.std.proofs.lemmas.List.{length-replicate}
use Rattle.desk.specs.Layout.{lent}
use Rattle.desk.specs.Laws.Pieces.{at-most-held}
use Rattle.serving.specs.Laws.Serving.{rest-fed}
use Rattle.serving.proofs.feed_rest.Goals as goal

pub put_records-requires : goal.put_records-requires
put_records-requires c =
    at-most-held c.feed-feeding.result.desk c.take_many-taking.result (replicate 1024 0) (sym (length-replicate {A = ℕ} 1024 0))
    c.take_many-taking.ensures.value

pub returns : goal.returns
returns c =
    let a = c.args in
    let f = c.feed-feeding in
    let t = c.take_many-taking in
    rest-fed a.serial (lent a.first.now a.second.now) a.desk a.rest.now _ _ f.result t.result (replicate 1024 0) _ _ f.ensures
    (sym (length-replicate {A = ℕ} 1024 0)) t.ensures.value t.ensures.list_after c.taken_by.ensures c.put_records.ensures
