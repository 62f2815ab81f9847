-- A taking keeps the stream of records: the oldest of those held goes behind those taken out.
use Rattle.desk.specs.Given.{Taking}
use Rattle.std.specs.Prelude.{◌%◌, List, [], ◌++◌, ◌∷◌, ◌≡◌, refl, get_or}
use Rattle.std.proofs.Common.{append_assoc, append-nil, ◌∙◌, ap, sym}
use Rattle.desk.specs.Laws.Good.{GoodDesk}
use Rattle.desk.proofs.Laws.Good.{good}
use Rattle.desk.specs.Laws.Shared.{held-popped}
use Rattle.desk.specs.Laws.Views.{Takes, take-nothing, take-oldest, takes}
use Rattle.desk.specs.Reached.{by_call, call_take, Reached}
use Rattle.desk.specs.Shared.{held, no_record, popped}
use Rattle.desk.specs.declared.Record.{Record}
use Rattle.history.specs.History.{World, step, stream, taking}
use Rattle.history.specs.Laws.Invariant.{Inv, inv_stream}
use Rattle.desk.specs.Limits.{most_records}

pub stream_takes : (w : World) (r : Taking) → GoodDesk w.desk → Takes w.desk r → stream (taking w r.desk r.answer) ≡ stream w
stream_takes w r g (take-nothing e) = ap {B = List Record} (λ (l : List Record). l ++ held w.desk.records) (append-nil w.out)
stream_takes w r g (take-oldest h) =
    append_assoc w.out (get_or w.desk.records.ring (w.desk.records.first % most_records) no_record ∷ []) (held (popped w.desk.records))
    ∙ ap {B = List Record} (λ (l : List Record). w.out ++ l) (sym (held-popped w.desk.records h))

pub inv_takes : {Left : Type 0} (w : World) → Inv Left w → Inv Left (step w call_take)
inv_takes {Left} w v = go _ (takes w.desk) (by_call v.reached call_take)
  where
    go : (r : Taking) → Takes w.desk r → Reached r.desk → Inv Left (taking w r.desk r.answer)
    go r (take-nothing e) p = inv_stream w _ v p refl refl refl refl refl refl refl refl (stream_takes w r (good v.reached) (take-nothing e))
    go r (take-oldest h) p = inv_stream w _ v p refl refl refl refl refl refl refl refl (stream_takes w r (good v.reached) (take-oldest h))
