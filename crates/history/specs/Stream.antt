-- THE STREAM of all records: what is added comes behind all others, and how many there are.
use Rattle.std.specs.Prelude.{◌+◌, List, ◌≡◌, refl, length}
use Rattle.std.proofs.Common.{◌∙◌, sym, length-append}
use Rattle.desk.specs.Layout.{Kind}
use Rattle.desk.specs.Reached.{Call}
use Rattle.desk.specs.Shared.{held, round}
use Rattle.history.specs.History.{AllBytes, AsLeft, run, start, step}
use Rattle.history.specs.Laws.Invariant.{inv_start}
use Rattle.history.specs.Laws.LedgerSteps.{sound}
use Rattle.history.specs.Laws.Streams.{adds, even-run}
use Rattle.history.specs.RecordsHeld.{Adds, occurrences_in}

-- each call of a history adds its records behind all those there were: taken out or held, none is lost, and none changes its place
pub stream_grows : (kind : Kind) (calls : List Call) → AllBytes calls → (c : Call) → Adds (run (start kind) calls) (step (run (start kind) calls) c) c
stream_grows kind calls b = adds (run (start kind) calls) (sound kind calls b).inv.reached

-- THE TOTAL: the records handed out and those still held are, together, as many as the occurrences in what was ever taken for any ticket
pub totals : (kind : Kind) (calls : List Call) → AllBytes calls → AsLeft (start kind) calls
    → length (run (start kind) calls).out + length (held (run (start kind) calls).desk.records) ≡ occurrences_in (run (start kind) calls).accounts
unfolding occurrences_in round
totals kind calls b lent =
    sym (length-append (run (start kind) calls).out (held (run (start kind) calls).desk.records)) ∙ even-run (start kind) calls b lent (inv_start kind) refl
