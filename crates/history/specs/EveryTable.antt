-- Over every table, ours or not: in which order records are written and handed out, and that a closed serial stays one.
use Rattle.desk.specs.Given.{not_held}
use Rattle.desk.specs.declared.FeedRefusal.TheVariants as F
use Rattle.std.specs.Prelude.{◌+◌, ◌/◌, ◌<◌, ℕ, Bool, false, true, List, ◌≡◌, ltb, length, Err}
use Rattle.std.proofs.Common.{subst, le_trans}
use Rattle.desk.specs.Calls.{close_of}
use Rattle.desk.specs.Feed.{feed_of}
use Rattle.desk.specs.Layout.{Kind, Lent}
use Rattle.desk.specs.Reached.{Call, Reached}
use Rattle.desk.specs.Rooms.{serial_of}
use Rattle.desk.specs.declared.Desk.{Desk}
use Rattle.history.specs.History.{AllBytes, account_at, run, start}
use Rattle.history.specs.Laws.Answering.{closed-room}
use Rattle.history.specs.Laws.ByRoom.{no-room_close, no-room_feed}
use Rattle.history.specs.Laws.Held.{call_held}
use Rattle.history.specs.Laws.Later.{goes-run}
use Rattle.history.specs.Laws.LedgerSteps.{any_sound, sound-run}
use Rattle.history.specs.Laws.Numbers.{differ}
use Rattle.history.specs.RecordsHeld.{HeldAfter}
use Rattle.matching.proofs.Laws.Parts.{kept_in}
use Rattle.matching.specs.Limits.{largest}
use Rattle.matching.specs.Occurrence.{Ordered}
use Rattle.matching.specs.Parts.{Layout, Runs, lengths, place_below, read_in, slots_over}
use Rattle.matching.specs.Reading.{Outcome}
use Rattle.matching.specs.Words.{Word}
use Rattle.reading.specs.Outside.{read_by, read_of, read_to}

-- BY END, THEN BY TAG NUMBER: over any tables the records that a read writes come so, and none twice
pub read-ordered : (layout : Layout) (runs : Runs) (place : List ℕ) (count : ℕ) (piece : Word) (list : ℕ) (r : Outcome)
    → read_of layout runs place count piece list ≡ read_to r → Ordered r.found
unfolding read_of
read-ordered layout runs place count piece list r =
    go (place_below layout (slots_over layout (lengths runs)) place) (ltb largest (count + length piece))
  where
    x : Outcome
    x = read_in layout runs place count (list / 2) piece

    go : (below long : Bool) → read_by (read_in layout runs place count (list / 2) piece) below long ≡ read_to r → Ordered r.found
    go false long q = differ cc
    go true true q = differ cc
    go true false q = let e : x ≡ r = cc in subst (λ (y : Outcome). Ordered y.found) e (kept_in layout runs place count (list / 2) piece).ordered

-- OLDEST FIRST, of every desk that calls have made, whatever tables its feeds were lent: a taking hands out the oldest of all records held, a
-- feed puts all that it found behind them, and none is lost or changes its place
pub oldest-first : {d : Desk} → Reached d → (c : Call) → HeldAfter d c
oldest-first = call_held

-- CLOSED FOR EVER: after any more calls a feed of a closed serial, over any table, and a close of it are NO TICKET, and change nothing
pub closed_for_ever : (kind : Kind) (calls more : List Call) → AllBytes calls → AllBytes more → (k : ℕ) → k < length (run (start kind) calls).accounts
    → (account_at (run (start kind) calls) k).closed ≡ true → (table : Lent) (piece : Word)
    → (feed_of (run (run (start kind) calls) more).desk (serial_of (account_at (run (start kind) calls) k).serial) table piece
    ≡ record { desk = (run (run (start kind) calls) more).desk; answer = Err F.NoTicket })
    × (close_of (run (run (start kind) calls) more).desk (serial_of (account_at (run (start kind) calls) k).serial)
    ≡ record { desk = (run (run (start kind) calls) more).desk; answer = Err not_held })
closed_for_ever kind calls more b c k h closed table piece =
    let w = run (start kind) calls in
    let v = run w more in
    let s = any_sound kind calls b in
    let t = sound-run w more c (λ z. absurd z) s in
    let g = goes-run w more c (λ z. absurd z) s.inv in
    let l = g.each k h in
    let none = closed-room v t.inv k (le_trans h g.accounts) (l.closed closed) in
    subst (λ (n : ℕ). (feed_of v.desk (serial_of n) table piece ≡ record { desk = v.desk; answer = Err F.NoTicket })
    × (close_of v.desk (serial_of n) ≡ record { desk = v.desk; answer = Err not_held })) l.serial
    (no-room_feed v.desk _ table piece none, no-room_close v.desk _ none)
