-- A feed of an open ticket takes at least a byte, where the list holds no record and the tables are as the replacement left them.
use Rattle.desk.specs.Given.{Feeding}
use Rattle.desk.specs.declared.FeedRefusal.TheVariants as F
use Rattle.desk.specs.declared.StateAnswer.TheVariants as A
use Rattle.std.specs.Prelude.{◌-◌, ◌<◌, suc, ℕ, List, ◌∷◌, ◌≡◌, refl, length, Err}
use Rattle.std.proofs.Common.{◌∙◌, ap, sym, arith}
use Rattle.desk.specs.Feed.{feed_of, taken_by}
use Rattle.desk.specs.Laws.Good.{on-place, room-held}
use Rattle.desk.proofs.Laws.Good.{good}
use Rattle.desk.specs.Laws.Views.{Feeds, feed_long, feed_no-place, feed_no-ticket, feed_other-slots, feed_read, feed_stale}
use Rattle.desk.proofs.Laws.Views.{feeds}
use Rattle.desk.specs.Laws.Views.{States, state-closed, state-never, state_open, state-stale, states}
use Rattle.desk.specs.Rooms.{room_of, ticket_in}
use Rattle.desk.specs.State.{state_of}
use Rattle.desk.specs.declared.Desk.{Desk}
use Rattle.desk.specs.declared.Edition.{Edition}
use Rattle.desk.specs.declared.Serial.{Serial}
use Rattle.desk.specs.declared.StateAnswer.{StateAnswer}
use Rattle.desk.specs.declared.Ticket.{Ticket}
use Rattle.history.specs.History.{account_at, AllBytes, AsLeft, run, start, World}
use Rattle.history.specs.Laws.Feeding.{agrees, force}
use Rattle.history.specs.Laws.Invariant.{given, InForce, Inv}
use Rattle.history.specs.Laws.LedgerSteps.{sound}
use Rattle.history.specs.Laws.Numbers.{differ}
use Rattle.matching.specs.Words.{Word}
use Rattle.desk.specs.Laws.Layout.{desk-goes-on}
use Rattle.desk.specs.Reached.{Call}
use Rattle.desk.specs.Layout.{Kind}
use Rattle.desk.specs.Conditions.{Current, HasRoom, NoneHeld, ticket_of}
use Rattle.desk.specs.Limits.{most_records, most_tickets}
use Rattle.desk.specs.Laws.Rooms.{for_held}

-- a ticket that the desk shows as open has a room and is of the edition in force
open_has : (d : Desk) (s : Serial) (e : Edition) (n : ℕ) → state_of d s ≡ A.Open e n
    → (room_of d.tickets s < most_tickets) × ((ticket_in d.tickets (room_of d.tickets s)).edition.0 ≡ d.edition.0)
open_has d s e n = go _ (states d s)
  where
    go : (a : StateAnswer) → States d s a → a ≡ A.Open e n → (room_of d.tickets s < most_tickets) ×
        ((ticket_in d.tickets (room_of d.tickets s)).edition.0 ≡ d.edition.0)
    go a (state-never h x) z = differ cc
    go a (state-closed h x y) z = differ cc
    go a (state-stale t q h x) z = differ cc
    go a (state_open t q h x) z = (h, ap (λ (y : Ticket). y.edition.0) (sym q) ∙ x)

-- no byte has more matches than there are tags, and an empty list has room for a record of each
pub takes_a-byte : (kind : Kind) (calls : List Call) → AllBytes calls → (s : Serial) → HasRoom (run (start kind) calls).desk s
    → Current (run (start kind) calls).desk s
    → NoneHeld (run (start kind) calls).desk → (c : ℕ) (piece : Word)
    → ((feed_of (run (start kind) calls).desk s (run (start kind) calls).table (c ∷ piece)).answer ≡ Err F.Long → ⊥)
    → 0 < taken_by (feed_of (run (start kind) calls).desk s (run (start kind) calls).table (c ∷ piece)).answer
takes_a-byte kind calls b s room current empty c piece not-long = go _ (feeds d s w.table (c ∷ piece)) refl
  where
    w : World
    w = run (start kind) calls

    d : Desk
    d = w.desk

    v : Inv (AsLeft (start kind) calls) w
    v = (sound kind calls b).inv

    here : (k : ℕ) × (k < length w.accounts) × (s.0 ≡ suc k)
    here = given w v s room

    in_force : InForce w.table (account_at w here.0).tags d.slots
    in_force = force w v s here.0 here.1 here.2 room current

    go : (r : Feeding) → Feeds d (room_of d.tickets s) w.table (c ∷ piece) r → feed_of d s w.table (c ∷ piece) ≡ r → 0 < taken_by r.answer
    go r (feed_no-ticket h) q = absurd (omega (arith, h, room))
    go r (feed_stale h e) q = absurd (e current)
    go r (feed_other-slots h e n) q = absurd (n in_force.slots_are)
    go r (feed_long h e l m) q = absurd (not-long (ap (λ (x : Feeding). x.answer) q))
    go r (feed_no-place h e l m n) q = absurd (on-place d s w.table (good v.reached) h e l n)
    go r (feed_read h e l m) q =
        let t = ticket_of d s in
        let g = good v.reached in
        let p = g.places (room_of d.tickets s) (for_held s t (room-held d s g h)).0 in
        let edition : 0 < d.edition.0 = omega
        (arith, current, (agrees w v s here.0 here.1 here.2 room).edition, (v.kept here.0 here.1).from) in
        desk-goes-on w.table (account_at w here.0).tags d.slots in_force.holds in_force.slots_are (g.slots edition) t.place p.width
        (p.below e)
        t.taken (most_records - d.records.count) c piece (omega (arith, empty))

-- PROGRESS: with no record held, a feed of an open ticket takes at least one byte of a piece that has one and isn't LONG, over the tables as the
-- replacement left them, whatever tables earlier feeds were lent
pub progress : (kind : Kind) (calls : List Call) → AllBytes calls → (s : Serial) (e : Edition) (n : ℕ) → state_of (run (start kind) calls).desk s ≡ A.Open e n
    → NoneHeld (run (start kind) calls).desk → (c : ℕ) (piece : Word)
    → ((feed_of (run (start kind) calls).desk s (run (start kind) calls).table (c ∷ piece)).answer ≡ Err F.Long → ⊥)
    → 0 < taken_by (feed_of (run (start kind) calls).desk s (run (start kind) calls).table (c ∷ piece)).answer
progress kind calls b s e n is_open = let have = open_has (run (start kind) calls).desk s e n is_open in takes_a-byte kind calls b s have.0 have.1
