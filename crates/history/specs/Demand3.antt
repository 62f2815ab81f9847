-- DEMAND 3. From a new desk, any mixture of openings, feeds, closings, takings and replacements. Where each feed is lent the table as the last
-- accepted replacement left it the theorem asks for `AsLeft`; what does not is so over any tables.
use Rattle.std.specs.Prelude.{◌<◌, suc, ℕ, List, [], ◌⊎◌, ◌≡◌, get_or, length}
use Rattle.std.proofs.Common.{inl, inr, ◌∙◌, ap, subst, sym, arith}
use Rattle.desk.specs.Conditions.{SameSlots}
use Rattle.desk.specs.Reached.{Call, Reached}
use Rattle.desk.specs.Rooms.{room_of, serial_of, ticket_in}
use Rattle.desk.specs.State.{state_of}
use Rattle.desk.specs.declared.Desk.{Desk}
use Rattle.desk.specs.declared.Serial.{Serial}
use Rattle.history.specs.History.{account_at, AllBytes, AsLeft, OpenOrStale, records_due, run, start, stream, World}
use Rattle.history.specs.Laws.Answering.{open_room}
use Rattle.history.specs.Laws.Becomes.{Becomes, becomes_sound}
use Rattle.history.specs.Laws.Invariant.{Inv, Stranger, inv_start}
use Rattle.history.specs.Laws.Ledger.{ledger_start, no_order}
use Rattle.history.specs.Laws.LedgerSteps.{sound, sound-left, SoundLeft}
use Rattle.history.specs.Laws.ServingAll.{served}
use Rattle.history.specs.Laws.States.{known_or_not, records-same, states-same}
use Rattle.history.specs.Served.{NoneRefused, joined, serving}
use Rattle.matching.specs.Words.{Word}
use Rattle.desk.specs.Layout.{Kind}
use Rattle.history.specs.Cases.{LeftBy}
use Rattle.desk.specs.Shared.{records_for}

-- the serials that openings answered are 1, 2, .. in order, so none was given twice; the edition in force is the number of replacements
-- accepted; and the desk is one that the calls have made
pub record Numbered (w : World) : Type 0 where
  pub serials : (k : ℕ) → k < length w.accounts → (account_at w k).serial ≡ suc k
  pub editions : w.edition ≡ length w.orders
  pub reached : Reached w.desk

pub numbered : (kind : Kind) (calls : List Call) → AllBytes calls → Numbered (run (start kind) calls)
numbered kind calls b =
    let s = sound kind calls b in
    record { serials = s.inv.numbered; editions = sym s.ledger.editions; reached = s.inv.reached }

-- THE LAST REPLACEMENT IS IN FORCE: its tags, its table, and the slots that the desk asks of a lent table
pub last_in_force : (kind : Kind) (calls : List Call) → AllBytes calls → (e : ℕ) → length (run (start kind) calls).orders ≡ suc e
    → LeftBy (run (start kind) calls) (get_or (run (start kind) calls).orders e no_order)
last_in_force kind calls b e q = let g = (sound kind calls b).ledger in g.last e (sym g.editions ∙ q)

-- FIRST PART. For every ticket, the records taken out and those still held, in order, are the occurrences of the tags of the edition under
-- which it was opened, in the bytes taken for it
pub first_part : (kind : Kind) (calls : List Call) → AllBytes calls → AsLeft (start kind) calls → (k : ℕ) → k < length (run (start kind) calls).accounts
    → records_for (account_at (run (start kind) calls) k).serial (stream (run (start kind) calls)) ≡ records_due (account_at (run (start kind) calls) k)
first_part kind calls b left k h =
    let v = (sound kind calls b).inv in
    ap (λ (n : ℕ). records_for n (stream (run (start kind) calls))) (v.numbered k h) ∙ v.records left k h

-- and no others: where no opening answered a serial, there is no record of it
pub no-others : (kind : Kind) (calls : List Call) → AllBytes calls → (n : ℕ)
    → ((k : ℕ) → k < length (run (start kind) calls).accounts → (account_at (run (start kind) calls) k).serial ≡ n → ⊥)
    → records_for n (stream (run (start kind) calls)) ≡ []
no-others kind calls b n h = go (known_or_not (run (start kind) calls) v n)
  where
    v : Inv (AsLeft (start kind) calls) (run (start kind) calls)
    v = (sound kind calls b).inv

    go : ((k : ℕ) × (k < length (run (start kind) calls).accounts) × (n ≡ suc k)) ⊎ Stranger (length (run (start kind) calls).accounts) n
        → records_for n (stream (run (start kind) calls)) ≡ []
    go (inl z) = absurd (h z.0 z.1 (v.numbered z.0 z.1 ∙ sym z.2))
    go (inr z) = v.nobody n z

-- the count of bytes taken that a desk itself keeps for a serial
abbrev pub taken_for : Desk → Serial → ℕ
taken_for d s = (ticket_in d.tickets (room_of d.tickets s)).taken

-- for each ticket that is not closed the desk's own count is the number of bytes taken for it
abbrev pub Counted : World → Type 0
Counted w = (s : Serial) (k : ℕ) → OpenOrStale w s k → taken_for w.desk s ≡ length (account_at w k).bytes

counted_in : {Left : Type 0} (w : World) → Inv Left w → Counted w
counted_in w v s k o =
    let e : serial_of (account_at w k).serial ≡ s = λ d. record { 0 = o.serial d } in
    subst (λ (n : Serial). taken_for w.desk n ≡ length (account_at w k).bytes) e (open_room w v k o.inside o.not-closed).1.taken

-- after any history it is
pub counted : (kind : Kind) (calls : List Call) → AllBytes calls → Counted (run (start kind) calls)
counted kind calls b = counted_in (run (start kind) calls) (sound kind calls b).inv

-- two worlds in which every ticket has had the same: the same edition, bytes (and so their count) and closing, the same records in the
-- same order, and the same state on the desk, with its numbers; and in both the desk counts those bytes
pub record SameTickets (w v : World) : Type 0 where
  pub accounts : v.accounts ≡ w.accounts
  pub counts : Counted w × Counted v
  pub records : (n : ℕ) → records_for n (stream v) ≡ records_for n (stream w)
  pub states : (s : Serial) → state_of v.desk s ≡ state_of w.desk s

-- SECOND PART. They are the same as where the tickets are served one after another by serial, each under its own edition and fed just the
-- bytes taken for it, in whatever pieces, the list emptied whenever a feed stops FULL, refused calls left away, and later replacements
-- following; and there no call is refused, and each feed is lent the table as left
pub second-part : (kind : Kind) (calls : List Call) → AllBytes calls → AsLeft (start kind) calls → (cut : ℕ → List Word)
    → ((k : ℕ) → k < length (run (start kind) calls).accounts → joined (cut k) ≡ (account_at (run (start kind) calls) k).bytes)
    → NoneRefused (start kind) (serving kind cut (run (start kind) calls)) × AsLeft (start kind) (serving kind cut (run (start kind) calls))
    × SameTickets (run (start kind) calls) (run (start kind) (serving kind cut (run (start kind) calls)))
second-part kind calls b left cut cuts = (
  c.none,
  c.left,
  record {
    accounts = c.accounts_are;
    counts = (counted_in w s.inv, counted_in v t.inv);
    records = records-same w v s.inv t.inv tt c.accounts_are;
    states = states-same w v s.inv t.inv c.accounts_are (sym t.ledger.editions ∙ ap {B = ℕ} length c.orders_are ∙ s.ledger.editions);
  },
)
  where
    w : World
    w = run (start kind) calls

    v : World
    v = run (start kind) (serving kind cut w)

    s : SoundLeft w
    s = sound-left kind calls b left

    c : Becomes (start kind) (serving kind cut w) w.orders w.accounts
    c = served kind w s cut cuts

    t : SoundLeft v
    t = becomes_sound (start kind) (serving kind cut w) _ _ (record { inv = inv_start kind; ledger = ledger_start kind }) c

-- the table as left has the slots that the desk asks for
pub left-fits : (kind : Kind) (calls : List Call) → AllBytes calls → 0 < length (run (start kind) calls).orders
    → SameSlots (run (start kind) calls).desk (run (start kind) calls).table
left-fits kind calls b h = let s = sound kind calls b in (s.inv.force (omega (arith, h, s.ledger.editions))).slots_are
