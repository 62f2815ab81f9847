-- After a replacement an older ticket is stale and takes no byte, or stays closed.
use Rattle.desk.specs.Given.{Feeding, Closing, ReplaceAnswer, Replacing, not_held, replaced_as}
use Rattle.desk.specs.declared.Replaced.{Replaced}
use Rattle.desk.specs.declared.FeedRefusal.TheVariants as F
use Rattle.desk.specs.declared.StateAnswer.TheVariants as A
use Rattle.std.specs.Prelude.{◌+◌, ◌<◌, suc, ℕ, Bool, false, not, true, List, ◌≡◌, refl, eqb, length, Ok, Err}
use Rattle.std.proofs.Common.{inr, ◌∙◌, ap, ap₂, subst, sym, le_trans, arith}
use Rattle.desk.specs.Calls.{close_of}
use Rattle.desk.specs.Feed.{feed_of}
use Rattle.desk.specs.Laws.Views.{Closes, close_done, close_no-ticket, closes}
use Rattle.desk.specs.Laws.Views.{Feeds, feed_long, feed_no-place, feed_no-ticket, feed_other-slots, feed_read, feed_stale}
use Rattle.desk.proofs.Laws.Views.{feeds}
use Rattle.desk.specs.Laws.Views.{Replaces, replace_done, replace_edition-end, replace_fault, replace_table, replaces}
use Rattle.desk.specs.Replace.{replace_of}
use Rattle.desk.specs.Rooms.{edition_of, room_of, serial_of, ticket_in}
use Rattle.desk.specs.State.{state_by, state_of}
use Rattle.desk.specs.declared.Edition.{Edition}
use Rattle.desk.specs.declared.Serial.{Serial}
use Rattle.history.specs.History.{Account, account_at, AllBytes, AsLeft, replacing, run, start, step, World}
use Rattle.history.specs.Laws.Answering.{closed-room, open_room}
use Rattle.history.specs.Laws.ByRoom.{no-room_close, no-room_feed}
use Rattle.history.specs.Laws.Invariant.{Inv}
use Rattle.history.specs.Laws.Later.{goes-run}
use Rattle.history.specs.Laws.LedgerSteps.{any_sound, sound, sound-run}
use Rattle.history.specs.Laws.Numbers.{differ}
use Rattle.history.specs.Laws.Seats.{Agrees}
use Rattle.history.specs.Laws.States.{state-is, state_of_account}
use Rattle.history.specs.Laws.Steps.{inv_step}
use Rattle.matching.specs.Laws.Bools.{is_false}
use Rattle.matching.specs.Laws.Words.{eqb_eq}
use Rattle.matching.specs.Words.{Word}
use Rattle.desk.specs.Layout.{Kind, Lent, Order, OrderBytes, sizes_of}
use Rattle.desk.specs.Reached.{Call, call_replace}
use Rattle.desk.specs.Limits.{most_tickets}

-- what the desk says of a ticket that is older than the set: it is stale with its edition and its bytes taken, or closed if it was closed; a feed is
-- refused, over every table; and
-- while it is stale it can be closed
pub record Older (w : World) (a : Account) : Type 0 where
  pub stale-state : a.closed ≡ false → state_of w.desk (serial_of a.serial) ≡ A.Stale (edition_of a.edition) (length a.bytes)
  pub closed-state : a.closed ≡ true → state_of w.desk (serial_of a.serial) ≡ A.Closed
  pub stale_feed : a.closed ≡ false → (table : Lent) (piece : Word)
      → feed_of w.desk (serial_of a.serial) table piece ≡ record { desk = w.desk; answer = Err (F.Stale (edition_of a.edition)) }
  pub closed_feed : a.closed ≡ true → (table : Lent) (piece : Word) → feed_of w.desk (serial_of a.serial) table piece
      ≡ record { desk = w.desk; answer = Err F.NoTicket }
  pub stale_close : a.closed ≡ false → (close_of w.desk (serial_of a.serial)).answer ≡ Ok tt
  pub closed_close : a.closed ≡ true → close_of w.desk (serial_of a.serial) ≡ record { desk = w.desk; answer = Err not_held }

module _ {Left : Type 0} (w : World) (v : Inv Left w) (k : ℕ) (hk : k < length w.accounts) where
  abbrev a : Account
  a = account_at w k

  abbrev s : Serial
  s = serial_of a.serial

  -- a closed serial is refused by feed and close, over every table
  closed_feed_is : a.closed ≡ true → (table : Lent) (piece : Word) → feed_of w.desk s table piece ≡ record { desk = w.desk; answer = Err F.NoTicket }
  closed_feed_is c table piece = no-room_feed w.desk s table piece (closed-room w v k hk c)

  closed_close_is : a.closed ≡ true → close_of w.desk s ≡ record { desk = w.desk; answer = Err not_held }
  closed_close_is c = no-room_close w.desk s (closed-room w v k hk c)

  open_close_is : a.closed ≡ false → (close_of w.desk s).answer ≡ Ok tt
  open_close_is c = go _ (closes w.desk s)
    where
      go : (r : Closing) → Closes w.desk s r → r.answer ≡ Ok tt
      go r (close_no-ticket h) = absurd (omega (arith, h, (open_room w v k hk c).0))
      go r (close_done i e h) = refl

  stale_feed_is : a.closed ≡ false → a.edition < w.edition → (table : Lent) (piece : Word)
      → feed_of w.desk s table piece ≡ record { desk = w.desk; answer = Err (F.Stale (edition_of a.edition)) }
  stale_feed_is c old table piece = go _ (feeds w.desk s table piece)
    where
      room : (room_of w.desk.tickets s < most_tickets) × Agrees Left (ticket_in w.desk.tickets (room_of w.desk.tickets s)) a
      room = open_room w v k hk c

      older : (ticket_in w.desk.tickets (room_of w.desk.tickets s)).edition.0 ≡ w.desk.edition.0 → ⊥
      older e = omega (arith, e, room.1.edition, old, v.edition)

      go : (r : Feeding) → Feeds w.desk (room_of w.desk.tickets s) table piece r
          → r ≡ record { desk = w.desk; answer = Err (F.Stale (edition_of a.edition)) }
      go r (feed_no-ticket h) = absurd (omega (arith, h, room.0))
      go r (feed_stale h e) = λ d. record { desk = w.desk; answer = Err (F.Stale (record { 0 = room.1.edition d })) }
      go r (feed_other-slots h e n) = absurd (older e)
      go r (feed_long h e l m) = absurd (older e)
      go r (feed_no-place h e l m n) = absurd (older e)
      go r (feed_read h e l m) = absurd (older e)

  older-is : a.edition < w.edition → Older w a
  older-is old = record {
    stale-state = λ c. shown ∙ ap₂ (λ (b x : Bool). state_by (edition_of a.edition) (length a.bytes) (not b) x true) c other;
    closed-state = λ c. shown ∙ ap (λ (b : Bool). state_by (edition_of a.edition) (length a.bytes) (not b) (eqb a.edition w.edition) true) c;
    stale_feed = λ c. stale_feed_is c old;
    closed_feed = closed_feed_is;
    stale_close = open_close_is;
    closed_close = closed_close_is;
  }
    where
      shown : state_of w.desk s ≡ state_of_account w.edition a
      shown = subst (λ (n : ℕ). state_of w.desk (serial_of n) ≡ state_of_account w.edition a) (sym (v.numbered k hk)) (state-is w v k hk)

      other : eqb a.edition w.edition ≡ false
      other = is_false (eqb a.edition w.edition) (λ e. omega (arith, old, eqb_eq a.edition w.edition e))

-- what an accepted replacement makes of a history's tickets: the edition rises by one and is in force, the accounts stay as they were, and every
-- one of them is older than the set
pub record AllOlder (w v : World) (e : Edition) : Type 0 where
  pub next : e.0 ≡ suc w.edition
  pub in_force : v.edition ≡ e.0
  pub accounts : v.accounts ≡ w.accounts
  pub below : (k : ℕ) → k < length w.accounts → (account_at w k).edition < e.0
  pub older : (k : ℕ) → k < length w.accounts → Older v (account_at w k)

-- EVERY OPEN TICKET BECOMES STALE: where a replacement is accepted, each ticket from before it is of an edition below the new one, and is stale
-- then, or closed if it was closed
pub replaced-all-stale : (kind : Kind) (calls : List Call) → AllBytes calls → (order : Order) (table : Lent) → OrderBytes order → (e : Edition) (count : ℕ)
    → (replace_of (run (start kind) calls).desk order (sizes_of table)).answer ≡ Ok (replaced_as e count)
    → AllOlder (run (start kind) calls) (step (run (start kind) calls) (call_replace order table)) e
replaced-all-stale kind calls b order table c e count = go _ (replaces w.desk order (sizes_of table)) (inv_step w (call_replace order table) c (λ l. tt) v)
  where
    w : World
    w = run (start kind) calls

    v : Inv (AsLeft (start kind) calls) w
    v = (sound kind calls b).inv

    number : {x : Edition} {m : ℕ} → ◌≡◌ {A = ReplaceAnswer} (Ok (replaced_as x m)) (Ok (replaced_as e count)) → x.0 ≡ e.0
    number {x} {m} q = let given : replaced_as x m ≡ replaced_as e count = cc in ap (λ (y : Replaced). y.edition.0) given

    go : (r : Replacing) → Replaces w.desk order (sizes_of table) r → Inv (AsLeft (start kind) calls) (replacing w order table r.desk r.answer)
        → r.answer ≡ Ok (replaced_as e count)
        → AllOlder w (replacing w order table r.desk r.answer) e
    go r (replace_fault fault p) i q = differ cc
    go r (replace_table machine short p) i q = differ cc
    go r (replace_edition-end n p h) i q = differ cc
    go r (replace_done n p h) i q =
        let new : w.desk.edition.0 + 1 ≡ e.0 = number q in
        record {
          next = omega (arith, new, v.edition);
          in_force = new;
          accounts = refl;
          below = λ k l. omega (arith, new, v.edition, (v.kept k l).upto);
          older = λ k l. older-is _ i k l (omega (arith, v.edition, (v.kept k l).upto));
        }

-- THE THEOREM. Once the edition in force is later than a ticket's, then after any more calls the ticket is stale, or closed, has the bytes that
-- it had, and if it was closed is closed still
pub after-a_replacement : (kind : Kind) (calls more : List Call) → AllBytes calls → AllBytes more → (k : ℕ) → k < length (run (start kind) calls).accounts
    → (account_at (run (start kind) calls) k).edition < (run (start kind) calls).edition
    → ((account_at (run (run (start kind) calls) more) k).bytes ≡ (account_at (run (start kind) calls) k).bytes)
    × ((account_at (run (start kind) calls) k).closed ≡ true → (account_at (run (run (start kind) calls) more) k).closed ≡ true)
    × Older (run (run (start kind) calls) more) (account_at (run (run (start kind) calls) more) k)
after-a_replacement kind calls more b c k h old =
    let w = run (start kind) calls in
    let s = any_sound kind calls b in
    let g = goes-run w more c (λ z. absurd z) s.inv in
    let l = g.each k h in
    let t = sound-run w more c (λ z. absurd z) s in
    (l.bytes (inr old), l.closed, older-is (run w more) t.inv k (le_trans h g.accounts) (omega (arith, old, l.edition, g.edition)))
