-- What each call adds to the stream of records, and how many there are.
use Rattle.desk.specs.Given.{Opening, Feeding, Closing, Replacing}
use Rattle.std.specs.Prelude.{◌+◌, ◌<◌, suc, zero, ℕ, List, [], ◌++◌, ◌∷◌, ◌≡◌, refl, get_or, length, set, take, Ok}
use Rattle.std.proofs.Common.{append-nil, ◌∙◌, ap, subst, sym, zero-add, arith, length-append}
use Rattle.desk.specs.Calls.{with_ticket}
use Rattle.desk.specs.Feed.{fed_by, read_for}
use Rattle.desk.specs.Laws.Good.{on-place, room-held}
use Rattle.desk.proofs.Laws.Good.{good}
use Rattle.desk.specs.Laws.Rooms.{for_held}
use Rattle.desk.specs.Laws.Shared.{records_for-own, records_of-length}
use Rattle.desk.specs.Laws.Views.{Closes, close_done, close_no-ticket, closes}
use Rattle.desk.specs.Laws.Views.{Feeds, feed_long, feed_no-place, feed_no-ticket, feed_other-slots, feed_read, feed_stale}
use Rattle.desk.proofs.Laws.Views.{feeds}
use Rattle.desk.specs.Laws.Views.{Opens, open_done, open_no-room, open_no-set, open_serial-end, opens}
use Rattle.desk.specs.Laws.Views.{Replaces, replace_done, replace_edition-end, replace_fault, replace_table, replaces}
use Rattle.desk.specs.Laws.Views.{takes}
use Rattle.desk.specs.Rooms.{free_ticket, room_of, ticket_in}
use Rattle.desk.specs.Shared.{records_for, records_of}
use Rattle.desk.specs.declared.Serial.{Serial}
use Rattle.history.specs.History.{Account, AllBytes, AsLeft, LentAsLeft, OfBytes, World}
use Rattle.history.specs.History.{account_at, closing, feeding, grown, new_account, no_account, on_serial, opening, replacing, run, shut, step}
use Rattle.history.specs.History.{stream}
use Rattle.history.specs.Laws.Accounts.{grown-none}
use Rattle.history.specs.Laws.Fed.{stream-fed}
use Rattle.history.specs.Laws.Feeding.{read_done}
use Rattle.history.specs.Laws.Invariant.{Inv, changed_is, given}
use Rattle.history.specs.Laws.Steps.{inv_step}
use Rattle.history.specs.Laws.Taking.{stream_takes}
use Rattle.matching.specs.Laws.Occurrences.{occurrences_by_append}
use Rattle.matching.specs.Occurrence.{occurrences_by}
use Rattle.matching.specs.Words.{Below, Word}
use Rattle.desk.specs.Layout.{Lent, sizes_of}
use Rattle.desk.specs.Reached.{Call, call_close, call_feed, call_open, call_replace, call_take, Reached}
use Rattle.matching.specs.Tags.{found_from, found_in, tags_at}
use Rattle.history.specs.RecordsHeld.{AddedBy, Adds, occurrences_in}

-- a call that adds none
quiet : (w v : World) (a : Call) → stream v ≡ stream w → AddedBy a [] → Adds w v a
quiet w v a e h = record { records = []; behind = e ∙ sym (append-nil (stream w)); of_call = h }

adds_feeds : (w : World) → Reached w.desk → (s : Serial) (table : Lent) (piece : Word) → Adds w (step w (call_feed s table piece)) (call_feed s table piece)
unfolding records_for
adds_feeds w d s table piece = go _ (feeds w.desk s table piece)
  where
    go : (r : Feeding) → Feeds w.desk (room_of w.desk.tickets s) table piece r
        → Adds w (feeding w s piece r.desk r.answer) (call_feed s table piece)
    go r (feed_no-ticket h) = quiet w _ _ refl refl
    go r (feed_stale h e) = quiet w _ _ refl refl
    go r (feed_other-slots h e n) = quiet w _ _ refl refl
    go r (feed_long h e l m) = quiet w _ _ refl refl
    go r (feed_no-place h e l m n) = quiet w _ _ refl refl
    go r (feed_read h e l m) =
        let t = ticket_in w.desk.tickets (room_of w.desk.tickets s) in
        let x = read_for w.desk t table piece in
        let q = (for_held s t (room-held w.desk s (good d) h)).1 in
        record {
          records = records_of t.serial t.edition x.found;
          behind = stream-fed w.desk w.out s table piece d h;
          of_call = subst (λ (n : ℕ). records_for n (records_of t.serial t.edition x.found) ≡ records_of t.serial t.edition x.found)
              q (records_for-own t.serial t.edition x.found);
        }

pub adds : (w : World) → Reached w.desk → (c : Call) → Adds w (step w c) c
adds w d (call_replace order run) = go _ (replaces w.desk order (sizes_of run))
  where
    go : (r : Replacing) → Replaces w.desk order (sizes_of run) r → Adds w (replacing w order run r.desk r.answer) (call_replace order run)
    go r (replace_fault fault e) = quiet w _ _ refl refl
    go r (replace_table machine short e) = quiet w _ _ refl refl
    go r (replace_edition-end count e h) = quiet w _ _ refl refl
    go r (replace_done count e h) = quiet w _ _ refl refl
adds w d call_open = go _ (opens w.desk)
  where
    go : (r : Opening) → Opens w.desk r → Adds w (opening w r.desk r.answer) call_open
    go r (open_no-set x) = quiet w _ _ refl refl
    go r (open_serial-end x y) = quiet w _ _ refl refl
    go r (open_no-room x y z) = quiet w _ _ refl refl
    go r (open_done x y i e h) = quiet w _ _ refl refl
adds w d (call_feed s table piece) = adds_feeds w d s table piece
adds w d (call_close s) = go _ (closes w.desk s)
  where
    go : (r : Closing) → Closes w.desk s r → Adds w (closing w s r.desk r.answer) (call_close s)
    go r (close_no-ticket h) = quiet w _ _ refl refl
    go r (close_done i e h) = quiet w _ _ refl refl
adds w d call_take = quiet w (step w call_take) call_take (stream_takes w _ (good d) (takes w.desk)) refl

-- ---- how many records there are

in_append : (l m : List Account) → occurrences_in (l ++ m) ≡ occurrences_in l + occurrences_in m
unfolding occurrences_in
in_append [] m = omega arith
in_append (a ∷ l) m = omega (arith, in_append l m)

in_set : (l : List Account) (k : ℕ) (y : Account) (n : ℕ) → k < length l
    → length (found_in y.tags y.bytes) ≡ length (found_in (get_or l k no_account).tags (get_or l k no_account).bytes) + n
    → occurrences_in (set l k y) ≡ occurrences_in l + n
unfolding occurrences_in
in_set [] k y n h e = absurd (omega arith)
in_set (a ∷ l) zero y n h e = omega arith
in_set (a ∷ l) (suc k) y n h e = omega (arith, in_set l k y n (omega arith) e)

-- as many records as occurrences
abbrev pub Even : World → Type 0
Even w = length (stream w) ≡ occurrences_in w.accounts

even_changed : {Left : Type 0} (w : World) → Inv Left w → (s : Serial) (k : ℕ) → k < length w.accounts → s.0 ≡ suc k
    → (f : Account → Account) (v : World) → v.accounts ≡ on_serial s.0 f w.accounts
    → (n : ℕ) → length (stream v) ≡ length (stream w) + n
    → length (found_in (f (account_at w k)).tags (f (account_at w k)).bytes) ≡ length (found_in (account_at w k).tags (account_at w k).bytes) + n → Even w
    → Even v
even_changed w i s k hk ek f v q n more due e =
    omega (arith, more, e, in_set w.accounts k (f (account_at w k)) n hk due, ap occurrences_in (q ∙ changed_is w i s k hk ek f))

even_feeds : (w : World) → Inv (Unit {0}) w → (s : Serial) (table : Lent) (piece : Word) → Below 256 piece → table ≡ w.table → Even w
    → Even (step w (call_feed s table piece))
even_feeds w v s table piece b lent e = go _ (feeds w.desk s table piece)
  where
    go : (r : Feeding) → Feeds w.desk (room_of w.desk.tickets s) table piece r → Even (feeding w s piece r.desk r.answer)
    go r (feed_no-ticket h) = e
    go r (feed_stale h q) = e
    go r (feed_other-slots h q n) = omega (arith, e, ap occurrences_in (grown-none s.0 w.accounts))
    go r (feed_long h q l m) = e
    go r (feed_no-place h q l m n) = absurd (on-place w.desk s table (good v.reached) h q l n)
    go r (feed_read h q l m) =
        let g = given w v s h in
        let t = ticket_in w.desk.tickets (room_of w.desk.tickets s) in
        let x = read_for w.desk t table piece in
        let a = account_at w g.0 in
        let more = take x.taken piece in
        let d = read_done w v s g.0 g.1 g.2 h q tt table lent piece b in
        even_changed w v s g.0 g.1 g.2 (grown more)
        (feeding w s piece (fed_by w.desk (room_of w.desk.tickets s) t x).desk (fed_by w.desk (room_of w.desk.tickets s) t x).answer)
        refl (length x.found)
        (ap {B = ℕ} length (stream-fed w.desk w.out s table piece v.reached h)
        ∙ length-append (stream w) (records_of t.serial t.edition x.found)
        ∙ ap (λ (n : ℕ). length (stream w) + n) (records_of-length t.serial t.edition x.found))
        (ap {B = ℕ} length (occurrences_by_append (tags_at a.tags) [] 0 a.bytes more)
        ∙ length-append (found_in a.tags a.bytes) (found_from a.tags a.bytes (0 + length a.bytes) more)
        ∙ ap (λ (n : ℕ). length (found_in a.tags a.bytes) + n)
        (ap {B = ℕ} (λ (n : ℕ). length (found_from a.tags a.bytes n more)) (zero-add (length a.bytes)) ∙ ap {B = ℕ} length (sym d.found))) e

even_step : (w : World) → Inv (Unit {0}) w → (c : Call) → OfBytes c → LentAsLeft w c → Even w → Even (step w c)
unfolding occurrences_in occurrences_by
even_step w v (call_replace order run) b lent e = go _ (replaces w.desk order (sizes_of run))
  where
    go : (r : Replacing) → Replaces w.desk order (sizes_of run) r → Even (replacing w order run r.desk r.answer)
    go r (replace_fault fault q) = e
    go r (replace_table machine short q) = e
    go r (replace_edition-end count q h) = e
    go r (replace_done count q h) = e
even_step w v call_open b lent e = go _ (opens w.desk)
  where
    go : (r : Opening) → Opens w.desk r → Even (opening w r.desk r.answer)
    go r (open_no-set x) = e
    go r (open_serial-end x y) = e
    go r (open_no-room x y z) = e
    go r (open_done x y i q h) = omega (arith, e, in_append w.accounts (new_account w (w.desk.serial.0 + 1) ∷ []))
even_step w v (call_feed s table piece) b lent e = even_feeds w v s table piece b lent e
even_step w v (call_close s) b lent e = go _ (closes w.desk s)
  where
    go : (r : Closing) → Closes w.desk s r → Even (closing w s r.desk r.answer)
    go r (close_no-ticket h) = e
    go r (close_done i q h) =
        let g = given w v s (omega (arith, q)) in
        even_changed w v s g.0 g.1 g.2 shut (closing w s (with_ticket w.desk i free_ticket) (Ok tt)) refl 0 (omega arith) (omega arith) e
even_step w v call_take b lent e = ap {B = ℕ} length (stream_takes w _ (good v.reached) (takes w.desk)) ∙ e

pub even-run : (w : World) (calls : List Call) → AllBytes calls → AsLeft w calls → Inv (Unit {0}) w → Even w → Even (run w calls)
unfolding run AsLeft
even-run w [] b lent v e = e
even-run w (c ∷ calls) b lent v e = even-run (step w c) calls b.1 lent.1 (inv_step w c b.0 (λ _. lent.0) v) (even_step w v c b.0 lent.0 e)
