-- A PIECE MARKS ITS OWN TICKET ONLY: whatever table it is lent, what is kept for every room of another serial is as before. And one feed of it
-- notes each record that is held with its own, those of earlier feeds of other tickets too.
use Rattle.desk.specs.Given.{OpenAnswer, Opening, Feeding, Closing, Replacing}
use Rattle.std.specs.Prelude.{ℕ, zero, suc, ◌+◌, ◌-◌, ◌<◌, Bool, cond, false, not, true, List, [], ◌++◌, ◌≡◌, refl, eqb, ltb, drop, length, Ok, Err}
use Rattle.std.proofs.Common.{append-nil, ◌∙◌, ap, subst, sym, arith, length-set, get_or-set_other, ltb-true}
use Rattle.std.proofs.Math.Decide.{ℕ_discrete}
use Rattle.desk.specs.Calls.{open_of}
use Rattle.desk.specs.Feed.{feed_of, read_for}
use Rattle.desk.specs.Laws.Good.{room-held}
use Rattle.desk.proofs.Laws.Good.{good}
use Rattle.desk.specs.Laws.Rooms.{for_held, set_other, set_same}
use Rattle.desk.specs.Laws.Shared.{held-push_all, records_for_append, records_for-other, records_of-length}
use Rattle.desk.specs.Laws.TakeMany.{take-many-reached}
use Rattle.desk.specs.Laws.Views.{Closes, close_done, close_no-ticket, closes}
use Rattle.desk.specs.Laws.Views.{Opens, open_done, open_no-room, open_no-set, open_serial-end, opens}
use Rattle.desk.specs.Laws.Views.{Replaces, replace_done, replace_edition-end, replace_fault, replace_table, replaces}
use Rattle.desk.specs.Laws.Views.{Feeds, feed_long, feed_no-place, feed_no-ticket, feed_other-slots, feed_read, feed_stale}
use Rattle.desk.proofs.Laws.Views.{feeds}
use Rattle.desk.specs.Reached.{Reached, by_call, call_close, call_feed, call_open, call_replace, from_new}
use Rattle.desk.specs.Rooms.{is_held, room_of, ticket_in}
use Rattle.desk.specs.Shared.{held, records_for, records_of, round}
use Rattle.desk.specs.declared.Desk.{Desk}
use Rattle.desk.specs.declared.Record.{Record}
use Rattle.desk.specs.declared.Serial.{Serial}
use Rattle.desk.specs.declared.Ticket.{Ticket}
use Rattle.gate.specs.Bits.{with_bits}
use Rattle.gate.specs.Feeding.{fed_on, rest_of}
use Rattle.gate.specs.Gate.{begin_of, change_of, decide_by, decide_of, ended_by, new_gate, piece_by, piece_of}
use Rattle.gate.specs.Noting.{begun_seen, seen_in, unseen}
use Rattle.gate.specs.Own.{ToTheirOwn, emptied-none, emptied-own, reached_roomed}
use Rattle.gate.specs.declared.Gate.{Gate}
use Rattle.gate.specs.declared.feeding.Fed.{Fed}
use Rattle.desk.specs.Laws.Layout.{desk-kept}
use Rattle.matching.specs.Words.{Word}
use Rattle.desk.specs.Layout.{Kind, Lent, Order, sizes_of}
use Rattle.desk.specs.Limits.{most_records, most_tickets}

-- a gate as its calls make it: 16 masks, a desk that the desk's calls make, and no record held
pub record Settled (g : Gate) : Type 0 where
  pub masks : length g.seen ≡ most_tickets
  pub reached : Reached g.desk
  pub none : held g.desk.records ≡ []

-- ---- one feed

module _ (d : Desk) (s : Serial) (table : Lent) (piece : Word) (r : Reached d) where
  abbrev i : ℕ
  i = room_of d.tickets s

  abbrev after : Desk
  after = (feed_of d s table piece).desk

  -- every room keeps its serial
  fed-serials : (j : ℕ) → (ticket_in after.tickets j).serial ≡ (ticket_in d.tickets j).serial
  fed-serials j = go _ (feeds d s table piece)
    where
      go : (f : Feeding) → Feeds d i table piece f → (ticket_in f.desk.tickets j).serial ≡ (ticket_in d.tickets j).serial
      go f (feed_no-ticket a) = refl
      go f (feed_stale a b) = refl
      go f (feed_other-slots a b c) = refl
      go f (feed_long a b c l) = refl
      go f (feed_no-place a b c l n) = refl
      go f (feed_read a b c l) = here (ℕ_discrete j i)
        where
          here : Dec (j ≡ i) → (ticket_in f.desk.tickets j).serial ≡ (ticket_in d.tickets j).serial
          here (yes e) =
              ap (λ (k : ℕ). (ticket_in f.desk.tickets k).serial) e
              ∙ ap (λ (t : Ticket). t.serial) (set_same d.tickets i _ (omega (arith, a, (good r).rooms)))
              ∙ sym (ap (λ (k : ℕ). (ticket_in d.tickets k).serial) e)
          here (no n) = ap (λ (t : Ticket). t.serial) (set_other d.tickets i j _ n)

  -- of another serial there are the records that there were
  fed-others : (n : ℕ) → (n ≡ s.0 → ⊥) → records_for n (held after.records) ≡ records_for n (held d.records)
  fed-others n other = go _ (feeds d s table piece)
    where
      go : (f : Feeding) → Feeds d i table piece f → records_for n (held f.desk.records) ≡ records_for n (held d.records)
      go f (feed_no-ticket a) = refl
      go f (feed_stale a b) = refl
      go f (feed_other-slots a b c) = refl
      go f (feed_long a b c l) = refl
      go f (feed_no-place a b c l m) = refl
      go f (feed_read a b c l) =
          let t = ticket_in d.tickets i in
          let found = (read_for d t table piece).found in
          let k = desk-kept d.slots table t.place t.taken (most_records - d.records.count) piece in
          let its : t.serial.0 ≡ s.0 = (for_held s t (room-held d s (good r) a)).1 in
          ap (records_for n) (held-push_all d.records (records_of t.serial t.edition found) (good r).ring
          (omega (arith, records_of-length t.serial t.edition found, k.fits, (good r).count)))
          ∙ records_for_append n (held d.records) (records_of t.serial t.edition found)
          ∙ ap (λ (l : List Record). records_for n (held d.records) ++ l) (records_for-other n t.serial t.edition found (λ q. other (sym q ∙ its)))
          ∙ append-nil (records_for n (held d.records))

module _ (g : Gate) (s : Serial) (table : Lent) (rest : Word) (masks : length g.seen ≡ most_tickets) (r : Reached g.desk) where
  -- one feed of what is left: the records then held are those held before and those of this feed, and each goes to its own
  pub rest-own : ToTheirOwn g.desk.tickets g.seen (rest_of g s table rest).gate.seen (held (feed_of g.desk s table rest).desk.records)
  rest-own =
      let d = (feed_of g.desk s table rest).desk in
      let o = emptied-own g d (reached_roomed g d masks (by_call r (call_feed s table rest))) in
      let same = fed-serials g.desk s table rest r in
      record {
        own = λ i h.
            o.own i (subst (λ (n : Serial). not (eqb n.0 0) ≡ true) (sym (same i)) h)
            ∙ ap (λ (n : Serial). with_bits (seen_in g.seen i).mask (records_for n.0 (held d.records))) (same i);
        free = λ i h. o.free i (subst (λ (n : Serial). not (eqb n.0 0) ≡ false) (sym (same i)) h);
        unread = o.unread;
        kept = o.kept;
      }

  -- for a room of another serial: only the bits of its records that were held before this feed
  pub rest-others : (i : ℕ) → is_held (ticket_in g.desk.tickets i) ≡ true → ((ticket_in g.desk.tickets i).serial.0 ≡ s.0 → ⊥)
      → (seen_in (rest_of g s table rest).gate.seen i).mask ≡ with_bits (seen_in g.seen i).mask
      (records_for (ticket_in g.desk.tickets i).serial.0 (held g.desk.records))
  rest-others i h n =
      rest-own.own i h
      ∙ ap (λ (l : List Record). with_bits (seen_in g.seen i).mask l) (fed-others g.desk s table rest r (ticket_in g.desk.tickets i).serial.0 n)

-- ---- a whole piece

-- what each feed keeps, the whole keeps
fed_keeps : (P : Gate → Type 0) (s : Serial) (table : Lent) (piece : Word) → ((x : Gate) (rest : Word) → P x → P (rest_of x s table rest).gate)
    → (most : ℕ) (g : Gate) (from : ℕ)
    → P g → P (fed_on most g s table piece from).gate
unfolding fed_on
fed_keeps P s table piece f zero g from p = p
fed_keeps P s table piece f (suc most) g from p =
    go (ltb from (length piece)) (eqb next.taken 0) (fed_keeps P s table piece f most next.gate (from + next.taken) (f g (drop from piece) p))
  where
    next : Fed
    next = rest_of g s table (drop from piece)

    go : (a b : Bool) → P (fed_on most next.gate s table piece (from + next.taken)).gate
        → P (cond a (cond b (record { gate = next.gate; taken = from }) (fed_on most next.gate s table piece (from + next.taken)))
        (record { gate = g; taken = from })).gate
    go true true q = f g (drop from piece) p
    go true false q = q
    go false b q = p

settled-rest : (g : Gate) (s : Serial) (table : Lent) (rest : Word) → Settled g → Settled (rest_of g s table rest).gate
settled-rest g s table rest k =
    let d = (feed_of g.desk s table rest).desk in
    let r : Reached d = by_call k.reached (call_feed s table rest) in
    record {
      masks = (rest-own g s table rest k.masks k.reached).kept ∙ k.masks;
      reached = take-many-reached d 1024 r;
      none = (emptied-none g d (good r).count).0;
    }

-- the rooms of g other than that of a serial: kept for them in x as in g, and each under its serial still
record Untouched (g : Gate) (s : Serial) (x : Gate) : Type 0 where
  settled : Settled x
  serials : (i : ℕ) → (ticket_in x.desk.tickets i).serial ≡ (ticket_in g.desk.tickets i).serial
  same : (i : ℕ) → ((ticket_in g.desk.tickets i).serial.0 ≡ s.0 → ⊥) → seen_in x.seen i ≡ seen_in g.seen i

untouched_rest : (g : Gate) (s : Serial) (table : Lent) (x : Gate) (rest : Word) → Untouched g s x → Untouched g s (rest_of x s table rest).gate
unfolding with_bits records_for
untouched_rest g s table x rest u = record {
  settled = settled-rest x s table rest u.settled;
  serials = λ i. ap (λ (l : List Ticket). (ticket_in l i).serial) (emptied-none x d (good r).count).1
      ∙ fed-serials x.desk s table rest u.settled.reached i ∙ u.serials i;
  same = λ i n. one i (λ q. n (sym (ap (λ (m : Serial). m.0) (u.serials i)) ∙ q)) ∙ u.same i n;
}
  where
    d : Desk
    d = (feed_of x.desk s table rest).desk

    r : Reached d
    r = by_call u.settled.reached (call_feed s table rest)

    one : (i : ℕ) → ((ticket_in x.desk.tickets i).serial.0 ≡ s.0 → ⊥) → seen_in (rest_of x s table rest).gate.seen i ≡ seen_in x.seen i
    one i n = go (is_held (ticket_in x.desk.tickets i)) refl
      where
        go : (b : Bool) → is_held (ticket_in x.desk.tickets i) ≡ b → seen_in (rest_of x s table rest).gate.seen i ≡ seen_in x.seen i
        go true h =
            let m : (seen_in (rest_of x s table rest).gate.seen i).mask ≡ (seen_in x.seen i).mask =
            rest-others x s table rest u.settled.masks u.settled.reached i h n
            ∙ ap (λ (l : List Record). with_bits (seen_in x.seen i).mask (records_for (ticket_in x.desk.tickets i).serial.0 l)) u.settled.none in
            let v = (rest-own x s table rest u.settled.masks u.settled.reached).unread i in
            λ z. record { mask = m z; unread = v z }
        go false h = (rest-own x s table rest u.settled.masks u.settled.reached).free i h

-- a piece, whatever table it is lent: for every room that another serial has, all is kept as before
pub piece-others : (g : Gate) (s : Serial) (table : Lent) (piece : Word) → Settled g → (i : ℕ) → ((ticket_in g.desk.tickets i).serial.0 ≡ s.0 → ⊥)
    → seen_in (piece_of g s table piece).gate.seen i ≡ seen_in g.seen i
unfolding piece_of
piece-others g s table piece k i n = go (ltb room most_tickets) (eqb (ticket_in g.desk.tickets room).edition.0 g.desk.edition.0) refl
  where
    room : ℕ
    room = room_of g.desk.tickets s

    fed : Fed
    fed = fed_on (length piece) g s table piece 0

    all : Untouched g s fed.gate
    all = fed_keeps (Untouched g s) s table piece (untouched_rest g s table) (length piece) g 0
        (record { settled = k; serials = λ j. refl; same = λ j m. refl })

    ended : (b : Bool) → room < most_tickets → seen_in (ended_by fed.gate room fed.taken b).gate.seen i ≡ seen_in g.seen i
    ended true h = all.same i n
    ended false h =
        get_or-set_other fed.gate.seen room i _ (record { mask = 0; unread = 1 })
        (λ e. n (ap (λ (j : ℕ). (ticket_in g.desk.tickets j).serial.0) e
        ∙ (for_held s (ticket_in g.desk.tickets room) (room-held g.desk s (good k.reached) h)).1))
        ∙ all.same i n

    go : (a b : Bool) → ltb room most_tickets ≡ a → seen_in (piece_by g s room (ticket_in g.desk.tickets room) table piece a b).gate.seen i ≡ seen_in
        g.seen i
    go false b h = refl
    go true false h = refl
    go true true h = ended (eqb fed.taken (length piece)) (ltb-true room most_tickets h)

-- ---- a new gate is settled, and each call leaves it so

pub settled-new : (kind : Kind) → Settled (new_gate kind)
unfolding round
settled-new kind = record { masks = refl; reached = from_new kind; none = refl }

pub settled_change : (g : Gate) (order : Order) (run : Lent) → Settled g → Settled (change_of g order (sizes_of run)).gate
unfolding change_of
settled_change g order run k =
    record {
      masks = k.masks;
      reached = by_call k.reached (call_replace order run);
      none = ap held (go _ (replaces g.desk order (sizes_of run)))
          ∙ k.none;
    }
  where
    go : (r : Replacing) → Replaces g.desk order (sizes_of run) r → r.desk.records ≡ g.desk.records
    go r (replace_fault fault e) = refl
    go r (replace_table machine needs e) = refl
    go r (replace_edition-end count e l) = refl
    go r (replace_done count e l) = refl

pub settled_begin : (g : Gate) → Settled g → Settled (begin_of g).gate
unfolding begin_of
settled_begin g k =
    record { masks = wide (open_of g.desk).answer ∙ k.masks; reached = by_call k.reached call_open; none = ap held (go _ (opens g.desk)) ∙ k.none }
  where
    wide : (a : OpenAnswer) → length (begun_seen (open_of g.desk).desk g.seen a) ≡ length g.seen
    wide (Ok s) = length-set g.seen (room_of (open_of g.desk).desk.tickets s) unseen
    wide (Err why) = refl

    go : (r : Opening) → Opens g.desk r → r.desk.records ≡ g.desk.records
    go r (open_no-set a) = refl
    go r (open_serial-end a b) = refl
    go r (open_no-room a b c) = refl
    go r (open_done a b i e h) = refl

pub settled-piece : (g : Gate) (s : Serial) (table : Lent) (piece : Word) → Settled g → Settled (piece_of g s table piece).gate
unfolding piece_of
settled-piece g s table piece k = go (ltb room most_tickets) (eqb (ticket_in g.desk.tickets room).edition.0 g.desk.edition.0)
  where
    room : ℕ
    room = room_of g.desk.tickets s

    fed : Fed
    fed = fed_on (length piece) g s table piece 0

    all : Settled fed.gate
    all = fed_keeps Settled s table piece (λ x rest p. settled-rest x s table rest p) (length piece) g 0 k

    ended : (b : Bool) → Settled (ended_by fed.gate room fed.taken b).gate
    ended true = all
    ended false = record { masks = length-set fed.gate.seen room _ ∙ all.masks; reached = all.reached; none = all.none }

    go : (a b : Bool) → Settled (piece_by g s room (ticket_in g.desk.tickets room) table piece a b).gate
    go false b = k
    go true false = k
    go true true = ended (eqb fed.taken (length piece))

pub settled_decide : (g : Gate) (s : Serial) → Settled g → Settled (decide_of g s).gate
unfolding decide_of
settled_decide g s k = go (ltb (room_of g.desk.tickets s) most_tickets)
  where
    same : (r : Closing) → Closes g.desk s r → r.desk.records ≡ g.desk.records
    same r (close_no-ticket h) = refl
    same r (close_done i e h) = refl

    go : (a : Bool) → Settled (decide_by g s (room_of g.desk.tickets s) a).gate
    go false = k
    go true = record { masks = k.masks; reached = by_call k.reached (call_close s); none = ap held (same _ (closes g.desk s)) ∙ k.none }
