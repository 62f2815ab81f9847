-- Feeding a piece, over any table, leaves each serial its room, each ticket its edition, and each room read or unread as it was.
use Rattle.desk.specs.Given.{Feeding}
use Rattle.std.specs.Prelude.{ℕ, zero, suc, ◌+◌, ◌<◌, Bool, cond, false, true, List, ◌≡◌, refl, eqb, ltb, drop, length, set}
use Rattle.std.proofs.Common.{◌∙◌, sym, ap, arith}
use Rattle.std.proofs.Math.Decide.{dec_lt, ℕ_discrete}
use Rattle.std.proofs.Math.Seq.{set_out}
use Rattle.desk.specs.Feed.{feed_of}
use Rattle.desk.specs.Laws.Rooms.{first_room-kept, set_other, set_same}
use Rattle.desk.specs.Laws.TakeMany.{take-many-reached}
use Rattle.desk.specs.Laws.Views.{Feeds, feed_no-ticket, feed_stale, feed_other-slots, feed_long, feed_no-place, feed_read}
use Rattle.desk.proofs.Laws.Views.{feeds}
use Rattle.desk.specs.Reached.{Reached, by_call, call_feed}
use Rattle.desk.specs.Rooms.{is_for, room_of, ticket_in}
use Rattle.desk.specs.TakeMany.{many_of, oldest, take_many_of}
use Rattle.desk.specs.declared.Desk.{Desk}
use Rattle.desk.specs.declared.Serial.{Serial}
use Rattle.desk.specs.declared.Ticket.{Ticket}
use Rattle.gate.specs.Feeding.{fed_on, rest_of}
use Rattle.gate.specs.Noting.{seen_in}
use Rattle.gate.specs.declared.Gate.{Gate}
use Rattle.matching.specs.Words.{Word}
use Rattle.gate.specs.Laws.Own.{noted-length, noted-unread}
use Rattle.desk.specs.Layout.{Lent}

-- two desks whose rooms have the same serials and editions
pub record SameRooms (d e : Desk) : Type 0 where
  pub rooms : (n : Serial) → room_of e.tickets n ≡ room_of d.tickets n
  pub serials : (i : ℕ) → (ticket_in e.tickets i).serial ≡ (ticket_in d.tickets i).serial
  pub editions : (i : ℕ) → (ticket_in e.tickets i).edition ≡ (ticket_in d.tickets i).edition
  pub serial : e.serial ≡ d.serial
  pub edition : e.edition ≡ d.edition

pub same_none : (d : Desk) → SameRooms d d
same_none d = record { rooms = λ n. refl; serials = λ i. refl; editions = λ i. refl; serial = refl; edition = refl }

-- a ticket changed but for its serial and edition
ticket-set : (rooms : List Ticket) (i j : ℕ) (t : Ticket) → t.serial ≡ (ticket_in rooms i).serial → t.edition ≡ (ticket_in rooms i).edition
    → ((ticket_in (set rooms i t) j).serial ≡ (ticket_in rooms j).serial) × ((ticket_in (set rooms i t) j).edition ≡ (ticket_in rooms j).edition)
ticket-set rooms i j t p q = go (ℕ_discrete j i) (dec_lt i (length rooms))
  where
    go : Dec (j ≡ i) → Dec (i < length rooms) → ((ticket_in (set rooms i t) j).serial ≡ (ticket_in rooms j).serial) ×
        ((ticket_in (set rooms i t) j).edition ≡ (ticket_in rooms j).edition)
    go (no n) d = (ap (λ (x : Ticket). x.serial) (set_other rooms i j t n), ap (λ (x : Ticket). x.edition) (set_other rooms i j t n))
    go (yes e) (yes h) =
        let z : ticket_in (set rooms i t) j ≡ t = ap (λ (k : ℕ). ticket_in (set rooms i t) k) e ∙ set_same rooms i t h in (
          ap (λ (x : Ticket). x.serial) z ∙ p ∙ ap (λ (k : ℕ). (ticket_in rooms k).serial) (sym e),
          ap (λ (x : Ticket). x.edition) z ∙ q ∙ ap (λ (k : ℕ). (ticket_in rooms k).edition) (sym e),
        )
    go (yes e) (no h) =
        let z : set rooms i t ≡ rooms = set_out rooms i t (omega (arith, h)) in
        (ap (λ (l : List Ticket). (ticket_in l j).serial) z, ap (λ (l : List Ticket). (ticket_in l j).edition) z)

pub feed_same : (d : Desk) (s : Serial) (table : Lent) (piece : Word) → SameRooms d (feed_of d s table piece).desk
feed_same d s table piece = go _ _ (feeds d s table piece)
  where
    go : (i : ℕ) (r : Feeding) → Feeds d i table piece r → SameRooms d r.desk
    go i r (feed_no-ticket a) = same_none d
    go i r (feed_stale a b) = same_none d
    go i r (feed_other-slots a b e) = same_none d
    go i r (feed_long a b e f) = same_none d
    go i r (feed_no-place a b e f g) = same_none d
    go i r (feed_read a b e f) = record {
      rooms = λ n. first_room-kept (is_for n) d.tickets i _ refl;
      serials = λ j. (ticket-set d.tickets i j _ refl refl).0;
      editions = λ j. (ticket-set d.tickets i j _ refl refl).1;
      serial = refl;
      edition = refl;
    }

pub record Alike (g h : Gate) : Type 0 where
  pub reached : Reached g.desk → Reached h.desk
  pub same : SameRooms g.desk h.desk
  pub unreads : (i : ℕ) → (seen_in h.seen i).unread ≡ (seen_in g.seen i).unread
  pub wide : length h.seen ≡ length g.seen

alike_none : (g : Gate) → Alike g g
alike_none g = record { reached = λ r. r; same = same_none g.desk; unreads = λ i. refl; wide = refl }

alike_then : {g h k : Gate} → Alike g h → Alike h k → Alike g k
alike_then a b = record {
  reached = λ r. b.reached (a.reached r);
  same = record {
    rooms = λ n. b.same.rooms n ∙ a.same.rooms n;
    serials = λ i. b.same.serials i ∙ a.same.serials i;
    editions = λ i. b.same.editions i ∙ a.same.editions i;
    serial = b.same.serial ∙ a.same.serial;
    edition = b.same.edition ∙ a.same.edition;
  };
  unreads = λ i. b.unreads i ∙ a.unreads i;
  wide = b.wide ∙ a.wide;
}

pub rest_alike : (g : Gate) (s : Serial) (table : Lent) (rest : Word) → Alike g (rest_of g s table rest).gate
unfolding take_many_of
rest_alike g s table rest =
    let f = feed_same g.desk s table rest in
    let d = (feed_of g.desk s table rest).desk in
    record {
      reached = λ r. take-many-reached d 1024 (by_call r (call_feed s table rest));
      same = record { rooms = f.rooms; serials = f.serials; editions = f.editions; serial = f.serial; edition = f.edition };
      unreads = noted-unread d.tickets g.seen (oldest (many_of d 1024) d.records);
      wide = noted-length d.tickets g.seen (oldest (many_of d 1024) d.records);
    }

pub fed_alike : (most : ℕ) (g : Gate) (s : Serial) (table : Lent) (piece : Word) (from : ℕ) → Alike g (fed_on most g s table piece from).gate
unfolding fed_on
fed_alike zero g s table piece from = alike_none g
fed_alike (suc most) g s table piece from =
    go (ltb from (length piece)) (eqb t 0) (fed_alike most next s table piece (from + t))
  where
    t : ℕ
    t = (rest_of g s table (drop from piece)).taken

    next : Gate
    next = (rest_of g s table (drop from piece)).gate

    go : (x y : Bool) → Alike next (fed_on most next s table piece (from + t)).gate
        → Alike g (cond x (cond y (record { gate = next; taken = from }) (fed_on most next s table piece (from + t))) (record { gate = g; taken = from })).gate
    go false y ih = alike_none g
    go true true ih = rest_alike g s table (drop from piece)
    go true false ih = alike_then (rest_alike g s table (drop from piece)) ih
