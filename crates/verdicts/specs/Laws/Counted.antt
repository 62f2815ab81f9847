-- Feeding a piece, over any table, raises the count of its own ticket by the bytes that the gate says were taken, and no other's.
use Rattle.desk.specs.Given.{Feeding}
use Rattle.std.specs.Prelude.{ℕ, zero, suc, ◌+◌, ◌≤◌, Bool, cond, false, true, ◌≡◌, refl, eqb, ltb, drop, length}
use Rattle.std.proofs.Common.{◌∙◌, ap, subst, arith, length-drop, length-set, eqb-true, ltb-true}
use Rattle.desk.specs.Feed.{feed_of, taken_by}
use Rattle.desk.proofs.Laws.Pieces.{fed-at-most}
use Rattle.desk.specs.Laws.Rooms.{set_other, set_same}
use Rattle.desk.specs.Laws.Views.{Feeds, feed_no-ticket, feed_stale, feed_other-slots, feed_long, feed_no-place, feed_read}
use Rattle.desk.proofs.Laws.Views.{feeds}
use Rattle.desk.specs.Rooms.{room_of, ticket_in}
use Rattle.desk.specs.TakeMany.{take_many_of}
use Rattle.desk.specs.declared.Desk.{Desk}
use Rattle.desk.specs.declared.Serial.{Serial}
use Rattle.desk.specs.declared.Ticket.{Ticket}
use Rattle.gate.specs.Feeding.{fed_on, rest_of}
use Rattle.gate.specs.declared.Gate.{Gate}
use Rattle.gate.specs.declared.feeding.Fed.{Fed}
use Rattle.matching.specs.Words.{Word}
use Rattle.verdicts.specs.Laws.Alike.{rest_alike}
use Rattle.desk.specs.Limits.{most_tickets}
use Rattle.desk.specs.Layout.{Lent}

-- the ticket in room i counts so many more, and each other as many as before
pub record Counted (d e : Desk) (i n : ℕ) : Type 0 where
  pub wide : length e.tickets ≡ length d.tickets
  pub own : (ticket_in e.tickets i).taken ≡ (ticket_in d.tickets i).taken + n
  pub others : (j : ℕ) → (j ≡ i → ⊥) → (ticket_in e.tickets j).taken ≡ (ticket_in d.tickets j).taken

counted_none : (d : Desk) (i : ℕ) → Counted d d i 0
counted_none d i = record { wide = refl; own = omega arith; others = λ j h. refl }

feed_counted : (d : Desk) (s : Serial) (table : Lent) (piece : Word) → length d.tickets ≡ most_tickets
    → Counted d (feed_of d s table piece).desk (room_of d.tickets s) (taken_by (feed_of d s table piece).answer)
feed_counted d s table piece wide = go _ _ (feeds d s table piece)
  where
    go : (i : ℕ) (r : Feeding) → Feeds d i table piece r → Counted d r.desk i (taken_by r.answer)
    go i r (feed_no-ticket a) = counted_none d i
    go i r (feed_stale a b) = counted_none d i
    go i r (feed_other-slots a b e) = counted_none d i
    go i r (feed_long a b e f) = counted_none d i
    go i r (feed_no-place a b e f g) = counted_none d i
    go i r (feed_read a b e f) = record {
      wide = length-set d.tickets i _;
      own = ap (λ (x : Ticket). x.taken) (set_same d.tickets i _ (omega (arith, a, wide)));
      others = λ j h. ap (λ (x : Ticket). x.taken) (set_other d.tickets i j _ h);
    }

rest-counted : (g : Gate) (s : Serial) (table : Lent) (rest : Word) → length g.desk.tickets ≡ most_tickets
    → Counted g.desk (rest_of g s table rest).gate.desk (room_of g.desk.tickets s) (rest_of g s table rest).taken
unfolding take_many_of
rest-counted g s table rest wide =
    let c = feed_counted g.desk s table rest wide in
    record { wide = c.wide; own = c.own; others = c.others }

-- a piece fed on from a count of bytes
pub record FedCounted (g : Gate) (s : Serial) (piece : Word) (from : ℕ) (r : Fed) : Type 0 where
  pub more : ℕ
  pub total : r.taken ≡ from + more
  pub most : from ≤ length piece → r.taken ≤ length piece
  pub counted : Counted g.desk r.gate.desk (room_of g.desk.tickets s) more

pub fed-counted : (most : ℕ) (g : Gate) (s : Serial) (table : Lent) (piece : Word) (from : ℕ) → length g.desk.tickets ≡ most_tickets
    → FedCounted g s piece from (fed_on most g s table piece from)
unfolding fed_on
fed-counted zero g s table piece from wide = record { more = 0; total = omega arith; most = λ h. h; counted = counted_none g.desk _ }
fed-counted (suc most) g s table piece from wide =
    go (ltb from (length piece)) (eqb t 0) refl refl (fed-counted most next s table piece (from + t) (c.wide ∙ wide))
  where
    t : ℕ
    t = (rest_of g s table (drop from piece)).taken

    next : Gate
    next = (rest_of g s table (drop from piece)).gate

    i : ℕ
    i = room_of g.desk.tickets s

    c : Counted g.desk next.desk i t
    c = rest-counted g s table (drop from piece) wide

    room : room_of next.desk.tickets s ≡ i
    room = (rest_alike g s table (drop from piece)).same.rooms s

    go : (x y : Bool) → ltb from (length piece) ≡ x → eqb t 0 ≡ y → FedCounted next s piece (from + t) (fed_on most next s table piece (from + t))
        → FedCounted g s piece from
        (cond x (cond y (record { gate = next; taken = from }) (fed_on most next s table piece (from + t))) (record { gate = g; taken = from }))
    go false y p q ih = record { more = 0; total = omega arith; most = λ h. h; counted = counted_none g.desk i }
    go true true p q ih = record {
      more = 0;
      total = omega arith;
      most = λ h. h;
      counted = subst (λ (n : ℕ). Counted g.desk next.desk i n) (eqb-true t 0 q) c;
    }
    go true false p q ih =
        let r = fed_on most next s table piece (from + t) in
        let d : Counted next.desk r.gate.desk i ih.more = subst (λ (j : ℕ). Counted next.desk r.gate.desk j ih.more) room ih.counted in
        record {
          more = t + ih.more;
          total = omega (arith, ih.total);
          most = λ h. ih.most (omega (arith, ltb-true from (length piece) p, fed-at-most g.desk s table (drop from piece), length-drop from piece));
          counted = record {
            wide = d.wide ∙ c.wide;
            own = omega (arith, d.own, c.own);
            others = λ j h. d.others j h ∙ c.others j h;
          };
        }
