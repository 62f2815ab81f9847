-- What holds after every history of the gate's calls, whatever tables the pieces were lent.
use Rattle.desk.specs.Given.{ReplaceAnswer, Opening, Closing, Replacing, replaced_as}
use Prim.Native.Nat.{ℕ, suc, ◌+◌, ◌<◌, ◌≤◌}
use Rattle.std.specs.Prelude.{Bool, List, [], ◌++◌, ◌∷◌, ◌≡◌, ltb, length, set, Ok, Err}
use Rattle.std.proofs.Math.Bool.{false, true}
use Rattle.std.proofs.Common.{inl, inr, ◌∙◌, sym, ap, subst, le_of_eq, arith, length-append, length-set, get_or-set_other, get_or-set_same, eqb-true, ltb-true}
use Rattle.std.proofs.Math.Path.{refl}
use Rattle.std.proofs.Math.Dec.{eqb}
use Rattle.std.proofs.lemmas.Bool.{eqb-false}
use Rattle.desk.proofs.Laws.Good.{good}
use Rattle.desk.specs.Laws.Rooms.{first_room-holds, for_held, free-held, held_for, new-held}
use Rattle.desk.specs.Laws.Views.{Closes, Opens, Replaces, close_done, close_no-ticket, closes, open_done, open_no-room, open_no-set, open_serial-end, opens}
use Rattle.desk.specs.Laws.Views.{replace_done, replace_edition-end, replace_fault, replace_table, replaces}
use Rattle.desk.specs.Reached.{Reached, by_call, call_close, call_open, call_replace, from_new}
use Rattle.desk.specs.Rooms.{free_room, free_ticket, is_for, is_free, is_held, new_ticket, room_of, serial_of, ticket_in}
use Rattle.desk.specs.declared.Edition.{Edition}
use Rattle.desk.specs.declared.Serial.{Serial}
use Rattle.desk.specs.declared.Ticket.{Ticket}
use Rattle.gate.specs.Feeding.{fed_on}
use Rattle.gate.specs.Gate.{begin_of, change_of, cut_in, decide_by, decide_of, ended_by, piece_by, piece_of}
use Rattle.gate.specs.Noting.{begun_seen, seen_in, unseen}
use Rattle.gate.specs.declared.Seen.{Seen}
use Rattle.gate.specs.declared.feeding.Fed.{Fed}
use Rattle.history.specs.Laws.Invariant.{Stranger}
use Rattle.history.specs.Laws.Numbers.{differ, lower}
use Rattle.history.specs.Laws.Seats.{for_other, room_for, room-kept, seat_gone, seat_new, ticket-kept}
use Rattle.history.specs.Laws.Snoc.{snoc_each, snoc_length}
use Rattle.matching.specs.Laws.Bools.{is_false, not-both}
use Rattle.matching.specs.Words.{Word}
use Rattle.verdicts.specs.GateHistory.{Approval, GateAct, GateWorld, approval_at, begun_with, decided_with, gate_begin, gate_decide, gate_piece, gate_replace}
use Rattle.verdicts.specs.GateHistory.{gate_run, gate_start, gate_step, handed_cut, handed_whole, handed_with, new_approval, no_approval, on_approval}
use Rattle.verdicts.specs.GateHistory.{replaced_with, settled, with_approvals}
use Rattle.verdicts.specs.Laws.Alike.{Alike, fed_alike}
use Rattle.verdicts.specs.Laws.Approvals.{on-each, on-length, verdict_settles}
use Rattle.verdicts.specs.Laws.Counted.{FedCounted, fed-counted}
use Rattle.verdicts.specs.Laws.Masks.{nothing_seen, rooms-apart}
use Rattle.desk.specs.Layout.{Kind, Lent, Order, sizes_of}
use Rattle.desk.specs.Limits.{most_tickets}
use Rattle.desk.specs.Calls.{opened_in}
use Rattle.desk.proofs.Laws.Apart.{reached_unique, unknown_room}

-- what a room keeps for an approval: the ticket is of the edition that the count of replacements was, and unread is 0 while it is whole
pub record Kept (t : Ticket) (x : Seen) (p : Approval) : Type 0 where
  pub edition : t.edition.0 ≡ p.accepted
  pub read : eqb x.unread 0 ≡ p.whole

-- an approval has a room exactly while it is not decided
pub data Sits (rooms : List Ticket) (seen : List Seen) (p : Approval) : Type 0 where
  stood : p.decided ≡ true → most_tickets ≤ room_of rooms (serial_of p.serial) → Sits rooms seen p
  sits : p.decided ≡ false → room_of rooms (serial_of p.serial) < most_tickets
      → Kept (ticket_in rooms (room_of rooms (serial_of p.serial))) (seen_in seen (room_of rooms (serial_of p.serial))) p → Sits rooms seen p

-- a count of bytes taken: all that were handed in while it is whole, and else fewer
pub record Tally (n : ℕ) (p : Approval) : Type 0 where
  pub all : p.whole ≡ true → n ≡ length p.handed
  pub part : p.whole ≡ false → n < length p.handed

-- the ticket of an approval that is not decided counts so
abbrev pub Counts : List Ticket → Approval → Type 0
Counts rooms p = p.decided ≡ false → Tally (ticket_in rooms (room_of rooms (serial_of p.serial))).taken p

pub tally-most : (n : ℕ) (p : Approval) → Tally n p → n ≤ length p.handed
tally-most n p c = go p.whole refl
  where
    go : (x : Bool) → p.whole ≡ x → n ≤ length p.handed
    go true e = le_of_eq (c.all e)
    go false e = omega (arith, c.part e)

room_in : {rooms : List Ticket} {seen : List Seen} {p : Approval} → Sits rooms seen p → p.decided ≡ false → room_of rooms (serial_of p.serial) < most_tickets
room_in (stood c h) d = absurd (not-both c d)
room_in (sits c h k) d = h

pub record Standing (g : GateWorld) : Type 0 where
  pub reached : Reached g.gate.desk
  pub wide : length g.gate.seen ≡ most_tickets
  pub editions : g.gate.desk.edition.0 ≡ g.accepted
  pub serials : length g.approvals ≡ g.gate.desk.serial.0
  pub numbered : (k : ℕ) → k < length g.approvals → (approval_at g k).serial ≡ suc k
  pub upto : (k : ℕ) → k < length g.approvals → (approval_at g k).accepted ≤ g.accepted
  pub seats : (k : ℕ) → k < length g.approvals → Sits g.gate.desk.tickets g.gate.seen (approval_at g k)
  pub counts : (k : ℕ) → k < length g.approvals → Counts g.gate.desk.tickets (approval_at g k)

-- a serial that no beginning answered has no room
pub strangers : (g : GateWorld) → Standing g → (s : Serial) → Stranger (length g.approvals) s.0 → most_tickets ≤ room_of g.gate.desk.tickets s
strangers g v s z = unknown_room v.reached s (go z)
  where
    go : Stranger (length g.approvals) s.0 → Stranger g.gate.desk.serial.0 s.0
    go (inl e) = inl e
    go (inr e) = inr (omega (arith, e, v.serials))

pub standing_start : (kind : Kind) → Standing (gate_start kind)
standing_start kind = record {
  reached = from_new kind;
  wide = refl;
  editions = refl;
  serials = refl;
  numbered = λ k h. absurd (omega arith);
  upto = λ k h. absurd (omega arith);
  seats = λ k h. absurd (omega arith);
  counts = λ k h. absurd (omega arith);
}

module _ (g : GateWorld) (v : Standing g) where
  abbrev rooms : List Ticket
  rooms = g.gate.desk.tickets

  rooms-wide : length g.gate.desk.tickets ≡ most_tickets
  rooms-wide = (good v.reached).rooms

  -- replacing
  standing_replace : (order : Order) (lent : Lent) → Standing (gate_step g (gate_replace order lent))
  unfolding change_of
  standing_replace order lent = go _ (replaces g.gate.desk order (sizes_of lent)) (by_call v.reached (call_replace order lent))
    where
      go : (r : Replacing) → Replaces g.gate.desk order (sizes_of lent) r → Reached r.desk
          → Standing (replaced_with g order lent (record { desk = r.desk; seen = g.gate.seen }) r.answer)
      go r (replace_fault fault p) d = v
      go r (replace_table machine needs p) d = v
      go r (replace_edition-end n p f) d = v
      go r (replace_done n p f) d = record {
        reached = d;
        wide = v.wide;
        editions = omega (arith, v.editions);
        serials = v.serials;
        numbered = v.numbered;
        upto = λ k h. omega (arith, v.upto k h);
        seats = v.seats;
        counts = v.counts;
      }

  -- a new approval
  module _ (i : ℕ) (free : i ≡ free_room g.gate.desk.tickets) (hi : i < most_tickets) where
    abbrev s : Serial
    s = serial_of (g.gate.desk.serial.0 + 1)

    abbrev t : Ticket
    t = new_ticket (serial_of (g.gate.desk.serial.0 + 1)) g.gate.desk.edition

    abbrev rooms2 : List Ticket
    rooms2 = set g.gate.desk.tickets i t

    abbrev seen2 : List Seen
    seen2 = set g.gate.seen (room_of rooms2 s) unseen

    abbrev new : Approval
    new = new_approval g (g.gate.desk.serial.0 + 1)

    number : g.gate.desk.serial.0 + 1 ≡ suc (length g.approvals)
    number = omega (arith, v.serials)

    count : length (g.approvals ++ new ∷ []) ≡ suc (length g.approvals)
    count = snoc_length g.approvals new no_approval

    mine : is_for s t ≡ true
    mine = held_for s t (new-held g.gate.desk.serial.0 g.gate.desk.edition) refl

    unknown : most_tickets ≤ room_of rooms s
    unknown = strangers g v s (inr (omega (arith, number)))

    was_free : (n : Serial) → is_for n (ticket_in rooms i) ≡ false
    was_free n =
        let f : is_held (ticket_in rooms i) ≡ false = subst (λ (k : ℕ). is_held (ticket_in rooms k) ≡ false) (sym free)
        (free-held (ticket_in rooms (free_room rooms)) (first_room-holds is_free rooms (omega (arith, free, hi, rooms-wide)))) in
        is_false (is_for n (ticket_in rooms i)) (λ h. not-both (for_held n (ticket_in rooms i) h).0 f)

    not-its : (n : Serial) → (n.0 ≡ s.0 → ⊥) → is_for n t ≡ false
    not-its n ne = for_other s n t mine (λ q. ne (sym q))

    stays : (n : Serial) → (n.0 ≡ s.0 → ⊥) → room_of rooms2 n ≡ room_of rooms n
    stays n ne = room-kept rooms rooms-wide i t hi n (was_free n) (not-its n ne)

    seated : room_of rooms2 s ≡ i
    seated = (seat_new rooms rooms-wide i t hi s mine unknown).0

    old : (p : Approval) → (p.serial ≡ s.0 → ⊥) → Sits rooms g.gate.seen p → Sits rooms2 seen2 p
    old p ne (stood c h) = stood c (rw (stays (serial_of p.serial) ne) h)
    old p ne (sits c h k) =
        let n = serial_of p.serial in
        let r = stays n ne in
        let h2 : room_of rooms2 n < most_tickets = rw r h in
        sits c h2 (record {
          edition = ap (λ (x : Ticket). x.edition.0) (ticket-kept rooms rooms-wide i t hi n (was_free n) (not-its n ne) h) ∙ k.edition;
          read =
              ap (λ (x : Seen). eqb x.unread 0)
              (get_or-set_other g.gate.seen (room_of rooms2 s) (room_of rooms2 n) unseen nothing_seen
              (rooms-apart rooms2 (length-set rooms i t ∙ rooms-wide) n s ne h2))
              ∙ ap (λ (j : ℕ). eqb (seen_in g.gate.seen j).unread 0) r ∙ k.read;
        })

    its : Sits rooms2 seen2 new
    its = sits refl (omega (arith, seated, hi)) (record {
      edition = ap (λ (x : Ticket). x.edition.0) (seat_new rooms rooms-wide i t hi s mine unknown).1 ∙ v.editions;
      read = ap (λ (x : Seen). eqb x.unread 0) (get_or-set_same g.gate.seen (room_of rooms2 s) unseen nothing_seen (omega (arith, seated, hi, v.wide)));
    })

    old-counts : (p : Approval) → (p.serial ≡ s.0 → ⊥) → Sits rooms g.gate.seen p → Counts rooms p → Counts rooms2 p
    old-counts p ne x c d =
        let n = serial_of p.serial in
        subst (λ (y : Ticket). Tally y.taken p) (sym (ticket-kept rooms rooms-wide i t hi n (was_free n) (not-its n ne) (room_in x d))) (c d)

    its-counts : Counts rooms2 new
    its-counts d = record { all = λ e. ap (λ (x : Ticket). x.taken) (seat_new rooms rooms-wide i t hi s mine unknown).1; part = λ e. differ cc }

    begun : Reached (opened_in g.gate.desk i)
        → Standing (with_approvals g
        (record { desk = opened_in g.gate.desk i; seen = seen2 })
        (g.approvals ++ new ∷ []))
    begun d = record {
      reached = d;
      wide = length-set g.gate.seen (room_of rooms2 s) unseen ∙ v.wide;
      editions = v.editions;
      serials = omega (arith, count, v.serials);
      numbered = snoc_each g.approvals new no_approval (λ k p. p.serial ≡ suc k) v.numbered number;
      upto = snoc_each g.approvals new no_approval (λ k p. p.accepted ≤ g.accepted) v.upto (omega arith);
      seats = snoc_each g.approvals new no_approval (λ k p. Sits rooms2 seen2 p)
          (λ k h. old (approval_at g k) (λ e. omega (arith, e, v.numbered k h, h, number)) (v.seats k h)) its;
      counts = snoc_each g.approvals new no_approval (λ k p. Counts rooms2 p)
          (λ k h. old-counts (approval_at g k) (λ e. omega (arith, e, v.numbered k h, h, number)) (v.seats k h) (v.counts k h)) its-counts;
    }

  standing_begin : Standing (gate_step g gate_begin)
  unfolding begin_of
  standing_begin = go _ (opens g.gate.desk) (by_call v.reached call_open)
    where
      go : (r : Opening) → Opens g.gate.desk r → Reached r.desk
          → Standing (begun_with g (record { desk = r.desk; seen = begun_seen r.desk g.gate.seen r.answer }) r.answer)
      go r (open_no-set p) d = v
      go r (open_serial-end p q) d = v
      go r (open_no-room p q f) d = v
      go r (open_done p q i f h) d = begun i f h d

  -- deciding
  standing_decide : (s : Serial) → Standing (gate_step g (gate_decide s))
  unfolding decide_of
  standing_decide s = go _ refl
    where
      i : ℕ
      i = room_of g.gate.desk.tickets s

      closed : (r : Closing) → Closes g.gate.desk s r → room_of g.gate.desk.tickets s < most_tickets → Reached r.desk
          → Standing (with_approvals g (record { desk = r.desk; seen = g.gate.seen }) (on_approval s.0 settled g.approvals))
      closed r (close_no-ticket f) h d = absurd (omega (arith, f, h))
      closed r (close_done k f hk) h d = record {
        reached = d;
        wide = v.wide;
        editions = v.editions;
        serials = on-length s.0 settled g.approvals ∙ v.serials;
        numbered = on-each s.0 settled g.approvals (λ j p. p.serial ≡ suc j) (λ j z e. v.numbered j z) (λ j z e. v.numbered j z);
        upto = on-each s.0 settled g.approvals (λ j p. p.accepted ≤ g.accepted) (λ j z e. v.upto j z) (λ j z e. v.upto j z);
        seats = on-each s.0 settled g.approvals (λ j p. Sits (set rooms k free_ticket) g.gate.seen p)
            (λ j z e. stood refl (subst (λ (n : ℕ). most_tickets ≤ room_of (set rooms k free_ticket) (serial_of n)) (sym e) gone))
            (λ j z e. other (approval_at g j) e (v.seats j z));
        counts = on-each s.0 settled g.approvals (λ j p. Counts (set rooms k free_ticket) p)
            (λ j z e d. differ cc)
            (λ j z e. other-counts (approval_at g j) e (v.seats j z) (v.counts j z));
      }
        where
          its : is_for s (ticket_in rooms k) ≡ true
          its = subst (λ (y : ℕ). is_for s (ticket_in rooms y) ≡ true) (sym f) (room_for rooms rooms-wide s h)

          gone : most_tickets ≤ room_of (set rooms k free_ticket) s
          gone = seat_gone rooms rooms-wide s k (reached_unique v.reached) f hk

          apart : (n : Serial) → n.0 ≡ s.0 → most_tickets ≤ room_of rooms n → ⊥
          apart n e q = let z : n ≡ s = λ d. record { 0 = e d } in omega (arith, h, subst (λ (y : Serial). most_tickets ≤ room_of rooms y) z q)

          not-its : (n : Serial) → (n.0 ≡ s.0 → ⊥) → is_for n (ticket_in rooms k) ≡ false
          not-its n ne = for_other s n (ticket_in rooms k) its (λ q. ne (sym q))

          stays : (n : Serial) → (n.0 ≡ s.0 → ⊥) → room_of (set rooms k free_ticket) n ≡ room_of rooms n
          stays n ne = room-kept rooms rooms-wide k free_ticket hk n (not-its n ne) refl

          other : (p : Approval) → (p.serial ≡ s.0 → ⊥) → Sits rooms g.gate.seen p → Sits (set rooms k free_ticket) g.gate.seen p
          other p ne (stood c x) = stood c (rw (stays (serial_of p.serial) ne) x)
          other p ne (sits c x y) =
              let n = serial_of p.serial in
              let r = stays n ne in
              sits c (rw r x) (record {
                edition = ap (λ (z : Ticket). z.edition.0) (ticket-kept rooms rooms-wide k free_ticket hk n (not-its n ne) refl x) ∙ y.edition;
                read = ap (λ (j : ℕ). eqb (seen_in g.gate.seen j).unread 0) r ∙ y.read;
              })

          other-counts : (p : Approval) → (p.serial ≡ s.0 → ⊥) → Sits rooms g.gate.seen p → Counts rooms p → Counts (set rooms k free_ticket) p
          other-counts p ne x c d =
              let n = serial_of p.serial in
              subst (λ (y : Ticket). Tally y.taken p) (sym (ticket-kept rooms rooms-wide k free_ticket hk n (not-its n ne) refl (room_in x d))) (c d)

      go : (x : Bool) → ltb (room_of g.gate.desk.tickets s) most_tickets ≡ x
          → Standing (decided_with g s (decide_by g.gate s i x).gate (decide_by g.gate s i x).answer)
      go false e = v
      go true e =
          subst Standing (sym (verdict_settles g s _ (ticket_in rooms i).edition (seen_in g.gate.seen i)
          (eqb (ticket_in rooms i).edition.0 g.gate.desk.edition.0)))
          (closed _ (closes g.gate.desk s) (ltb-true i most_tickets e) (by_call v.reached (call_close s)))

  -- a piece
  module _ (s : Serial) (table : Lent) (piece : Word) where
    abbrev fed : Fed
    fed = fed_on (length piece) g.gate s table piece 0

    a : Alike g.gate fed.gate
    a = fed_alike (length piece) g.gate s table piece 0

    abbrev i : ℕ
    i = room_of g.gate.desk.tickets s

    fed_sits : (p : Approval) → Sits rooms g.gate.seen p → Sits fed.gate.desk.tickets fed.gate.seen p
    fed_sits p (stood c h) = stood c (rw (a.same.rooms (serial_of p.serial)) h)
    fed_sits p (sits c h k) =
        let r = a.same.rooms (serial_of p.serial) in
        sits c (rw r h) (record {
          edition = ap (λ (j : ℕ). (ticket_in fed.gate.desk.tickets j).edition.0) r
              ∙ ap (λ (e : Edition). e.0) (a.same.editions (room_of rooms (serial_of p.serial))) ∙ k.edition;
          read = ap (λ (j : ℕ). eqb (seen_in fed.gate.seen j).unread 0) r ∙ ap (λ (j : ℕ). eqb j 0) (a.unreads (room_of rooms (serial_of p.serial)))
              ∙ k.read;
        })

    c : FedCounted g.gate s piece 0 fed
    c = fed-counted (length piece) g.gate s table piece 0 rooms-wide

    -- the count of another's ticket, and that of its own
    fed-counts : (p : Approval) → (p.serial ≡ s.0 → ⊥) → Sits rooms g.gate.seen p → Counts rooms p → Counts fed.gate.desk.tickets p
    fed-counts p ne x y d =
        let n = serial_of p.serial in
        let same : (ticket_in fed.gate.desk.tickets (room_of fed.gate.desk.tickets n)).taken ≡ (ticket_in rooms (room_of rooms n)).taken =
        ap (λ (j : ℕ). (ticket_in fed.gate.desk.tickets j).taken) (a.same.rooms n)
        ∙ c.counted.others (room_of rooms n) (rooms-apart rooms rooms-wide n s ne (room_in x d)) in
        subst (λ (m : ℕ). Tally m p) (sym same) (y d)

    own-count : (p : Approval) → p.serial ≡ s.0
        → (ticket_in fed.gate.desk.tickets (room_of fed.gate.desk.tickets (serial_of p.serial))).taken
        ≡ (ticket_in rooms (room_of rooms (serial_of p.serial))).taken + fed.taken
    own-count p e =
        let n = serial_of p.serial in
        let at : room_of rooms n ≡ i = ap (λ (m : ℕ). room_of rooms (serial_of m)) e in
        ap (λ (j : ℕ). (ticket_in fed.gate.desk.tickets j).taken) (a.same.rooms n ∙ at)
        ∙ omega (arith, c.counted.own, c.total, ap (λ (j : ℕ). (ticket_in rooms j).taken) at)

    whole-counts : fed.taken ≡ length piece → (p : Approval) → p.serial ≡ s.0 → Counts rooms p → Counts fed.gate.desk.tickets (handed_whole piece p)
    whole-counts z p e y d = record {
      all = λ w. omega (arith, own-count p e, (y d).all w, z, length-append p.handed piece);
      part = λ w. omega (arith, own-count p e, (y d).part w, z, length-append p.handed piece);
    }

    cut-counts : (fed.taken ≡ length piece → ⊥) → (p : Approval) → p.serial ≡ s.0 → Counts rooms p → Counts fed.gate.desk.tickets (handed_cut piece p)
    cut-counts z p e y d =
        let few : fed.taken < length piece = lower _ _ (c.most (omega arith)) z in
        record {
          all = λ w. differ cc;
          part = λ w. omega (arith, own-count p e, tally-most _ p (y d), few, length-append p.handed piece);
        }

    whole_sits : (seen : List Seen) (p : Approval) → Sits fed.gate.desk.tickets seen p → Sits fed.gate.desk.tickets seen (handed_whole piece p)
    whole_sits seen p (stood c h) = stood c h
    whole_sits seen p (sits c h k) = sits c h (record { edition = k.edition; read = k.read })

    -- the history after it
    handed : (seen : List Seen) (f : Approval → Approval) → length seen ≡ most_tickets → ((p : Approval) → (f p).serial ≡ p.serial)
        → ((p : Approval) → (f p).accepted ≡ p.accepted)
        → ((p : Approval) → p.serial ≡ s.0 → Sits rooms g.gate.seen p → Sits fed.gate.desk.tickets seen (f p))
        → ((p : Approval) → (p.serial ≡ s.0 → ⊥) → Sits rooms g.gate.seen p → Sits fed.gate.desk.tickets seen p)
        → ((p : Approval) → p.serial ≡ s.0 → Counts rooms p → Counts fed.gate.desk.tickets (f p))
        → Standing (with_approvals g (record { desk = fed.gate.desk; seen = seen }) (on_approval s.0 f g.approvals))
    handed seen f wide serial accepted hit miss count = record {
      reached = a.reached v.reached;
      wide = wide;
      editions = ap (λ (e : Edition). e.0) a.same.edition ∙ v.editions;
      serials = on-length s.0 f g.approvals ∙ v.serials ∙ ap (λ (n : Serial). n.0) (sym a.same.serial);
      numbered = on-each s.0 f g.approvals (λ j p. p.serial ≡ suc j) (λ j z e. serial (approval_at g j) ∙ v.numbered j z) (λ j z e. v.numbered j z);
      upto = on-each s.0 f g.approvals (λ j p. p.accepted ≤ g.accepted) (λ j z e. rw (accepted (approval_at g j)) (v.upto j z)) (λ j z e. v.upto j z);
      seats = on-each s.0 f g.approvals (λ j p. Sits fed.gate.desk.tickets seen p) (λ j z e. hit (approval_at g j) e (v.seats j z))
          (λ j z e. miss (approval_at g j) e (v.seats j z));
      counts = on-each s.0 f g.approvals (λ j p. Counts fed.gate.desk.tickets p) (λ j z e. count (approval_at g j) e (v.counts j z))
          (λ j z e. fed-counts (approval_at g j) e (v.seats j z) (v.counts j z));
    }

    fed-wide : length fed.gate.seen ≡ most_tickets
    fed-wide = a.wide ∙ v.wide

    read : fed.taken ≡ length piece → Standing (with_approvals g fed.gate (on_approval s.0 (handed_whole piece) g.approvals))
    read z = handed fed.gate.seen (handed_whole piece) fed-wide (λ p. refl) (λ p. refl) (λ p e x. whole_sits fed.gate.seen p (fed_sits p x))
        (λ p e x. fed_sits p x) (whole-counts z)

    cut : i < most_tickets → (fed.taken ≡ length piece → ⊥) → Standing
        (with_approvals g (record { desk = fed.gate.desk; seen = cut_in fed.gate.seen i }) (on_approval s.0 (handed_cut piece) g.approvals))
    cut h z = handed (cut_in fed.gate.seen i) (handed_cut piece) (length-set fed.gate.seen i _ ∙ fed-wide) (λ p. refl) (λ p. refl)
        (λ p e x. hit p e (fed_sits p x)) (λ p e x. miss p e (fed_sits p x)) (cut-counts z)
      where
        room : room_of fed.gate.desk.tickets s ≡ i
        room = a.same.rooms s

        hit : (p : Approval) → p.serial ≡ s.0 → Sits fed.gate.desk.tickets fed.gate.seen p
            → Sits fed.gate.desk.tickets (cut_in fed.gate.seen i) (handed_cut piece p)
        hit p e (stood c x) = stood c x
        hit p e (sits c x k) =
            let own : room_of fed.gate.desk.tickets (serial_of p.serial) ≡ i = ap (λ (n : ℕ). room_of fed.gate.desk.tickets (serial_of n)) e ∙ room in
            sits c x (record {
              edition = k.edition;
              read =
                  ap (λ (j : ℕ). eqb (seen_in (cut_in fed.gate.seen i) j).unread 0) own
                  ∙ ap (λ (u : Seen). eqb u.unread 0) (get_or-set_same fed.gate.seen i _ nothing_seen (omega (arith, h, fed-wide)));
            })

        miss : (p : Approval) → (p.serial ≡ s.0 → ⊥) → Sits fed.gate.desk.tickets fed.gate.seen p
            → Sits fed.gate.desk.tickets (cut_in fed.gate.seen i) p
        miss p e (stood c x) = stood c x
        miss p e (sits c x k) =
            let apart : room_of fed.gate.desk.tickets (serial_of p.serial) ≡ i → ⊥ =
            λ q. rooms-apart fed.gate.desk.tickets (good (a.reached v.reached)).rooms (serial_of p.serial) s e x (q ∙ sym room) in
            sits c x (record {
              edition = k.edition;
              read = ap (λ (u : Seen). eqb u.unread 0)
                  (get_or-set_other fed.gate.seen i (room_of fed.gate.desk.tickets (serial_of p.serial)) _ nothing_seen apart) ∙ k.read;
            })

    standing_piece : Standing (gate_step g (gate_piece s table piece))
    unfolding piece_of
    standing_piece = go (ltb i most_tickets) refl (eqb (ticket_in rooms i).edition.0 g.gate.desk.edition.0)
      where
        ended : (x : Bool) → i < most_tickets → eqb fed.taken (length piece) ≡ x
            → Standing (handed_with g s piece (ended_by fed.gate i fed.taken x).gate (ended_by fed.gate i fed.taken x).answer)
        ended true h e = read (eqb-true fed.taken (length piece) e)
        ended false h e = cut h (eqb-false fed.taken (length piece) e)

        go : (x : Bool) → ltb i most_tickets ≡ x → (y : Bool)
            → Standing (handed_with g s piece (piece_by g.gate s i (ticket_in rooms i) table piece x y).gate
            (piece_by g.gate s i (ticket_in rooms i) table piece x y).answer)
        go false e y = v
        go true e false = v
        go true e true = ended (eqb fed.taken (length piece)) (ltb-true i most_tickets e) refl

  pub standing_step : (act : GateAct) → Standing (gate_step g act)
  standing_step (gate_replace order lent) = standing_replace order lent
  standing_step gate_begin = standing_begin
  standing_step (gate_piece s table piece) = standing_piece s table piece
  standing_step (gate_decide s) = standing_decide s

pub standing : (calls : List GateAct) (g : GateWorld) → Standing g → Standing (gate_run g calls)
unfolding gate_run
standing [] g v = v
standing (act ∷ calls) g v = standing calls (gate_step g act) (standing_step g v act)

-- an accepted replacement answers the next count
pub accepts-next : (g : GateWorld) → Standing g → (order : Order) (run : Lent) (e : Edition) (tags : ℕ)
    → (change_of g.gate order (sizes_of run)).answer ≡ Ok (replaced_as e tags)
    → e.0 ≡ suc g.accepted
unfolding change_of
accepts-next g v order run e tags q = go _ (replaces g.gate.desk order (sizes_of run)) q
  where
    edition : ReplaceAnswer → ℕ
    edition (Ok given) = given.edition.0
    edition (Err why) = 0

    go : (r : Replacing) → Replaces g.gate.desk order (sizes_of run) r → r.answer ≡ Ok (replaced_as e tags) → e.0 ≡ suc g.accepted
    go r (replace_fault fault p) z = differ cc
    go r (replace_table machine needs p) z = differ cc
    go r (replace_edition-end n p f) z = differ cc
    go r (replace_done n p f) z = ap edition (sym z) ∙ omega (arith, v.editions)
