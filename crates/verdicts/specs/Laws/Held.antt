-- What is never too many, after every history of the gate's calls: the rooms held are the undecided approvals; and the approvals, the
-- replacements accepted and the tags in force.
use Rattle.desk.specs.Given.{Opening, Closing, Replacing}
use Prim.Native.Nat.{ℕ, zero, suc, ◌+◌, ◌<◌, ◌≤◌}
use Rattle.std.specs.Prelude.{Bool, cond, false, true, List, [], ◌++◌, ◌∷◌, ◌≡◌, eqb, ltb, get_or, length, set}
use Rattle.std.proofs.Common.{◌∙◌, sym, ap, subst, le_of_eq, le_trans, arith, eq-eqb, ltb-true, ne_eqb}
use Rattle.std.proofs.Math.Path.{refl}
use Rattle.desk.proofs.Laws.Good.{good}
use Rattle.desk.specs.Laws.Rooms.{first_room-holds, for_held, free-held, held-set, new-held}
use Rattle.desk.specs.Laws.Views.{Closes, Opens, Replaces, close_done, close_no-ticket, closes, open_done, open_no-room, open_no-set, open_serial-end, opens}
use Rattle.desk.specs.Laws.Views.{replace_done, replace_edition-end, replace_fault, replace_table, replaces}
use Rattle.desk.specs.Rooms.{free_room, free_ticket, is_for, is_free, is_held, new_ticket, room_of, serial_of, ticket_in, tickets_held}
use Rattle.desk.specs.declared.Serial.{Serial}
use Rattle.desk.specs.declared.Ticket.{Ticket}
use Rattle.gate.specs.Feeding.{fed_on}
use Rattle.gate.specs.Gate.{begin_of, change_of, cut_in, decide_by, decide_of, ended_by, piece_by, piece_of}
use Rattle.gate.specs.Noting.{begun_seen, seen_in}
use Rattle.gate.specs.declared.Seen.{Seen}
use Rattle.gate.specs.declared.feeding.Fed.{Fed}
use Rattle.history.specs.Laws.Numbers.{lower}
use Rattle.history.specs.Laws.Seats.{room_for}
use Rattle.history.specs.Laws.Snoc.{snoc_length}
use Rattle.matching.specs.Words.{Word}
use Rattle.verdicts.specs.GateHistory.{Approval, GateAct, GateWorld, begun_with, decided_with, gate_begin, gate_decide, gate_piece, gate_replace, gate_run}
use Rattle.verdicts.specs.GateHistory.{gate_start, gate_step, handed_cut, handed_whole, handed_with, new_approval, no_approval, on_approval, replaced_with}
use Rattle.verdicts.specs.GateHistory.{settled, undecided_of, with_approvals}
use Rattle.verdicts.specs.Laws.Alike.{fed_alike}
use Rattle.verdicts.specs.Laws.Approvals.{on-length, verdict_settles}
use Rattle.verdicts.specs.Laws.Counted.{fed-counted}
use Rattle.verdicts.specs.Laws.Deciding.{waiting}
use Rattle.verdicts.specs.Laws.Standing.{Standing, standing_start, standing_step}
use Rattle.desk.specs.Layout.{Kind, Lent, Order, sizes_of}
use Rattle.matching.specs.Tags.{tag_count}
use Rattle.matching.specs.Limits.{largest, most_tags}
use Rattle.desk.specs.Laws.Layout.{order-few}
use Rattle.matching.specs.Laws.Tags.{count-exact}
use Rattle.desk.specs.Limits.{most_tickets}

-- ---- counting undecided approvals

undecided_append : (a b : List Approval) → undecided_of (a ++ b) ≡ undecided_of a + undecided_of b
unfolding undecided_of
undecided_append [] b = omega arith
undecided_append (p ∷ a) b = omega (arith, undecided_append a b)

undecided-new : (l : List Approval) (p : Approval) → p.decided ≡ false → undecided_of (l ++ p ∷ []) ≡ undecided_of l + 1
unfolding undecided_of
undecided-new l p e =
    let one : ◌≡◌ {A = ℕ} (cond p.decided 0 1) 1 = ap {B = ℕ} (λ (b : Bool). cond b 0 1) e in
    undecided_append l (p ∷ []) ∙ omega (arith, one)

-- a change that decides none
undecided-kept : (n : ℕ) (f : Approval → Approval) (l : List Approval) → ((p : Approval) → (f p).decided ≡ p.decided)
    → undecided_of (on_approval n f l) ≡ undecided_of l
unfolding undecided_of on_approval
undecided-kept n f [] same = refl
undecided-kept n f (p ∷ l) same = go (eqb p.serial n) (undecided-kept n f l same)
  where
    go : (x : Bool) → undecided_of (on_approval n f l) ≡ undecided_of l → cond (cond x (f p) p).decided 0 1 + undecided_of (on_approval n f l) ≡ cond
        p.decided 0 1 + undecided_of l
    go true ih = let one : ◌≡◌ {A = ℕ} (cond (f p).decided 0 1) (cond p.decided 0 1) = ap {B = ℕ} (λ (b : Bool). cond b 0 1) (same p) in
        omega (arith, one, ih)
    go false ih = omega (arith, ih)

-- where no approval has the serial, none is decided
undecided-none : (n : ℕ) (l : List Approval) → ((m : ℕ) → m < length l → (get_or l m no_approval).serial ≡ n → ⊥)
    → undecided_of (on_approval n settled l) ≡ undecided_of l
unfolding undecided_of on_approval
undecided-none n [] f = refl
undecided-none n (p ∷ l) f =
    let e : eqb p.serial n ≡ false = ne_eqb p.serial n (f 0 (omega arith)) in
    let ih = undecided-none n l (λ m h. f (suc m) (omega (arith, h))) in
    rw e (omega (arith, ih))

-- where one undecided approval has it, one fewer is undecided
undecided-one : (n : ℕ) (l : List Approval) (j : ℕ) → j < length l → (get_or l j no_approval).serial ≡ n → (get_or l j no_approval).decided ≡ false
    → ((m : ℕ) → m < length l → (get_or l m no_approval).serial ≡ n → m ≡ j) → undecided_of (on_approval n settled l) + 1 ≡ undecided_of l
unfolding undecided_of on_approval
undecided-one n [] j h e d only = absurd (omega (arith, h))
undecided-one n (p ∷ l) zero h e d only =
    let q : eqb p.serial n ≡ true = eq-eqb p.serial n e in
    let one : ◌≡◌ {A = ℕ} (cond p.decided 0 1) 1 = ap {B = ℕ} (λ (b : Bool). cond b 0 1) d in
    let rest = undecided-none n l (λ m h e. omega (arith, only (suc m) (omega (arith, h)) e)) in
    rw q (omega (arith, one, rest))
undecided-one n (p ∷ l) (suc j) h e d only =
    let q : eqb p.serial n ≡ false = ne_eqb p.serial n (λ z. omega (arith, only 0 (omega arith) z)) in
    let rest = undecided-one n l j (omega (arith, h)) e d (λ m h e. omega (arith, only (suc m) (omega (arith, h)) e)) in
    rw q (omega (arith, rest))

-- rooms with the same serials
same-held : (a b : List Ticket) → length a ≡ length b → ((i : ℕ) → (ticket_in a i).serial ≡ (ticket_in b i).serial) → tickets_held a ≡ tickets_held b
unfolding tickets_held
same-held [] [] e f = refl
same-held [] (y ∷ b) e f = absurd (omega (arith, e))
same-held (x ∷ a) [] e f = absurd (omega (arith, e))
same-held (x ∷ a) (y ∷ b) e f =
    let first : ◌≡◌ {A = ℕ} (cond (is_held x) 1 0) (cond (is_held y) 1 0) = ap {B = ℕ} (λ (s : Serial). cond (is_held (new_ticket s x.edition)) 1 0) (f 0) in
    omega (arith, first, same-held a b (omega (arith, e)) (λ i. f (suc i)))

pub record Held (g : GateWorld) : Type 0 where
  pub held : undecided_of g.approvals ≡ tickets_held g.gate.desk.tickets
  pub few-serials : length g.approvals ≤ largest
  pub few-editions : g.accepted ≤ largest
  pub few-tags : tag_count g.tags ≤ most_tags

held_start : (kind : Kind) → Held (gate_start kind)
unfolding undecided_of tickets_held
held_start kind = record { held = refl; few-serials = omega arith; few-editions = omega arith; few-tags = omega (arith, count-exact []) }

module _ (g : GateWorld) (v : Standing g) (c : Held g) where
  abbrev rooms : List Ticket
  rooms = g.gate.desk.tickets

  wide : length g.gate.desk.tickets ≡ most_tickets
  wide = (good v.reached).rooms

  held_replace : (order : Order) (lent : Lent) → Held (gate_step g (gate_replace order lent))
  unfolding change_of
  held_replace order lent = go _ (replaces g.gate.desk order (sizes_of lent))
    where
      go : (r : Replacing) → Replaces g.gate.desk order (sizes_of lent) r
          → Held (replaced_with g order lent (record { desk = r.desk; seen = g.gate.seen }) r.answer)
      go r (replace_fault fault p) = c
      go r (replace_table machine needs p) = c
      go r (replace_edition-end n p f) = c
      go r (replace_done n p f) = record {
        held = c.held;
        few-serials = c.few-serials;
        few-editions = lower _ _ c.few-editions (λ e. f (v.editions ∙ e));
        few-tags = order-few order;
      }

  held_begin : Held (gate_step g gate_begin)
  unfolding begin_of
  held_begin = go _ (opens g.gate.desk)
    where
      go : (r : Opening) → Opens g.gate.desk r
          → Held (begun_with g (record { desk = r.desk; seen = begun_seen r.desk g.gate.seen r.answer }) r.answer)
      go r (open_no-set p) = c
      go r (open_serial-end p q) = c
      go r (open_no-room p q f) = c
      go r (open_done p q i f h) = record {
        held = now;
        few-serials = omega (arith, snoc_length g.approvals new no_approval, lower _ _ c.few-serials (λ e. q (sym v.serials ∙ e)));
        few-editions = c.few-editions;
        few-tags = c.few-tags;
      }
        where
          t : Ticket
          t = new_ticket (serial_of (g.gate.desk.serial.0 + 1)) g.gate.desk.edition

          new : Approval
          new = new_approval g (g.gate.desk.serial.0 + 1)

          was : is_held (ticket_in rooms i) ≡ false
          was = subst (λ (k : ℕ). is_held (ticket_in rooms k) ≡ false) (sym f)
              (free-held (ticket_in rooms (free_room rooms)) (first_room-holds is_free rooms (omega (arith, f, h, wide))))

          now : undecided_of (g.approvals ++ new ∷ []) ≡ tickets_held (set rooms i t)
          now =
              let was_none : ◌≡◌ {A = ℕ} (cond (is_held (ticket_in rooms i)) 1 0) 0 = ap {B = ℕ} (λ (b : Bool). cond b 1 0) was in
              let is_one : ◌≡◌ {A = ℕ} (cond (is_held t) 1 0) 1 = ap {B = ℕ} (λ (b : Bool). cond b 1 0)
              (new-held g.gate.desk.serial.0 g.gate.desk.edition) in
              omega (arith, held-set rooms i t (omega (arith, h, wide)), was_none, is_one, undecided-new g.approvals new refl, c.held)

  held_decide : (s : Serial) → Held (gate_step g (gate_decide s))
  unfolding decide_of
  held_decide s = go _ refl
    where
      i : ℕ
      i = room_of g.gate.desk.tickets s

      closed : (r : Closing) → Closes g.gate.desk s r → room_of g.gate.desk.tickets s < most_tickets
          → Held (with_approvals g (record { desk = r.desk; seen = g.gate.seen }) (on_approval s.0 settled g.approvals))
      closed r (close_no-ticket f) h = absurd (omega (arith, f, h))
      closed r (close_done k f hk) h = record {
        held = now;
        few-serials = le_trans (le_of_eq (on-length s.0 settled g.approvals)) c.few-serials;
        few-editions = c.few-editions;
        few-tags = c.few-tags;
      }
        where
          was : is_held (ticket_in rooms k) ≡ true
          was = (for_held s (ticket_in rooms k) (subst (λ (y : ℕ). is_for s (ticket_in rooms y) ≡ true) (sym f) (room_for rooms wide s h))).0

          now : undecided_of (on_approval s.0 settled g.approvals) ≡ tickets_held (set rooms k free_ticket)
          now =
              let w = waiting g v s h in
              let one = undecided-one s.0 g.approvals w.0 w.1.inside w.1.serial w.1.undecided
              (λ m z e. omega (arith, v.numbered m z, e, v.numbered w.0 w.1.inside, w.1.serial)) in
              let was_one : ◌≡◌ {A = ℕ} (cond (is_held (ticket_in rooms k)) 1 0) 1 = ap {B = ℕ} (λ (b : Bool). cond b 1 0) was in
              let is_none : ◌≡◌ {A = ℕ} (cond (is_held free_ticket) 1 0) 0 = refl in
              omega (arith, held-set rooms k free_ticket (omega (arith, hk, wide)), was_one, is_none, one, c.held)

      go : (x : Bool) → ltb (room_of g.gate.desk.tickets s) most_tickets ≡ x
          → Held (decided_with g s (decide_by g.gate s i x).gate (decide_by g.gate s i x).answer)
      go false e = c
      go true e =
          subst Held (sym (verdict_settles g s _ (ticket_in rooms i).edition (seen_in g.gate.seen i)
          (eqb (ticket_in rooms i).edition.0 g.gate.desk.edition.0)))
          (closed _ (closes g.gate.desk s) (ltb-true i most_tickets e))

  held-piece : (s : Serial) (table : Lent) (piece : Word) → Held (gate_step g (gate_piece s table piece))
  unfolding piece_of
  held-piece s table piece = go (ltb i most_tickets) (eqb (ticket_in rooms i).edition.0 g.gate.desk.edition.0)
    where
      i : ℕ
      i = room_of g.gate.desk.tickets s

      fed : Fed
      fed = fed_on (length piece) g.gate s table piece 0

      handed : (seen : List Seen) (f : Approval → Approval) → ((p : Approval) → (f p).decided ≡ p.decided)
          → Held (with_approvals g (record { desk = fed.gate.desk; seen = seen }) (on_approval s.0 f g.approvals))
      handed seen f same = record {
        held = undecided-kept s.0 f g.approvals same ∙ c.held
            ∙ sym (same-held fed.gate.desk.tickets rooms (fed-counted (length piece) g.gate s table piece 0 wide).counted.wide
            (fed_alike (length piece) g.gate s table piece 0).same.serials);
        few-serials = le_trans (le_of_eq (on-length s.0 f g.approvals)) c.few-serials;
        few-editions = c.few-editions;
        few-tags = c.few-tags;
      }

      ended : (x : Bool) → Held (handed_with g s piece (ended_by fed.gate i fed.taken x).gate (ended_by fed.gate i fed.taken x).answer)
      ended true = handed fed.gate.seen (handed_whole piece) (λ p. refl)
      ended false = handed (cut_in fed.gate.seen i) (handed_cut piece) (λ p. refl)

      go : (x y : Bool) → Held
          (handed_with g s piece (piece_by g.gate s i (ticket_in rooms i) table piece x y).gate
          (piece_by g.gate s i (ticket_in rooms i) table piece x y).answer)
      go false y = c
      go true false = c
      go true true = ended (eqb fed.taken (length piece))

  held-step : (act : GateAct) → Held (gate_step g act)
  held-step (gate_replace order lent) = held_replace order lent
  held-step gate_begin = held_begin
  held-step (gate_piece s table piece) = held-piece s table piece
  held-step (gate_decide s) = held_decide s

held-run : (calls : List GateAct) (g : GateWorld) → Standing g → Held g → Held (gate_run g calls)
unfolding gate_run
held-run [] g v c = c
held-run (act ∷ calls) g v c = held-run calls (gate_step g act) (standing_step g v act) (held-step g v c act)

pub held_all : (kind : Kind) (calls : List GateAct) → Held (gate_run (gate_start kind) calls)
held_all kind calls = held-run calls (gate_start kind) (standing_start kind) (held_start kind)
