-- The laws of rooms: of the first room that a test holds of, and of setting one.
use Prim.Native.Nat.{◌+◌, ◌<◌, ◌≤◌, suc, zero, ℕ}
use Rattle.std.specs.List.{position_or_len}
use Rattle.std.specs.Prelude.{MatchOption, None, Option, Some, nat_lt, position, Bool, not, ◌↔◌, ◌≡◌, eqb, drop, set}
use Rattle.std.proofs.Math.Bool.{cond, false, true}
use Rattle.std.proofs.lemmas.Bool.{false≢true}
use mathlib.Core.List.{List, [], ◌∷◌}
use Rattle.std.proofs.lemmas.List.Recursion.{is_position_or_len}
use Rattle.std.proofs.Common.{ltb-false, ltb-true, one-add, subst, ◌∙◌, sym, add-one, get_or-set_other, get_or-set_same}
use Rattle.std.proofs.Math.Path.{ap, refl}
use Rattle.std.proofs.Math.Decide.{dec_le}
use native.Mathlib.Omega.{arith}
use Rattle.std.proofs.Math.Dec.{eqb_refl}
use Rattle.std.proofs.Math.ListN.{length}
use Rattle.std.proofs.Math.Seq.{drop-cons, drop-length}
use Rattle.desk.specs.Rooms.{first_room, free_room, is_for, is_free, is_held, new_ticket, no_ticket, serial_of, ticket_in, tickets_held}
use Rattle.desk.specs.declared.Edition.{Edition}
use Rattle.desk.specs.declared.Serial.{Serial}
use Rattle.desk.specs.declared.Ticket.{Ticket}
use Rattle.matching.specs.Laws.Bools.{and_both, and_l, and_r, is_false, is_true, not-both}
use Rattle.matching.specs.Laws.Vectors.{one_lt}
use Rattle.matching.specs.Laws.Words.{eqb_eq}
use Rattle.desk.specs.Limits.{most_tickets}

module _ (g : Ticket → Bool) where
  -- a loop that looks from the front has come to room i
  unfoldable pub Sought : List Ticket → ℕ → Type 0
  Sought rooms i = i + first_room g (drop i rooms) ≡ first_room g rooms

  pub sought_start : (rooms : List Ticket) → Sought rooms 0
  unfolding Sought
  sought_start rooms = omega arith

  module _ (rooms : List Ticket) (i : ℕ) (s : Sought rooms i) where
    -- where the test holds at i, i is the first
    pub sought_here : i < length rooms → g (ticket_in rooms i) ≡ true → i ≡ first_room g rooms
    unfolding first_room Sought
    sought_here h e =
        let z : first_room g (drop i rooms) ≡ 0 = rw (drop-cons rooms i no_ticket, e) in
        omega arith

    -- where it does not, look further
    pub sought_on : i < length rooms → g (ticket_in rooms i) ≡ false → Sought rooms (i + 1)
    unfolding first_room Sought
    sought_on h e =
        let z : first_room g (drop i rooms) ≡ suc (first_room g (drop (i + 1) rooms)) = rw (add-one, drop-cons rooms i no_ticket, e) in
        omega arith

    -- past the end there is none
    pub sought_end : i ≡ length rooms → i ≡ first_room g rooms
    unfolding first_room Sought
    sought_end e =
        let z : first_room g (drop i rooms) ≡ 0 = rw (e, drop-length) in
        omega arith

  pub first_room_le : (rooms : List Ticket) → first_room g rooms ≤ length rooms
  unfolding first_room
  first_room_le [] = omega arith
  first_room_le (t ∷ rooms) = go (g t) (first_room_le rooms)
    where
      go : (b : Bool) → first_room g rooms ≤ length rooms → cond b 0 (suc (first_room g rooms)) ≤ suc (length rooms)
      go true h = omega arith
      go false h = omega arith

  -- the test holds of the first, where there is one
  pub first_room-holds : (rooms : List Ticket) → first_room g rooms < length rooms → g (ticket_in rooms (first_room g rooms)) ≡ true
  unfolding first_room
  first_room-holds [] h = absurd (omega arith)
  first_room-holds (t ∷ rooms) h = go (g t) refl (first_room-holds rooms) h
    where
      go : (b : Bool) → g t ≡ b → (first_room g rooms < length rooms → g (ticket_in rooms (first_room g rooms)) ≡ true)
          → cond b 0 (suc (first_room g rooms)) < suc (length rooms) → g (ticket_in (t ∷ rooms) (cond b 0 (suc (first_room g rooms)))) ≡ true
      go true e f h = e
      go false e f h = f (omega arith)

  -- and of none before it
  pub first_room-before : (rooms : List Ticket) (i : ℕ) → i < first_room g rooms → g (ticket_in rooms i) ≡ false
  unfolding first_room
  first_room-before [] i h = absurd (omega arith)
  first_room-before (t ∷ rooms) i h = go (g t) refl i (first_room-before rooms) h
    where
      go : (b : Bool) → g t ≡ b → (i : ℕ) → ((j : ℕ) → j < first_room g rooms → g (ticket_in rooms j) ≡ false)
          → i < cond b 0 (suc (first_room g rooms)) → g (ticket_in (t ∷ rooms) i) ≡ false
      go true e i f h = absurd (omega arith)
      go false e zero f h = e
      go false e (suc j) f h = f j (omega arith)

  -- where a room is found by the test, the first is no later
  pub first_room-found : (rooms : List Ticket) (i : ℕ) → g (ticket_in rooms i) ≡ true → first_room g rooms ≤ i
  first_room-found rooms i e = go (dec_le (first_room g rooms) i)
    where
      go : Dec (first_room g rooms ≤ i) → first_room g rooms ≤ i
      go (yes h) = h
      go (no h) = absurd (not-both e (first_room-before rooms i (omega arith)))

-- ---- one room set

module _ (g : Ticket → Bool) where
  -- the first is the same where the test says the same of the ticket that was there
  pub first_room-kept : (rooms : List Ticket) (i : ℕ) (t : Ticket) → g t ≡ g (ticket_in rooms i) → first_room g (set rooms i t) ≡ first_room g rooms
  unfolding first_room
  first_room-kept [] i t e = refl
  first_room-kept (r ∷ rooms) zero t e = ap (λ (b : Bool). cond b 0 (suc (first_room g rooms))) e
  first_room-kept (r ∷ rooms) (suc i) t e = ap (λ (n : ℕ). cond (g r) 0 (suc n)) (first_room-kept rooms i t e)

  -- a ticket of which alone the test holds is the first
  pub first_room-new : (rooms : List Ticket) (i : ℕ) (t : Ticket) → length rooms ≤ first_room g rooms → i < length rooms → g t ≡ true
      → first_room g (set rooms i t) ≡ i
  unfolding first_room
  first_room-new [] i t n h e = absurd (omega arith)
  first_room-new (r ∷ rooms) zero t n h e = rw e
  first_room-new (r ∷ rooms) (suc i) t n h e = go (g r) (first_room-new rooms i t) n
    where
      go : (b : Bool) → (length rooms ≤ first_room g rooms → i < length rooms → g t ≡ true → first_room g (set rooms i t) ≡ i)
          → suc (length rooms) ≤ cond b 0 (suc (first_room g rooms)) → cond b 0 (suc (first_room g (set rooms i t))) ≡ suc i
      go true f k = absurd (omega arith)
      go false f k = ap suc (f (omega arith) (omega arith) e)

  -- where the test holds of no ticket, there is none
  pub first_room-none : (rooms : List Ticket) → ((j : ℕ) → g (ticket_in rooms j) ≡ true → ⊥) → length rooms ≤ first_room g rooms
  unfolding first_room
  first_room-none [] f = omega arith
  first_room-none (r ∷ rooms) f = go (g r) refl (first_room-none rooms (λ j. f (suc j)))
    where
      go : (b : Bool) → g r ≡ b → length rooms ≤ first_room g rooms → suc (length rooms) ≤ cond b 0 (suc (first_room g rooms))
      go true e h = absurd (f 0 e)
      go false e h = omega arith

-- the ticket of room j after room i was set
pub set_same : (rooms : List Ticket) (i : ℕ) (t : Ticket) → i < length rooms → ticket_in (set rooms i t) i ≡ t
set_same rooms i t h = get_or-set_same rooms i t no_ticket h

pub set_other : (rooms : List Ticket) (i j : ℕ) (t : Ticket) → (j ≡ i → ⊥) → ticket_in (set rooms i t) j ≡ ticket_in rooms j
set_other rooms i j t n = get_or-set_other rooms i j t no_ticket n

-- ---- tickets

-- a ticket that is for a serial is held and has it
pub for_held : (s : Serial) (t : Ticket) → is_for s t ≡ true → (is_held t ≡ true) × (t.serial.0 ≡ s.0)
for_held s t e = (and_l (is_held t) (eqb t.serial.0 s.0) e, eqb_eq t.serial.0 s.0 (and_r (is_held t) (eqb t.serial.0 s.0) e))

pub held_for : (s : Serial) (t : Ticket) → is_held t ≡ true → t.serial.0 ≡ s.0 → is_for s t ≡ true
held_for s t h e = and_both (is_held t) (eqb t.serial.0 s.0) h (is_true (eqb t.serial.0 s.0) (rw e (eqb_refl s.0)))

pub free-held : (t : Ticket) → is_free t ≡ true → is_held t ≡ false
free-held t e = ap not e

-- a ticket just opened holds its room
pub new-held : (n : ℕ) (e : Edition) → is_held (new_ticket (serial_of (n + 1)) e) ≡ true
new-held n e = ap not (is_false (eqb (n + 1) 0) (λ q. omega (arith, eqb_eq (n + 1) 0 q)))

-- a ticket that is held has a room
pub held-inside : (rooms : List Ticket) (i : ℕ) → is_held (ticket_in rooms i) ≡ true → i < length rooms
held-inside [] i h = absurd (false≢true h)
held-inside (t ∷ rooms) zero h = omega arith
held-inside (t ∷ rooms) (suc i) h = omega (arith, held-inside rooms i h)

-- ---- how many are held

pub held_le : (rooms : List Ticket) → tickets_held rooms ≤ length rooms
unfolding tickets_held
held_le [] = omega arith
held_le (t ∷ rooms) = omega (arith, held_le rooms, one_lt (is_held t))

-- no room is free exactly if every one is held
pub full_iff : (rooms : List Ticket) → (free_room rooms ≡ length rooms) ↔ (tickets_held rooms ≡ length rooms)
unfolding first_room tickets_held
full_iff [] = (λ e. refl, λ e. refl)
full_iff (t ∷ rooms) = go (is_free t) (full_iff rooms)
  where
    go : (b : Bool) → (free_room rooms ≡ length rooms) ↔ (tickets_held rooms ≡ length rooms)
        → (cond b 0 (suc (free_room rooms)) ≡ suc (length rooms)) ↔ (cond (not b) 1 0 + tickets_held rooms ≡ suc (length rooms))
    go false f = (λ e. omega (arith, f.0 (omega arith)), λ e. omega (arith, f.1 (omega arith)))
    go true f = (λ e. absurd (omega arith), λ e. absurd (omega (arith, held_le rooms)))

-- of 16 rooms none is free exactly if 16 tickets are open or stale
pub all-held_iff : (rooms : List Ticket) → length rooms ≡ most_tickets → (most_tickets ≤ free_room rooms) ↔ (tickets_held rooms ≡ most_tickets)
all-held_iff rooms wide = (
  λ h. let e : free_room rooms ≡ length rooms = omega (arith, first_room_le is_free rooms) in (full_iff rooms).0 e ∙ wide,
  λ e. omega (arith, (full_iff rooms).1 (e ∙ sym wide)),
)

-- setting a room changes how many are held by what it changes there
pub held-set : (rooms : List Ticket) (i : ℕ) (t : Ticket) → i < length rooms
    → tickets_held (set rooms i t) + cond (is_held (ticket_in rooms i)) 1 0 ≡ tickets_held rooms + cond (is_held t) 1 0
unfolding tickets_held
held-set [] i t h = absurd (omega arith)
held-set (r ∷ rooms) zero t h = omega arith
held-set (r ∷ rooms) (suc i) t h = omega (arith, held-set rooms i t (omega arith))

-- the library's word for the first room
first_room_is : (g : Ticket → Bool) (rooms : List Ticket) → first_room g rooms ≡ position_or_len g rooms
unfolding first_room
first_room_is g rooms = is_position_or_len (first_room g) g refl (λ t r. rw one-add refl) rooms

-- what looking for a room finds: the first room, or that there is none
pub found_by : (g : Ticket → Bool) (rooms : List Ticket) (r : Option ℕ) → length rooms ≡ most_tickets → r ≡ position g rooms
    → MatchOption r (most_tickets ≤ first_room g rooms) (λ i. (i ≡ first_room g rooms) × (i < most_tickets))
found_by g rooms r n e =
    subst (λ (o : Option ℕ). MatchOption o (most_tickets ≤ first_room g rooms) (λ i. (i ≡ first_room g rooms) × (i < most_tickets)))
    (sym (e ∙ ap (λ (m : ℕ). cond (nat_lt m (length rooms)) (Some m) None) (sym (first_room_is g rooms))))
    (by_test (first_room g rooms) (length rooms) n _ refl)
  where
    by_test : (m l : ℕ) → l ≡ most_tickets → (b : Bool) → nat_lt m l ≡ b
        → MatchOption (cond b (Some m) None) (most_tickets ≤ m) (λ i. (i ≡ m) × (i < most_tickets))
    by_test m l q true h = (refl, omega (arith, ltb-true _ _ h, q))
    by_test m l q false h = omega (arith, ltb-false _ _ h, q)
