-- Over the table as left, a piece for a ticket that is open is taken whole while the bytes handed in number at most 4,294,967,295.
use Rattle.desk.specs.Given.{Feeding}
use Rattle.desk.specs.declared.FeedRefusal.TheVariants as F
use Rattle.std.specs.Prelude.{ℕ, zero, suc, ◌+◌, ◌-◌, ◌<◌, ◌≤◌, Bool, cond, false, true, List, [], ◌++◌, ◌∷◌, ◌≡◌, refl, eqb, ltb, drop, get_or, length, take, Err}
use Rattle.std.proofs.Common.{◌∙◌, sym, ap, subst, arith, length-append, length-drop, length-take-le, eqb-true, ltb-false, ltb-true}
use Rattle.desk.specs.Feed.{feed_of, taken_by}
use Rattle.desk.proofs.Laws.Pieces.{fed-at-most}
use Rattle.desk.specs.Laws.Views.{Feeds, feed_no-ticket, feed_stale, feed_other-slots, feed_long, feed_no-place, feed_read}
use Rattle.desk.proofs.Laws.Views.{feeds}
use Rattle.desk.specs.Rooms.{room_of, ticket_in}
use Rattle.desk.specs.declared.Desk.{Desk}
use Rattle.desk.specs.declared.Edition.{Edition}
use Rattle.desk.specs.declared.Serial.{Serial}
use Rattle.gate.specs.Feeding.{fed_on, rest_of}
use Rattle.gate.specs.Laws.Feeding.{fed_idle}
use Rattle.gate.specs.declared.Gate.{Gate}
use Rattle.gate.specs.declared.Seen.{Seen}
use Rattle.gate.specs.declared.feeding.Fed.{Fed}
use Rattle.history.specs.History.{Account, account_at, grown, no_account, Proper, run, start, World}
use Rattle.history.specs.Laws.Accounts.{on_serial-length}
use Rattle.history.specs.Laws.Feeding.{agrees}
use Rattle.history.specs.Laws.Invariant.{Inv, changed_here}
use Rattle.history.specs.Laws.LedgerSteps.{sound-left}
use Rattle.history.specs.Laws.Numbers.{differ}
use Rattle.history.specs.Laws.Takings.{below_rest}
use Rattle.history.specs.Progress.{takes_a-byte}
use Rattle.matching.specs.Words.{Below, Word}
use Rattle.verdicts.specs.Laws.Alike.{SameRooms, rest_alike}
use Rattle.verdicts.specs.Laws.Onward.{Joined, Onward, rest-onward-by}
use Rattle.desk.specs.Reached.{Call}
use Rattle.desk.specs.Layout.{Kind, Lent}
use Rattle.matching.specs.Limits.{largest}
use Rattle.desk.specs.Limits.{most_tickets}

-- a ticket that is open, of account k, with room for so many more bytes
pub record OpenFor (w : World) (s : Serial) (more : ℕ) : Type 0 where
  pub k : ℕ
  pub inside : k < length w.accounts
  pub serial : s.0 ≡ suc k
  pub room : room_of w.desk.tickets s < most_tickets
  pub current : (ticket_in w.desk.tickets (room_of w.desk.tickets s)).edition.0 ≡ w.desk.edition.0
  pub few : length (account_at w k).bytes + more ≤ largest

-- a feed of some bytes takes one
some-taken : (kind : Kind) (calls : List Call) → Proper (start kind) calls → (s : Serial) (rest : Word) → (run (start kind) calls).desk.records.count ≡ 0
    → Below 256 rest → OpenFor (run (start kind) calls) s (length rest)
    → 0 < length rest → 0 < taken_by (feed_of (run (start kind) calls).desk s (run (start kind) calls).table rest).answer
some-taken kind calls b s [] empty below o h = absurd (omega (arith, h))
some-taken kind calls b s (c ∷ rest) empty below o h = takes_a-byte kind calls b.0 s o.room o.current empty c rest
    (λ q. not-long _ (feeds w.desk s w.table (c ∷ rest)) q)
  where
    w : World
    w = run (start kind) calls

    not-long : (r : Feeding) → Feeds w.desk (room_of w.desk.tickets s) w.table (c ∷ rest) r → r.answer ≡ Err F.Long → ⊥
    not-long r (feed_no-ticket a) q = differ cc
    not-long r (feed_stale a e) q = differ cc
    not-long r (feed_other-slots a e n) q = differ cc
    not-long r (feed_no-place a e l m n) q = differ cc
    not-long r (feed_read a e l m) q = differ cc
    not-long r (feed_long a e l m) q = omega (arith, m, o.few, (agrees w (sound-left kind calls b.0 b.1).inv s o.k o.inside o.serial a).taken)

-- the ticket after it took some
open_on : (kind : Kind) (calls : List Call) (b : Proper (start kind) calls) (seen : List Seen) (s : Serial) (taken : Word) (g : Gate) (more : ℕ)
    → SameRooms (run (start kind) calls).desk g.desk
    → (o : Onward kind calls seen s taken g) → OpenFor (run (start kind) calls) s (length taken + more) → OpenFor (run (start kind) o.all) s more
open_on kind calls b seen s taken g more same o f =
    let w = run (start kind) calls in
    let v : Inv (Unit {0}) w = (sound-left kind calls b.0 b.1).inv in
    let bytes : (account_at (run (start kind) o.all) f.k).bytes ≡ (account_at w f.k).bytes ++ taken =
    ap (λ (l : List Account). (get_or l f.k no_account).bytes) o.accounts_are
    ∙ ap (λ (a : Account). a.bytes) (changed_here w v s f.k f.inside f.serial (grown taken)) in
    record {
      k = f.k;
      inside = omega (arith, ap (λ (l : List Account). length l) o.accounts_are, on_serial-length s.0 (grown taken) w.accounts, f.inside);
      serial = f.serial;
      few = omega (arith, ap (λ (l : Word). length l) bytes, length-append (account_at w f.k).bytes taken, f.few);
      room = subst (λ (d : Desk). room_of d.tickets s < most_tickets) (sym o.desk-is) (rw (same.rooms s) f.room);
      current = subst (λ (d : Desk). (ticket_in d.tickets (room_of d.tickets s)).edition.0 ≡ d.edition.0) (sym o.desk-is)
          (ap (λ (i : ℕ). (ticket_in g.desk.tickets i).edition.0) (same.rooms s)
          ∙ ap (λ (e : Edition). e.0) (same.editions (room_of w.desk.tickets s)) ∙ f.current ∙ ap (λ (e : Edition). e.0) (sym same.edition));
    }

-- where the bytes are too many, none is taken
pub long-none : (kind : Kind) (calls : List Call) → Proper (start kind) calls → (seen : List Seen) (s : Serial) (piece : Word) (k : ℕ)
    → k < length (run (start kind) calls).accounts → s.0 ≡ suc k
    → largest < length (account_at (run (start kind) calls) k).bytes + length piece
    → (fed_on (length piece) (record { desk = (run (start kind) calls).desk; seen = seen }) s (run (start kind) calls).table piece 0).taken ≡ 0
unfolding fed_on
long-none kind calls b seen s [] k h e long = refl
long-none kind calls b seen s (c ∷ rest) k h e long =
    ap (λ (x : Fed). x.taken) (fed_idle (length rest) g s w.table (c ∷ rest) 0 (omega arith) (none _ (feeds w.desk s w.table (c ∷ rest))))
  where
    w : World
    w = run (start kind) calls

    g : Gate
    g = record { desk = (run (start kind) calls).desk; seen = seen }

    none : (r : Feeding) → Feeds w.desk (room_of w.desk.tickets s) w.table (c ∷ rest) r → taken_by r.answer ≡ 0
    none r (feed_no-ticket a) = refl
    none r (feed_stale a q) = refl
    none r (feed_other-slots a q n) = refl
    none r (feed_no-place a q l m n) = refl
    none r (feed_long a q l m) = refl
    none r (feed_read a q l m) = absurd (omega (arith, m, long, (agrees w (sound-left kind calls b.0 b.1).inv s k h e a).taken))

pub fed-all : (most : ℕ) (kind : Kind) (calls : List Call) → Proper (start kind) calls → (seen : List Seen) → Joined seen (run (start kind) calls)
    → (s : Serial) (d : Desk) (table : Lent) (piece : Word) (from : ℕ)
    → (run (start kind) calls).desk ≡ d → (run (start kind) calls).table ≡ table → Below 256 piece → from ≤ length piece → length piece ≤ from + most
    → OpenFor (run (start kind) calls) s (length piece - from)
    → (fed_on most (record { desk = d; seen = seen }) s table piece from).taken ≡ length piece
unfolding fed_on
fed-all zero kind calls b seen j s d table piece from at lent below h few f = omega (arith, h, few)
fed-all (suc most) kind calls b seen j s d table piece from at lent below h few f =
    go (ltb from (length piece)) (eqb t 0) refl refl
    (λ z. fed-all most kind o.all o.bytes next.seen o.joined s next.desk table piece (from + t) o.desk-is (o.table_is ∙ lent) below within
    (omega (arith, few, z)) open_next)
  where
    g : Gate
    g = record { desk = d; seen = seen }

    t : ℕ
    t = (rest_of g s table (drop from piece)).taken

    next : Gate
    next = (rest_of g s table (drop from piece)).gate

    o : Onward kind calls seen s (take t (drop from piece)) next
    o = rest-onward-by kind calls b seen j s d table (drop from piece) at lent (below_rest from piece below)

    part : t ≤ length (drop from piece)
    part = fed-at-most d s table (drop from piece)

    within : from + t ≤ length piece
    within = omega (arith, h, part, length-drop from piece)

    open_next : OpenFor (run (start kind) o.all) s (length piece - (from + t))
    open_next =
        let same : SameRooms (run (start kind) calls).desk next.desk =
        subst (λ (x : Desk). SameRooms x next.desk) (sym at) (rest_alike g s table (drop from piece)).same in
        let size : length piece - from ≡ length (take t (drop from piece)) + (length piece - (from + t)) =
        omega (arith, length-take-le t (drop from piece) part, within) in
        open_on kind calls b seen s (take t (drop from piece)) next (length piece - (from + t)) same o
        (subst (λ (n : ℕ). OpenFor (run (start kind) calls) s n) size f)

    some : from < length piece → 0 < t
    some p =
        let q : 0 < taken_by (feed_of (run (start kind) calls).desk s (run (start kind) calls).table (drop from piece)).answer =
        some-taken kind calls b s (drop from piece) j.empty (below_rest from piece below)
        (subst (λ (n : ℕ). OpenFor (run (start kind) calls) s n) (sym (length-drop from piece)) f) (omega (arith, p, length-drop from piece)) in
        subst (λ (l : Lent). 0 < taken_by (feed_of d s l (drop from piece)).answer) lent
        (subst (λ (x : Desk). 0 < taken_by (feed_of x s (run (start kind) calls).table (drop from piece)).answer) at q)

    go : (x y : Bool) → ltb from (length piece) ≡ x → eqb t 0 ≡ y → (0 < t → (fed_on most next s table piece (from + t)).taken ≡ length piece)
        → (cond x (cond y (record { gate = next; taken = from }) (fed_on most next s table piece (from + t))) (record { gate = g; taken = from })).taken
        ≡ length piece
    go false y p q ih = omega (arith, h, ltb-false from (length piece) p)
    go true true p q ih = absurd (omega (arith, some (ltb-true from (length piece) p), eqb-true t 0 q))
    go true false p q ih = ih (some (ltb-true from (length piece) p))
