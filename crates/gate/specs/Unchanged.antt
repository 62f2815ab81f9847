-- A refused call of the gate changes nothing at all, whatever the gate, and a piece of no bytes changes nothing either.
use Rattle.desk.specs.Given.{OpenAnswer}
use Rattle.std.specs.Prelude.{ℕ, ◌<◌, Bool, false, true, List, [], ◌≡◌, refl, eqb, ltb, length, Ok, Err}
use Rattle.std.proofs.Common.{ap, ap₂, eq-eqb, lt-ltb}
use Rattle.desk.specs.Calls.{open_of}
use Rattle.desk.specs.Numbers.{open_number, replace_number}
use Rattle.desk.specs.Replace.{replaced_run}
use Rattle.desk.specs.Rooms.{room_of, ticket_in}
use Rattle.desk.specs.Unchanged.{replace_refused}
use Rattle.desk.proofs.Unchanged.{open_refused}
use Rattle.desk.specs.declared.Desk.{Desk}
use Rattle.desk.specs.declared.Serial.{Serial}
use Rattle.gate.specs.Feeding.{fed_on}
use Rattle.gate.specs.Gate.{begin_of, change_of, decide_by, decide_of, ended_by, piece_by, piece_of}
use Rattle.gate.specs.Noting.{begun_seen}
use Rattle.gate.specs.Numbers.{piece_number, verdict_number}
use Rattle.gate.specs.declared.Gate.{Gate}
use Rattle.gate.specs.declared.Piece.TheVariants as P
use Rattle.gate.specs.declared.Seen.{Seen}
use Rattle.matching.specs.Words.{Word}
use Rattle.desk.specs.Layout.{Lent, Order, sizes_of}
use Rattle.desk.specs.Limits.{most_tickets}

-- a piece refused NO TICKET or STALE
pub piece-refused : (g : Gate) (s : Serial) (table : Lent) (piece : Word) → (piece_number (piece_of g s table piece).answer ≡ 0 → ⊥)
    → (piece_of g s table piece).gate ≡ g
unfolding piece_of
piece-refused g s table piece =
    go (ltb i most_tickets) (eqb (ticket_in g.desk.tickets i).edition.0 g.desk.edition.0)
  where
    i : ℕ
    i = room_of g.desk.tickets s

    taken : ℕ
    taken = (fed_on (length piece) g s table piece 0).taken

    fed : Gate
    fed = (fed_on (length piece) g s table piece 0).gate

    ended : (b : Bool) → (piece_number (ended_by fed i taken b).answer ≡ 0 → ⊥) → (ended_by fed i taken b).gate ≡ g
    ended true n = absurd (n refl)
    ended false n = absurd (n refl)

    go : (a b : Bool) → (piece_number (piece_by g s i (ticket_in g.desk.tickets i) table piece a b).answer ≡ 0 → ⊥)
        → (piece_by g s i (ticket_in g.desk.tickets i) table piece a b).gate ≡ g
    go false b n = refl
    go true false n = refl
    go true true n = ended (eqb taken (length piece)) n

-- a decision refused NO TICKET
pub decide_refused : (g : Gate) (s : Serial) → (verdict_number (decide_of g s).answer ≡ 0 → ⊥) → (decide_of g s).gate ≡ g
unfolding decide_of
decide_refused g s = go (ltb i most_tickets)
  where
    i : ℕ
    i = room_of g.desk.tickets s

    go : (a : Bool) → (verdict_number (decide_by g s i a).answer ≡ 0 → ⊥) → (decide_by g s i a).gate ≡ g
    go false n = refl
    go true n = absurd (n refl)

-- an opening refused as the desk refuses it
pub begin_refused : (g : Gate) → (open_number (begin_of g).answer ≡ 0 → ⊥) → (begin_of g).gate ≡ g
unfolding begin_of
begin_refused g n =
    ap₂ (λ (d : Desk) (l : List Seen). record { desk = d; seen = l }) (open_refused g.desk n) (go (open_of g.desk).answer n)
  where
    go : (a : OpenAnswer) → (open_number a ≡ 0 → ⊥) → begun_seen (open_of g.desk).desk g.seen a ≡ g.seen
    go (Ok s) z = absurd (z refl)
    go (Err why) z = refl

-- a replacement refused as the desk refuses it: the gate and the lent table hold what they held
pub change_refused : (g : Gate) (order : Order) (run : Lent) → (replace_number (change_of g order (sizes_of run)).answer ≡ 0 → ⊥)
    → ((change_of g order (sizes_of run)).gate ≡ g) × (replaced_run g.desk order run ≡ run)
unfolding change_of
change_refused g order run n =
    let k = replace_refused g.desk order run n in
    (ap (λ (d : Desk). record { desk = d; seen = g.seen }) k.0, k.1)

-- a piece of no bytes: nothing is fed and no record is taken out, so the gate is as before, whatever the answer
pub piece-empty : (g : Gate) (s : Serial) (table : Lent) → (piece_of g s table []).gate ≡ g
unfolding piece_of fed_on
piece-empty g s table = go (ltb i most_tickets) (eqb (ticket_in g.desk.tickets i).edition.0 g.desk.edition.0)
  where
    i : ℕ
    i = room_of g.desk.tickets s

    go : (a b : Bool) → (piece_by g s i (ticket_in g.desk.tickets i) table [] a b).gate ≡ g
    go false b = refl
    go true false = refl
    go true true = refl

-- and for a ticket of the edition in force it is read
pub piece-empty-read : (g : Gate) (s : Serial) (table : Lent) → room_of g.desk.tickets s < most_tickets
    → (ticket_in g.desk.tickets (room_of g.desk.tickets s)).edition.0 ≡ g.desk.edition.0 → (piece_of g s table []).answer ≡ Ok P.Read
unfolding piece_of fed_on
piece-empty-read g s table h e = rw (lt-ltb _ most_tickets h, eq-eqb _ _ e) refl
