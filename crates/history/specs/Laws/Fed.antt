-- What a feed that reads leaves.
use Rattle.std.specs.Prelude.{◌+◌, ◌-◌, ◌<◌, ◌≤◌, suc, ℕ, true, List, [], ◌++◌, ◌≡◌, refl, length, set, take}
use Rattle.std.proofs.Common.{append_assoc, append-nil, inl, inr, ◌∙◌, ap, ap₂, subst, sym, zero-add, arith, length-append, length-take-le}
use Rattle.desk.specs.Feed.{fed_by, read_for, read_on}
use Rattle.desk.specs.Laws.Good.{GoodDesk}
use Rattle.desk.proofs.Laws.Good.{good}
use Rattle.desk.specs.Laws.Rooms.{for_held}
use Rattle.desk.specs.Laws.Shared.{held-push_all, records_for_append, records_for-other, records_for-own, records_of_append, records_of-length}
use Rattle.desk.specs.Reached.{Reached}
use Rattle.desk.specs.Rooms.{edition_of, is_for, room_of, serial_of, ticket_in}
use Rattle.desk.specs.Shared.{held, push_all, records_for, records_of}
use Rattle.desk.specs.declared.Desk.{Desk}
use Rattle.desk.specs.declared.Record.{Record}
use Rattle.desk.specs.declared.Serial.{Serial}
use Rattle.desk.specs.declared.Ticket.{Ticket}
use Rattle.history.specs.History.{Account, World, account_at, grown, on_serial, records_due, stream, with_accounts}
use Rattle.history.specs.Laws.Accounts.{on_serial-length}
use Rattle.history.specs.Laws.Feeding.{agrees, live, mine, read_done}
use Rattle.history.specs.Laws.Invariant.{Inv, Kept, Stranger, changed_each, wide}
use Rattle.history.specs.Laws.Seats.{Agrees, Seat, for_other, seat_kept, seat_same, seated}
use Rattle.matching.specs.Laws.Occurrences.{occurrences_by_append}
use Rattle.matching.specs.Laws.Words.{below_append, below-take}
use Rattle.matching.specs.Occurrence.{Occurrence}
use Rattle.matching.specs.Reading.{Outcome}
use Rattle.matching.specs.Words.{Below, Word}
use Rattle.desk.specs.Laws.Layout.{desk-kept, DeskDone, DeskKept}
use Rattle.matching.specs.Tags.{found_from, found_in, tags_at}
use Rattle.desk.specs.Layout.{Lent}
use Rattle.desk.specs.Limits.{most_records, most_tickets}
use Rattle.matching.specs.Limits.{largest}

-- more records behind a stream
stream-grown : (d : Desk) (out rs : List Record) → GoodDesk d → d.records.count + length rs ≤ most_records
    → out ++ held (push_all d.records rs) ≡ (out ++ held d.records) ++ rs
stream-grown d out rs g h =
    ap {B = List Record} (λ (l : List Record). out ++ l) (held-push_all d.records rs g.ring h) ∙ sym (append_assoc out (held d.records) rs)

-- a reading for a serial that has a room, over any table: its records come behind all others
pub stream-fed : (d : Desk) (out : List Record) (s : Serial) (table : Lent) (piece : Word) → Reached d → room_of d.tickets s < most_tickets
    → out ++ held (fed_by d (room_of d.tickets s) (ticket_in d.tickets (room_of d.tickets s))
    (read_for d (ticket_in d.tickets (room_of d.tickets s)) table piece)).desk.records
    ≡ (out ++ held d.records) ++ records_of (ticket_in d.tickets (room_of d.tickets s)).serial (ticket_in d.tickets (room_of d.tickets s)).edition
    (read_for d (ticket_in d.tickets (room_of d.tickets s)) table piece).found
stream-fed d out s table piece reached hi =
    let t = ticket_in d.tickets (room_of d.tickets s) in
    let r = read_for d t table piece in
    let any = desk-kept d.slots table t.place t.taken (most_records - d.records.count) piece in
    stream-grown d out (records_of t.serial t.edition r.found) (good reached)
    (omega (arith, any.fits, records_of-length t.serial t.edition r.found, (good reached).count))

module _ {Left : Type 0} (w : World) (v : Inv Left w) (s : Serial) (k : ℕ) (hk : k < length w.accounts) (ek : s.0 ≡ suc k) (table : Lent)
    (lent : Left → table ≡ w.table) (piece : Word) (b : Below 256 piece)
    (hi : room_of w.desk.tickets s < most_tickets) (same : (ticket_in w.desk.tickets (room_of w.desk.tickets s)).edition.0 ≡ w.desk.edition.0)
    (short : (ticket_in w.desk.tickets (room_of w.desk.tickets s)).taken + length piece ≤ largest) where
  abbrev rooms : List Ticket
  rooms = w.desk.tickets

  abbrev i : ℕ
  i = room_of rooms s

  abbrev t : Ticket
  t = ticket_in rooms i

  abbrev a : Account
  a = account_at w k

  abbrev r : Outcome
  r = read_for w.desk t table piece

  abbrev more : Word
  more = take r.taken piece

  abbrev rs : List Record
  rs = records_of t.serial t.edition r.found

  abbrev after : World
  after = with_accounts w (fed_by w.desk i t r).desk (on_serial s.0 (grown more) w.accounts)

  any : DeskKept w.desk.slots table t.place t.taken (most_records - w.desk.records.count) piece r
  any = desk-kept w.desk.slots table t.place t.taken (most_records - w.desk.records.count) piece

  done : Left → DeskDone a.tags a.bytes (length a.bytes) (most_records - w.desk.records.count) piece r
  done l = read_done w v s k hk ek hi same l table (lent l) piece b

  fit : Agrees Left t a
  fit = agrees w v s k hk ek hi

  for_s : is_for s t ≡ true
  for_s = mine w v s k hk ek hi

  read_for_lem : is_for s (read_on t r) ≡ true
  read_for_lem = for_s

  -- the records have the account's serial and edition
  labels : rs ≡ records_of (serial_of (suc k)) (edition_of a.edition) r.found
  labels = λ d. records_of (record { 0 = ((for_held s t for_s).1 ∙ ek) d }) (record { 0 = fit.edition d }) r.found

  fed : stream after ≡ stream w ++ rs
  fed = stream-fed w.desk w.out s table piece v.reached hi

  -- the account's own records are the occurrences in its bytes and the new ones
  here : Left → records_for (suc k) (stream after) ≡ records_due (grown more a)
  here l =
      ap (records_for (suc k)) (fed ∙ ap {B = List Record} (λ (l : List Record). stream w ++ l) labels)
      ∙ records_for_append (suc k) (stream w) (records_of (serial_of (suc k)) (edition_of a.edition) r.found)
      ∙ ap₂ ◌++◌ (v.records l k hk) (records_for-own (serial_of (suc k)) (edition_of a.edition) r.found)
      ∙ ap₂ (λ (n : ℕ) (l : List Occurrence). records_due a ++ records_of (serial_of n) (edition_of a.edition) l) (sym (v.numbered k hk)) (done l).found
      ∙ sym (records_of_append (serial_of a.serial) (edition_of a.edition) (found_in a.tags a.bytes)
      (found_from a.tags a.bytes (length a.bytes) more))
      ∙ ap (records_of (serial_of a.serial) (edition_of a.edition))
      (sym (occurrences_by_append (tags_at a.tags) [] 0 a.bytes more
      ∙ ap {B = List Occurrence} (λ (n : ℕ). found_in a.tags a.bytes ++ found_from a.tags a.bytes n more) (zero-add (length a.bytes))))

  -- another serial's are the same
  elsewhere : (n : ℕ) → (n ≡ suc k → ⊥) → records_for n (stream after) ≡ records_for n (stream w)
  elsewhere n ne =
      ap (records_for n) fed ∙ records_for_append n (stream w) rs
      ∙ ap {B = List Record} (λ (l : List Record). records_for n (stream w) ++ l)
      (records_for-other n t.serial t.edition r.found (λ e. ne (sym e ∙ (for_held s t for_s).1 ∙ ek)))
      ∙ append-nil (records_for n (stream w))

  seat : Seat Left (set rooms i (read_on t r)) (grown more a)
  seat =
      let q = seat_same rooms (wide w v) i (read_on t r) hi s refl read_for_lem in
      subst (λ (n : ℕ). Seat Left (set rooms i (read_on t r))
      (record { serial = n; edition = a.edition; tags = a.tags; bytes = a.bytes ++ more; closed = a.closed }))
      (ek ∙ sym (v.numbered k hk))
      (seated (live w v s k hk ek hi) (omega (arith, q.0))
      (subst (λ (x : Ticket). Agrees Left x (record { serial = s.0; edition = a.edition; tags = a.tags; bytes = a.bytes ++ more; closed = a.closed }))
      (sym q.1)
      (record {
        edition = fit.edition;
        taken = ap (λ (n : ℕ). n + r.taken) fit.taken ∙ sym
            (length-append a.bytes more ∙ ap (λ (n : ℕ). length a.bytes + n) (length-take-le r.taken piece any.part));
        place = λ l. (done l).place;
      })))

  apart : (j : ℕ) → j < length w.accounts → (j ≡ k → ⊥) → s.0 ≡ (account_at w j).serial → ⊥
  apart j h n e = n (omega (arith, e, ek, v.numbered j h))

  each : (P : ℕ → Account → Type 0) → ((j : ℕ) → j < length w.accounts → (j ≡ k → ⊥) → P j (account_at w j)) → P k (grown more a)
      → (j : ℕ) → j < length after.accounts → P j (account_at after j)
  each = changed_each w v s k hk ek (grown more)

  count : length after.accounts ≡ length w.accounts
  count = on_serial-length s.0 (grown more) w.accounts

  stranger : (n : ℕ) → Stranger (length after.accounts) n → n ≡ suc k → ⊥
  stranger n (inl z) e = omega (arith, z, e)
  stranger n (inr z) e = omega (arith, z, e, hk, count)

  kept : Kept w.edition w.tags (grown more a)
  kept =
      let q = v.kept k hk in
      record {
        from = q.from;
        upto = q.upto;
        current = q.current;
        lawful = q.lawful;
        bytes = below_append 256 a.bytes more q.bytes (below-take 256 r.taken piece b);
        small = omega (arith, length-append a.bytes more, length-take-le r.taken piece any.part, any.part, fit.taken, short);
      }

  pub inv_read : Reached after.desk → Inv Left after
  inv_read p = record {
    reached = p;
    serials = count ∙ v.serials;
    numbered = each (λ j x. x.serial ≡ suc j) (λ j h n. v.numbered j h) (v.numbered k hk);
    edition = v.edition;
    force = v.force;
    kept = each (λ j x. Kept w.edition w.tags x) (λ j h n. v.kept j h) kept;
    seats = each (λ j x. Seat Left (set rooms i (read_on t r)) x)
        (λ j h n. seat_kept rooms (wide w v) i (read_on t r) hi (account_at w j) (for_other s _ t for_s (apart j h n))
        (for_other s _ (read_on t r) read_for_lem (apart j h n)) (v.seats j h)) seat;
    records = λ l. each (λ j x. records_for (suc j) (stream after) ≡ records_due x) (λ j h n. elsewhere (suc j) (λ e. n (omega (arith, e))) ∙ v.records l j h)
        (here l);
    nobody = λ n h. elsewhere n (stranger n h) ∙ v.nobody n (subst (λ (c : ℕ). Stranger c n) count h);
  }
