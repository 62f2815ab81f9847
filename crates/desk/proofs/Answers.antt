-- What the desk's calls give, and what is returned with their refusals.
use Rattle.desk.specs.Given.{Feeding}
use Rattle.std.specs.Prelude.{◌-◌, [], ◌∷◌, ◌≡◌, refl, length, Ok}
use Rattle.std.proofs.Common.{ap, subst, sym, arith}
use Rattle.desk.specs.Conditions.{Current, HasRoom, SameSlots, TooLong, ticket_of}
use Rattle.desk.specs.Feed.{advance, fed_by, feed_of, read_on}
use Rattle.desk.specs.Laws.Good.{on-place}
use Rattle.desk.proofs.Laws.Good.{good}
use Rattle.desk.specs.Laws.Rooms.{set_other, set_same}
use Rattle.desk.specs.Laws.Shared.{held-push_all, records_of-length}
use Rattle.desk.specs.Laws.Views.{Feeds, feed_long, feed_no-place, feed_no-ticket, feed_other-slots, feed_read, feed_stale}
use Rattle.desk.proofs.Laws.Views.{feeds}
use Rattle.desk.specs.Numbers.{feed_number, feed_values}
use Rattle.desk.specs.Reached.{Reached}
use Rattle.desk.specs.Rooms.{room_of}
use Rattle.desk.specs.Shared.{records_of}
use Rattle.desk.specs.declared.Desk.{Desk}
use Rattle.desk.specs.declared.Serial.{Serial}
use Rattle.matching.specs.Words.{Word}
use Rattle.matching.specs.declared.Stop.TheVariants.{Damaged}
use Rattle.desk.specs.Layout.{Lent}
use Rattle.desk.specs.Laws.Layout.{desk-kept}
use Rattle.desk.specs.Limits.{most_records}
use Rattle.desk.specs.Answers.{FedOn, reading}

module _ (d : Desk) (s : Serial) (table : Lent) (piece : Word) where
  -- with STALE the edition of the ticket is returned, and nothing with another refusal
  pub feed_values_lem : (feed_number (feed_of d s table piece).answer ≡ 13 → feed_values (feed_of d s table piece).answer ≡ (ticket_of d s).edition.0 ∷ [])
      × ((feed_number (feed_of d s table piece).answer ≡ 0 → ⊥) → (feed_number (feed_of d s table piece).answer ≡ 13 → ⊥)
      → feed_values (feed_of d s table piece).answer ≡ [])
  feed_values_lem = go _ (feeds d s table piece)
    where
      go : (r : Feeding) → Feeds d (room_of d.tickets s) table piece r
          → (feed_number r.answer ≡ 13 → feed_values r.answer ≡ (ticket_of d s).edition.0 ∷ [])
          × ((feed_number r.answer ≡ 0 → ⊥) → (feed_number r.answer ≡ 13 → ⊥) → feed_values r.answer ≡ [])
      go r (feed_no-ticket h) = (λ e. absurd (omega (arith, e)), λ a b. refl)
      go r (feed_stale h x) = (λ e. refl, λ a b. absurd (b refl))
      go r (feed_other-slots h x l) = (λ e. absurd (omega (arith, e)), λ a b. absurd (a refl))
      go r (feed_long h x l m) = (λ e. absurd (omega (arith, e)), λ a b. refl)
      go r (feed_no-place h x l m y) = (λ e. absurd (omega (arith, e)), λ a b. absurd (a refl))
      go r (feed_read h x l m) = (λ e. absurd (omega (arith, e)), λ a b. absurd (a refl))

  -- a run whose slot count differs from that at replacement: DAMAGED with 0 taken, and the desk as it was
  pub other-slots : HasRoom d s → Current d s → (SameSlots d table → ⊥) → feed_of d s table piece ≡ record { desk = d; answer = Ok (advance 0 0 Damaged) }
  other-slots room current other = go _ (feeds d s table piece)
    where
      go : (r : Feeding) → Feeds d (room_of d.tickets s) table piece r → r ≡ record { desk = d; answer = Ok (advance 0 0 Damaged) }
      go r (feed_no-ticket h) = absurd (omega arith)
      go r (feed_stale h x) = absurd (x current)
      go r (feed_other-slots h x l) = refl
      go r (feed_long h x l m) = absurd (other l)
      go r (feed_no-place h x l m y) = absurd (other l)
      go r (feed_read h x l m) = absurd (other l)

  module _ (reached : Reached d) (room : HasRoom d s) (current : Current d s) (same : SameSlots d table) (short : TooLong d s piece → ⊥) where
    read-then : feed_of d s table piece ≡ fed_by d (room_of d.tickets s) (ticket_of d s) (reading d s table piece)
    read-then = go _ (feeds d s table piece)
      where
        go : (r : Feeding) → Feeds d (room_of d.tickets s) table piece r → r ≡ fed_by d (room_of d.tickets s) (ticket_of d s) (reading d s table piece)
        go r (feed_no-ticket h) = absurd (omega arith)
        go r (feed_stale h x) = absurd (x current)
        go r (feed_other-slots h x l) = absurd (l same)
        go r (feed_long h x l m) = absurd (short m)
        go r (feed_no-place h x l m y) = absurd (on-place d s table (good reached) h x l y)
        go r (feed_read h x l m) = refl

    -- the answer is the reading's: the bytes taken, the number of records and the reason for stopping
    pub feed_reads : (feed_of d s table piece).answer ≡ Ok (advance (reading d s table piece).taken (length (reading d s table piece).found) (reading d s table piece).stop)
    feed_reads = ap (λ (f : Feeding). f.answer) read-then

    -- and what it leaves is the reading's too
    pub feed_leaves : FedOn d s (reading d s table piece) (feed_of d s table piece).desk
    feed_leaves =
        let i = room_of d.tickets s in
        let t = ticket_of d s in
        let g = good reached in
        let k = desk-kept d.slots table t.place t.taken (most_records - d.records.count) piece in
        let more = records_of t.serial t.edition (reading d s table piece).found in
        subst (λ (f : Feeding). FedOn d s (reading d s table piece) f.desk) (sym read-then) (record {
          ticket = set_same d.tickets i (read_on t (reading d s table piece)) (omega (arith, g.rooms));
          others = λ j n. set_other d.tickets i j (read_on t (reading d s table piece)) n;
          records = held-push_all d.records more g.ring (omega (arith, k.fits, g.count, records_of-length t.serial t.edition (reading d s table piece).found));
          edition = refl;
          serial = refl;
          slots = refl;
        })
