-- How the exact conditions of the desk's answers are shown, case by case.
use Rattle.desk.specs.Given.{replaced_as, Taking, Replacing}
use Rattle.std.specs.Prelude.{◌%◌, ◌+◌, suc, ℕ, true, List, ◌∷◌, ◌↔◌, ◌≡◌, refl, get_or, length, Some, Ok}
use Rattle.std.proofs.Common.{◌∙◌, ap, sym, arith}
use Rattle.desk.specs.Calls.{take_of}
use Rattle.desk.specs.Conditions.{HasRoom, ReplaceExact, TakeExact}
use Rattle.desk.specs.Laws.Faults.{fault_numbers}
use Rattle.desk.specs.Laws.Rooms.{first_room-found, first_room-holds, for_held, held-inside}
use Rattle.desk.specs.Laws.Shared.{held-length, held-popped}
use Rattle.desk.specs.Laws.Views.{Replaces, Takes}
use Rattle.desk.specs.Laws.Views.{replace_done, replace_edition-end, replace_fault, replace_table, replaces, take-nothing, take-oldest, takes}
use Rattle.desk.specs.Replace.{replace_of}
use Rattle.desk.specs.Rooms.{edition_of, is_for, room_of, ticket_in}
use Rattle.desk.specs.Shared.{held, no_record, popped}
use Rattle.desk.specs.declared.Desk.{Desk}
use Rattle.desk.specs.declared.Record.{Record}
use Rattle.desk.specs.declared.Replaced.{Replaced}
use Rattle.desk.specs.declared.Serial.{Serial}
use Rattle.tables.specs.Building.{built_number}
use Rattle.desk.specs.Layout.{Order, Sizes}
use Rattle.desk.specs.Laws.Layout.{desk-number_iff, desk-tags_iff}
use Rattle.desk.specs.Limits.{most_records, most_tickets}

-- a serial has a room exactly if some ticket that is open or stale has it
pub has_room_so : (d : Desk) (s : Serial) → length d.tickets ≡ most_tickets → HasRoom d s ↔ ((i : ℕ) × (is_for s (ticket_in d.tickets i) ≡ true))
has_room_so d s wide = (
  λ h. (room_of d.tickets s, first_room-holds (is_for s) d.tickets (omega arith)),
  λ p. let t = ticket_in d.tickets p.0 in
      omega (arith, first_room-found (is_for s) d.tickets p.0 p.1, held-inside d.tickets p.0 (for_held s t p.1).0),
)

-- TAKE
pub takes_exactly : (d : Desk) → TakeExact d (take_of d).answer
takes_exactly d = go _ (takes d)
  where
    some : (r : Record) (rest : List Record) → held d.records ≡ r ∷ rest → d.records.count ≡ suc (length rest)
    some r rest e = sym (held-length d.records) ∙ ap {B = ℕ} length e

    go : (r : Taking) → Takes d r → TakeExact d r.answer
    go r (take-nothing e) = record {
      nothing = (λ q. e, λ q. refl);
      taken = λ r. (λ q. let z : ◌≡◌ {A = ℕ} 0 1 = cc in absurd (omega arith), λ p. absurd (omega (arith, e, some r p.0 p.1)));
    }
    go r (take-oldest h) = record {
      nothing = (λ q. absurd (omega (arith, q)), λ q. absurd (omega (arith, q, h)));
      taken = λ r.
          let oldest = held-popped d.records h in
          (λ q. (held (popped d.records), (cc)), λ p. let e : get_or d.records.ring (d.records.first % most_records) no_record ≡ r = cc in ap Some e);
    }

-- REPLACE
pub replaces_exactly : (d : Desk) (order : Order) (len : Sizes) → ReplaceExact d order len (replace_of d order len).answer
replaces_exactly d order len = go _ (replaces d order len)
  where
    go : (r : Replacing) → Replaces d order len r → ReplaceExact d order len r.answer
    go r (replace_fault fault b) = record {
      building = λ n values p q. let k = desk-number_iff order len n values in (rw b at k);
      last_edition = (
        λ e. absurd (omega (arith, e, (fault_numbers fault).1)),
        λ p. let t = (desk-tags_iff order len p.0.0).1 p.0.1 in
            let z : ◌≡◌ {A = ℕ} 0 1 = cc in absurd (omega arith),
      );
      replaced = λ e count. (
        λ q. let z : ◌≡◌ {A = ℕ} 0 1 = cc in absurd (omega arith),
        λ p. let t = (desk-tags_iff order len count).1 p.0 in let z : ◌≡◌ {A = ℕ} 0 1 = cc in
            absurd (omega arith),
      );
    }
    go r (replace_table machine short b) = record {
      building = λ n values p q. let k = desk-number_iff order len n values in (rw b at k);
      last_edition = (
        λ e. absurd (omega (arith, e)),
        λ p. let t = (desk-tags_iff order len p.0.0).1 p.0.1 in let z : ◌≡◌ {A = ℕ} 0 1 = cc in
            absurd (omega arith),
      );
      replaced = λ e count. (
        λ q. let z : ◌≡◌ {A = ℕ} 0 1 = cc in absurd (omega arith),
        λ p. let t = (desk-tags_iff order len count).1 p.0 in let z : ◌≡◌ {A = ℕ} 0 1 = cc in
            absurd (omega arith),
      );
    }
    go r (replace_edition-end tags b l) = record {
      building = λ n values p q. let k = desk-number_iff order len n values in
          (λ e. absurd (omega (arith, e.0)), λ g. absurd (omega (arith, ap built_number b, (k.1 g).0)));
      last_edition = (λ e. ((tags, (desk-tags_iff order len tags).0 b), l), λ p. refl);
      replaced = λ e count. (λ q. let z : ◌≡◌ {A = ℕ} 0 1 = cc in absurd (omega arith), λ p. absurd (p.1 l));
    }
    go r (replace_done tags b l) = record {
      building = λ n values p q. let k = desk-number_iff order len n values in
          (λ e. absurd (omega (arith, e.0)), λ g. absurd (omega (arith, ap built_number b, (k.1 g).0)));
      last_edition = (λ e. absurd (omega (arith, e)), λ p. absurd (l p.1));
      replaced = λ e count. (
        λ q. let c : replaced_as (edition_of (d.edition.0 + 1)) tags ≡ replaced_as e count = cc in
            ((desk-tags_iff order len count).0 (b ∙ ap (λ (x : Replaced). Ok x.tags) c), l, ap (λ (x : Replaced). x.edition) (sym c)),
        λ p. let t = (desk-tags_iff order len count).1 p.0 in let c : tags ≡ count = cc in cc,
      );
    }
