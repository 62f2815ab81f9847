-- What an opening and a replacement answer, by counts of what was accepted before.
use Rattle.desk.specs.Given.{Opening, ReplaceAnswer, Replacing, replaced_as}
use Rattle.desk.specs.declared.Replaced.{Replaced}
use Rattle.std.specs.Prelude.{◌+◌, ◌<◌, ◌≤◌, suc, ℕ, ◌≡◌, refl, length, Ok}
use Rattle.std.proofs.Common.{◌∙◌, ap, sym, arith}
use Rattle.desk.specs.Calls.{open_of}
use Rattle.desk.specs.Laws.Layout.{desk-fault_iff, desk-table_iff, desk-tags_iff}
use Rattle.desk.specs.Laws.Rooms.{all-held_iff, held_le}
use Rattle.desk.specs.Laws.Views.{Opens, open_done, open_no-room, open_no-set, open_serial-end, opens}
use Rattle.desk.specs.Laws.Views.{Replaces, replace_done, replace_edition-end, replace_fault, replace_table, replaces}
use Rattle.desk.specs.Layout.{DeskBuilds, Order, Sizes, desk_built}
use Rattle.desk.specs.Limits.{most_tickets}
use Rattle.desk.specs.Replace.{replace_of}
use Rattle.desk.specs.Rooms.{edition_of, free_room, tickets_held}
use Rattle.desk.specs.declared.Desk.{Desk}
use Rattle.desk.specs.declared.Edition.{Edition}
use Rattle.history.specs.Cases.{OpensAs, ReplacesAs}
use Rattle.history.specs.Laws.Numbers.{differ, lower}
use Rattle.matching.specs.Limits.{largest}

module _ (d : Desk) (accepted given waiting : ℕ) (wide : length d.tickets ≡ most_tickets) (editions : accepted ≡ d.edition.0)
    (serials : given ≡ d.serial.0)
    (rooms : waiting ≡ tickets_held d.tickets) (few-serials : given ≤ largest) where
  some : (d.edition.0 ≡ 0 → ⊥) → 0 < accepted
  some n = lower 0 _ (omega arith) (λ e. n (omega (arith, e, editions)))

  few : (d.serial.0 ≡ largest → ⊥) → given < largest
  few n = lower _ _ few-serials (λ e. n (sym serials ∙ e))

  -- a room is free exactly where fewer are held than there are
  free : free_room d.tickets < most_tickets → waiting < most_tickets
  free h = lower _ _ (omega (arith, rooms, held_le d.tickets, wide)) (λ e. omega (arith, h, (all-held_iff d.tickets wide).1 (sym rooms ∙ e)))

  full : most_tickets ≤ free_room d.tickets → waiting ≡ most_tickets
  full h = rooms ∙ (all-held_iff d.tickets wide).0 h

  pub opens_as : OpensAs accepted given waiting (open_of d).answer
  opens_as = go _ (opens d)
    where
      none : (d.edition.0 ≡ 0) → 0 < accepted → ⊥
      none a z = omega (arith, a, editions, z)

      go : (r : Opening) → Opens d r → OpensAs accepted given waiting r.answer
      go r (open_no-set a) = record {
        no-set = (λ e. editions ∙ a, λ e. refl);
        serial-end = (λ e. differ cc, λ z. absurd (none a z.0));
        no_room = (λ e. differ cc, λ z. absurd (none a z.0));
        opened = λ s. (λ e. differ cc, λ z. absurd (none a z.0));
      }
      go r (open_serial-end a b) = record {
        no-set = (λ e. differ cc, λ z. absurd (a (sym editions ∙ z)));
        serial-end = (λ e. (some a, serials ∙ b), λ z. refl);
        no_room = (λ e. differ cc, λ z. absurd (omega (arith, serials, b, z.1)));
        opened = λ s. (λ e. differ cc, λ z. absurd (omega (arith, serials, b, z.1)));
      }
      go r (open_no-room a b h) = record {
        no-set = (λ e. differ cc, λ z. absurd (a (sym editions ∙ z)));
        serial-end = (λ e. differ cc, λ z. absurd (b (sym serials ∙ z.1)));
        no_room = (λ e. (some a, few b, full h), λ z. refl);
        opened = λ s. (λ e. differ cc, λ z. absurd (omega (arith, full h, z.2)));
      }
      go r (open_done a b i p h) = record {
        no-set = (λ e. differ cc, λ z. absurd (a (sym editions ∙ z)));
        serial-end = (λ e. differ cc, λ z. absurd (b (sym serials ∙ z.1)));
        no_room = (λ e. differ cc, λ z. absurd (omega (arith, free (omega (arith, p, h)), z.2)));
        opened = λ s. (
          λ e. let x : d.serial.0 + 1 ≡ s.0 = cc in (some a, few b, free (omega (arith, p, h)), omega (arith, x, serials)),
          λ z. let y : d.serial.0 + 1 ≡ s.0 = omega (arith, z.3, serials) in λ k. Ok (record { 0 = y k }),
        );
      }

module _ (d : Desk) (accepted : ℕ) (now : accepted ≡ d.edition.0) (few-editions : accepted ≤ largest) where
  pub replaces_as : (order : Order) (len : Sizes) → ReplacesAs accepted order len (replace_of d order len).answer
  replaces_as order len = go _ (replaces d order len)
    where
      few : (d.edition.0 ≡ largest → ⊥) → accepted < largest
      few n = lower _ _ few-editions (λ e. n (sym now ∙ e))

      go : (r : Replacing) → Replaces d order len r → ReplacesAs accepted order len r.answer
      go r (replace_fault f p) = record {
        fault = λ x. (λ e. (desk-fault_iff order len x).0 (cc), λ h. let y = (desk-fault_iff order len x).1 h in cc);
        table = λ m n. (λ e. differ cc, λ h. (let y = (desk-table_iff order len m n).1 h in differ cc));
        edition-end = (λ e. differ cc, λ h. (let y = (desk-tags_iff order len h.0).1 h.1 in differ cc));
        replaced = λ i n. (λ e. differ cc, λ h. (let y = (desk-tags_iff order len n).1 h.0 in differ cc));
      }
      go r (replace_table j k p) = record {
        fault = λ x. (λ e. differ cc, λ h. (let y = (desk-fault_iff order len x).1 h in differ cc));
        table = λ m n. (λ e. (desk-table_iff order len m n).0 (cc), λ h. let y = (desk-table_iff order len m n).1 h in cc);
        edition-end = (λ e. differ cc, λ h. (let y = (desk-tags_iff order len h.0).1 h.1 in differ cc));
        replaced = λ i n. (λ e. differ cc, λ h. (let y = (desk-tags_iff order len n).1 h.0 in differ cc));
      }
      go r (replace_edition-end c p q) = record {
        fault = λ x. (λ e. differ cc, λ h. (let y = (desk-fault_iff order len x).1 h in differ cc));
        table = λ m n. (λ e. differ cc, λ h. (let y = (desk-table_iff order len m n).1 h in differ cc));
        edition-end = (λ e. (c, (desk-tags_iff order len c).0 p, now ∙ q), λ h. refl);
        replaced = λ i n. (λ e. differ cc, λ h. absurd (omega (arith, now, q, h.1)));
      }
      go r (replace_done c p q) = record {
        fault = λ x. (λ e. differ cc, λ h. (let y = (desk-fault_iff order len x).1 h in differ cc));
        table = λ m n. (λ e. differ cc, λ h. (let y = (desk-table_iff order len m n).1 h in differ cc));
        edition-end = (λ e. differ cc, λ h. absurd (omega (arith, few q, h.2)));
        replaced = λ i n. (λ e. done i n e, λ h. so i n ((desk-tags_iff order len n).1 h.0) h.2);
      }
        where
          done : (i : Edition) (n : ℕ) → ◌≡◌ {A = ReplaceAnswer} (Ok (replaced_as (edition_of (d.edition.0 + 1)) c)) (Ok (replaced_as i n))
              → DeskBuilds order len n × (accepted < largest) × (i.0 ≡ suc (accepted))
          done i n e =
              let g : replaced_as (edition_of (d.edition.0 + 1)) c ≡ replaced_as i n = cc in
              let x : d.edition.0 + 1 ≡ i.0 = ap (λ (y : Replaced). y.edition.0) g in
              ((desk-tags_iff order len n).0 (p ∙ ap (λ (y : Replaced). Ok y.tags) g), few q, omega (arith, x, now))

          so : (i : Edition) (n : ℕ) → desk_built order len ≡ Ok n → i.0 ≡ suc (accepted)
              → ◌≡◌ {A = ReplaceAnswer} (Ok (replaced_as (edition_of (d.edition.0 + 1)) c)) (Ok (replaced_as i n))
          so i n e x =
              let y : d.edition.0 + 1 ≡ i.0 = omega (arith, x, now) in
              let z : c ≡ n = cc in
              λ d. Ok (replaced_as (record { 0 = y d }) (z d))
