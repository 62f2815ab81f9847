-- What each call makes of the records held, case by case.
use Rattle.desk.specs.Given.{Opening, Feeding, Closing, Taking, Replacing}
use Rattle.std.specs.Prelude.{◌-◌, [], ◌++◌, ◌≡◌, refl, Some}
use Rattle.std.proofs.Common.{append-nil, ◌∙◌, ap, sym, arith}
use Rattle.desk.specs.Calls.{take_of}
use Rattle.desk.specs.Conditions.{ticket_of}
use Rattle.desk.specs.Feed.{feed_of, read_for}
use Rattle.desk.specs.Laws.Good.{on-place, room-held}
use Rattle.desk.proofs.Laws.Good.{good}
use Rattle.desk.specs.Laws.Layout.{desk-kept}
use Rattle.desk.specs.Laws.Rooms.{for_held}
use Rattle.desk.specs.Laws.Shared.{held-popped, held-push_all, records_of-length}
use Rattle.desk.specs.Laws.Views.{Closes, close_done, close_no-ticket, closes}
use Rattle.desk.specs.Laws.Views.{Feeds, feed_long, feed_no-place, feed_no-ticket, feed_other-slots, feed_read, feed_stale}
use Rattle.desk.proofs.Laws.Views.{feeds}
use Rattle.desk.specs.Laws.Views.{Opens, open_done, open_no-room, open_no-set, open_serial-end, opens}
use Rattle.desk.specs.Laws.Views.{Replaces, replace_done, replace_edition-end, replace_fault, replace_table, replaces}
use Rattle.desk.specs.Laws.Views.{Takes, take-nothing, take-oldest, takes}
use Rattle.desk.specs.Layout.{Lent, sizes_of}
use Rattle.desk.specs.Limits.{most_records}
use Rattle.desk.specs.Reached.{Call, Reached, call_close, call_feed, call_open, call_replace, call_take}
use Rattle.desk.specs.Rooms.{room_of}
use Rattle.desk.specs.Shared.{held, records_of, round}
use Rattle.desk.specs.declared.Desk.{Desk}
use Rattle.desk.specs.declared.Records.{Records}
use Rattle.desk.specs.declared.Serial.{Serial}
use Rattle.history.specs.Laws.Numbers.{differ}
use Rattle.history.specs.RecordsHeld.{HandsOut, HeldAfter, PutsBehind}
use Rattle.matching.specs.Words.{Word}
use Rattle.desk.specs.Numbers.{feed_number}

take-held : (d : Desk) → HandsOut d
unfolding round
take-held d = go _ (takes d) refl
  where
    q : Records
    q = d.records

    go : (r : Taking) → Takes d r → take_of d ≡ r → HandsOut d
    go r (take-nothing h) e =
        let n : held d.records ≡ [] = ap (round q.ring q.first) h in
        record {
          none = λ _. (ap (λ (x : Taking). x.answer) e, ap (λ (x : Taking). held x.desk.records) e ∙ n);
          oldest = λ x rest p. differ cc;
        }
    go r (take-oldest h) e =
        let n = held-popped d.records h in
        record {
          none = λ p. differ cc;
          oldest = λ x rest p. (
            ap (λ (y : Taking). y.answer) e ∙ ap Some cc,
            ap (λ (y : Taking). held y.desk.records) e ∙ cc,
          );
        }

feed_held : (d : Desk) → Reached d → (s : Serial) (table : Lent) (piece : Word) → PutsBehind d s table piece
feed_held d r s table piece = go _ (feeds d s table piece) refl
  where
    same : (x : Feeding) → feed_of d s table piece ≡ x → x.desk.records ≡ d.records
        → held (feed_of d s table piece).desk.records ≡ held d.records
    same x q e = ap (λ (y : Feeding). held y.desk.records) q ∙ ap held e

    go : (x : Feeding) → Feeds d (room_of d.tickets s) table piece x → feed_of d s table piece ≡ x → PutsBehind d s table piece
    go x (feed_no-ticket h) q = record {
      found = [];
      ordered = tt;
      behind = same x q refl ∙ sym (append-nil (held d.records));
      refused = λ n. refl;
      counted = λ m e. (let z = ap (λ (y : Feeding). y.answer) (sym q) ∙ e in differ cc);
      read = λ a b c e. absurd (omega (arith, h, a));
    }
    go x (feed_stale h e) q = record {
      found = [];
      ordered = tt;
      behind = same x q refl ∙ sym (append-nil (held d.records));
      refused = λ n. refl;
      counted = λ m p. (let z = ap (λ (y : Feeding). y.answer) (sym q) ∙ p in differ cc);
      read = λ a b c f. absurd (e b);
    }
    go x (feed_other-slots h e l) q = record {
      found = [];
      ordered = tt;
      behind = same x q refl ∙ sym (append-nil (held d.records));
      refused = λ n. refl;
      counted = λ m p. (let z = ap (λ (y : Feeding). y.answer) (sym q) ∙ p in cc);
      read = λ a b c f. absurd (l c);
    }
    go x (feed_long h e l m) q = record {
      found = [];
      ordered = tt;
      behind = same x q refl ∙ sym (append-nil (held d.records));
      refused = λ n. refl;
      counted = λ i p. (let z = ap (λ (y : Feeding). y.answer) (sym q) ∙ p in differ cc);
      read = λ a b c f. absurd (f m);
    }
    go x (feed_no-place h e l m n) q = absurd (on-place d s table (good r) h e l n)
    go x (feed_read h e l m) q =
        let t = ticket_of d s in
        let o = read_for d t table piece in
        let k = desk-kept d.slots table t.place t.taken (most_records - d.records.count) piece in
        let g = good r in
        record {
          found = o.found;
          ordered = k.ordered;
          behind = ap (λ (y : Feeding). held y.desk.records) q
              ∙ held-push_all d.records (records_of t.serial t.edition o.found) g.ring
              (omega (arith, k.fits, records_of-length t.serial t.edition o.found, g.count))
              ∙ λ i. held d.records ++ records_of (record { 0 = (for_held s t (room-held d s g h)).1 i }) t.edition o.found;
          refused = λ n. absurd (n (ap (λ (y : Feeding). feed_number y.answer) q));
          counted = λ i p. (let z = ap (λ (y : Feeding). y.answer) (sym q) ∙ p in cc);
          read = λ a b c f. refl;
        }

pub call_held : {d : Desk} → Reached d → (c : Call) → HeldAfter d c
call_held {d} r (call_replace order run) = go _ (replaces d order (sizes_of run))
  where
    go : (x : Replacing) → Replaces d order (sizes_of run) x → held x.desk.records ≡ held d.records
    go x (replace_fault fault e) = refl
    go x (replace_table machine short e) = refl
    go x (replace_edition-end count e h) = refl
    go x (replace_done count e h) = refl
call_held {d} r call_open = go _ (opens d)
  where
    go : (x : Opening) → Opens d x → held x.desk.records ≡ held d.records
    go x (open_no-set a) = refl
    go x (open_serial-end a b) = refl
    go x (open_no-room a b c) = refl
    go x (open_done a b i e h) = refl
call_held {d} r (call_feed s table piece) = feed_held d r s table piece
call_held {d} r (call_close s) = go _ (closes d s)
  where
    go : (x : Closing) → Closes d s x → held x.desk.records ≡ held d.records
    go x (close_no-ticket h) = refl
    go x (close_done i e h) = refl
call_held {d} r call_take = take-held d
