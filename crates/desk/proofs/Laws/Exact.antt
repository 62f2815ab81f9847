-- How the exact conditions of the desk's answers are shown, case by case.
use Rattle.desk.specs.Given.{Opening, Feeding, Closing}
use Rattle.std.specs.Prelude.{◌<◌, ℕ, ◌↔◌, ◌≡◌, refl, length, Ok}
use Rattle.std.proofs.Common.{ap, sym, arith}
use Rattle.std.proofs.Math.Numerals.{lt_of_le_of_ne}
use Rattle.desk.specs.Calls.{close_of, open_of}
use Rattle.desk.specs.Conditions.{AllHeld, CloseExact, Current, FeedExact, HasRoom, OpenExact, ticket_of}
use Rattle.desk.specs.Feed.{feed_of}
use Rattle.desk.specs.Laws.Good.{room-held}
use Rattle.desk.proofs.Laws.Good.{good}
use Rattle.desk.specs.Laws.Rooms.{all-held_iff, for_held}
use Rattle.desk.specs.Laws.Views.{Closes, Feeds, Opens, close_done, close_no-ticket, closes, feed_long, feed_no-place, feed_no-ticket}
use Rattle.desk.specs.Laws.Views.{feed_other-slots, feed_read, feed_stale, open_done, open_no-room, open_no-set, open_serial-end, opens}
use Rattle.desk.proofs.Laws.Views.{feeds}
use Rattle.desk.specs.Numbers.{feed_number}
use Rattle.desk.specs.Reached.{Reached}
use Rattle.desk.specs.Rooms.{free_room, room_of}
use Rattle.desk.specs.declared.Desk.{Desk}
use Rattle.desk.specs.declared.Serial.{Serial}
use Rattle.matching.specs.Words.{Word}
use Rattle.desk.specs.Layout.{Lent}
use Rattle.desk.specs.Limits.{most_tickets}

-- OPEN
pub opens_exactly : (d : Desk) → length d.tickets ≡ most_tickets → OpenExact d (open_of d).answer
opens_exactly d wide = go _ (opens d)
  where
    some-free : (i : ℕ) → i ≡ free_room d.tickets → i < most_tickets → AllHeld d → ⊥
    some-free i q h e = omega (arith, h, q, (all-held_iff d.tickets wide).1 e)

    go : (r : Opening) → Opens d r → OpenExact d r.answer
    go r (open_no-set a) = record {
      no-set = (λ e. a, λ h. refl);
      last_serial = (λ e. absurd (omega (arith, e)), λ h. absurd (h.0 a));
      no_room = (λ e. absurd (omega (arith, e)), λ h. absurd (h.0 a));
      opened = λ s. (λ e. let z : ◌≡◌ {A = ℕ} 0 1 = cc in absurd (omega arith), λ h. absurd (h.0 a));
    }
    go r (open_serial-end a b) = record {
      no-set = (λ e. absurd (omega (arith, e)), λ h. absurd (a h));
      last_serial = (λ e. (a, b), λ h. refl);
      no_room = (λ e. absurd (omega (arith, e)), λ h. absurd (h.1 b));
      opened = λ s. (λ e. let z : ◌≡◌ {A = ℕ} 0 1 = cc in absurd (omega arith), λ h. absurd (h.1 b));
    }
    go r (open_no-room a b c) = record {
      no-set = (λ e. absurd (omega (arith, e)), λ h. absurd (a h));
      last_serial = (λ e. absurd (omega (arith, e)), λ h. absurd (b h.1));
      no_room = (λ e. (a, b, (all-held_iff d.tickets wide).0 c), λ h. refl);
      opened = λ s. (λ e. let z : ◌≡◌ {A = ℕ} 0 1 = cc in absurd (omega arith), λ h. absurd (h.2 ((all-held_iff d.tickets wide).0 c)));
    }
    go r (open_done a b i q l) = record {
      no-set = (λ e. absurd (omega (arith, e)), λ h. absurd (a h));
      last_serial = (λ e. absurd (omega (arith, e)), λ h. absurd (b h.1));
      no_room = (λ e. absurd (omega (arith, e)), λ h. absurd (some-free i q l h.2));
      opened = λ s. (λ e. (a, b, some-free i q l, (cc)), λ h. ap Ok (sym h.3));
    }

-- FEED
pub feeds_exactly : (d : Desk) (s : Serial) (table : Lent) (piece : Word) → FeedExact d s table piece (feed_of d s table piece).answer
feeds_exactly d s table piece = go _ (feeds d s table piece)
  where
    go : (r : Feeding) → Feeds d (room_of d.tickets s) table piece r → FeedExact d s table piece r.answer
    go r (feed_no-ticket h) = record {
      no-ticket = (λ e l. omega arith, λ n. refl);
      stale = (λ e. absurd (omega (arith, e)), λ n. absurd (omega (arith, n.0)));
      long = (λ e. absurd (omega (arith, e)), λ n. absurd (omega (arith, n.0)));
      fed = (λ e. absurd (omega (arith, e)), λ n. absurd (omega (arith, n.0)));
    }
    go r (feed_stale h x) = record {
      no-ticket = (λ e. absurd (omega (arith, e)), λ n. absurd (n h));
      stale = (λ e. (h, x), λ n. refl);
      long = (λ e. absurd (omega (arith, e)), λ n. absurd (x n.1));
      fed = (λ e. absurd (omega (arith, e)), λ n. absurd (x n.1));
    }
    go r (feed_other-slots h x l) = record {
      no-ticket = (λ e. absurd (omega (arith, e)), λ n. absurd (n h));
      stale = (λ e. absurd (omega (arith, e)), λ n. absurd (n.1 x));
      long = (λ e. absurd (omega (arith, e)), λ n. absurd (l n.2));
      fed = (λ e. (h, x, λ f m. l f), λ n. refl);
    }
    go r (feed_long h x l m) = record {
      no-ticket = (λ e. absurd (omega (arith, e)), λ n. absurd (n h));
      stale = (λ e. absurd (omega (arith, e)), λ n. absurd (n.1 x));
      long = (λ e. (h, x, l, m), λ n. refl);
      fed = (λ e. absurd (omega (arith, e)), λ n. absurd (n.2 l m));
    }
    go r (feed_no-place h x l m y) = record {
      no-ticket = (λ e. absurd (omega (arith, e)), λ n. absurd (n h));
      stale = (λ e. absurd (omega (arith, e)), λ n. absurd (n.1 x));
      long = (λ e. absurd (omega (arith, e)), λ n. absurd (omega (arith, m, n.3)));
      fed = (λ e. (h, x, λ f z. omega (arith, m, z)), λ n. refl);
    }
    go r (feed_read h x l m) = record {
      no-ticket = (λ e. absurd (omega (arith, e)), λ n. absurd (n h));
      stale = (λ e. absurd (omega (arith, e)), λ n. absurd (n.1 x));
      long = (λ e. absurd (omega (arith, e)), λ n. absurd (omega (arith, m, n.3)));
      fed = (λ e. (h, x, λ f z. omega (arith, m, z)), λ n. refl);
    }

-- STALE: the ticket is older than the set
pub stale-is-older : (d : Desk) (s : Serial) (table : Lent) (piece : Word) → Reached d
    → (feed_number (feed_of d s table piece).answer ≡ 13) ↔ (HasRoom d s × ((ticket_of d s).edition.0 < d.edition.0))
stale-is-older d s table piece r =
    let x = (feeds_exactly d s table piece).stale in (
      λ e. let p = x.0 e in (p.0, older p.0 p.1),
      λ p. x.1 (p.0, λ q. omega (arith, p.1, q)),
    )
  where
    older : HasRoom d s → (Current d s → ⊥) → (ticket_of d s).edition.0 < d.edition.0
    older h q = lt_of_le_of_ne ((good r).places (room_of d.tickets s) (for_held s (ticket_of d s) (room-held d s (good r) h)).0).of q

-- CLOSE
pub closes_exactly : (d : Desk) (s : Serial) → CloseExact d s (close_of d s).answer
closes_exactly d s = go _ (closes d s)
  where
    go : (r : Closing) → Closes d s r → CloseExact d s r.answer
    go r (close_no-ticket h) = record { no-ticket = (λ e l. omega arith, λ n. refl); closed = (λ e. absurd (omega (arith, e)), λ n. absurd (omega arith)) }
    go r (close_done i q h) = record { no-ticket = (λ e. absurd (omega (arith, e)), λ n. absurd (n (omega arith))); closed = (λ e. omega arith, λ n. refl) }
