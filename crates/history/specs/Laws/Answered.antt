-- What each call answers after any history, shown case by case.
use Rattle.desk.specs.Given.{Feeding, Closing, Taking}
use Rattle.desk.specs.declared.FeedRefusal.TheVariants as F
use Rattle.std.specs.Prelude.{◌+◌, ◌<◌, ℕ, [], ◌≡◌, refl, length, Ok, Err}
use Rattle.std.proofs.Common.{◌∙◌, ap, subst, sym, arith, le_of_eq, le_trans}
use Rattle.desk.specs.Calls.{close_of, open_of, take_of}
use Rattle.desk.specs.Feed.{advance, feed_of}
use Rattle.desk.specs.Laws.Shared.{held-popped}
use Rattle.desk.specs.Laws.Views.{Closes, close_done, close_no-ticket, closes}
use Rattle.desk.specs.Laws.Views.{Takes, take-nothing, take-oldest, takes}
use Rattle.desk.specs.Replace.{replace_of}
use Rattle.desk.specs.Rooms.{room_of}
use Rattle.desk.specs.Shared.{held, popped, round}
use Rattle.desk.specs.declared.Records.{Records}
use Rattle.desk.specs.declared.Serial.{Serial}
use Rattle.history.specs.History.{Gone, OpenOrStale, OpenTicket, World, account_at, feeding, stream}
use Rattle.history.specs.Laws.Answering.{feeds_for, FeedsFor, fits-left, for_gone, for_long, for_slots, for_read, for_stale, gone_iff}
use Rattle.history.specs.Laws.Feeding.{live}
use Rattle.history.specs.Laws.Invariant.{given, Inv, wide}
use Rattle.history.specs.Laws.Numbers.{differ}
use Rattle.matching.specs.Laws.Bools.{not-both}
use Rattle.matching.specs.Words.{Word}
use Rattle.desk.specs.Layout.{Lent, Order, Sizes}
use Rattle.history.specs.Laws.LedgerSteps.{Sound}
use Rattle.history.specs.Cases.{CloseAnswers, FedAsDemanded, FeedAnswers, OpenAnswers, ReplaceAnswers, TakeAnswers}
use Rattle.matching.specs.Limits.{largest}
use Rattle.desk.specs.Limits.{most_tickets}
use Rattle.desk.specs.Conditions.{ticket_of}
use Rattle.history.specs.Laws.Counts.{opens_as, replaces_as}

-- an account that is not closed is no account of a serial that is gone
not-gone : (w : World) (s : Serial) (k : ℕ) → Gone w s → OpenOrStale w s k → ⊥
not-gone w s k g o = not-both (g k o.inside o.serial) o.not-closed

-- two accounts of one serial are one
same-account : {Left : Type 0} (w : World) → Inv Left w → (s : Serial) (j k : ℕ) → OpenOrStale w s j → OpenOrStale w s k → j ≡ k
same-account w v s j k a b = omega (arith, a.serial, b.serial, v.numbered j a.inside, v.numbered k b.inside)

pub feed_answered : {Left : Type 0} (w : World) → Inv Left w → (s : Serial) (table : Lent) (piece : Word)
    → FeedAnswers Left w s table piece (feed_of w.desk s table piece).answer
feed_answered {Left} w v s table piece = go _ (feeds_for w v s table piece) refl
  where
    -- what is so of an account of the serial is so of each
    same : (P : ℕ → Type 0) (j k : ℕ) → OpenOrStale w s j → OpenOrStale w s k → P j → P k
    same P j k x y = subst P (same-account w v s j k x y)

    current : (j k : ℕ) → OpenTicket w s j → OpenOrStale w s k → (account_at w k).edition ≡ w.edition
    current j k x y = same (λ i. (account_at w i).edition ≡ w.edition) j k x.0 y x.1

    go : (r : Feeding) → FeedsFor Left w s table piece r → feed_of w.desk s table piece ≡ r → FeedAnswers Left w s table piece r.answer
    go r (for_gone g) q = record {
      no-ticket = (λ e. g, λ e. refl);
      stale = λ i. (λ e. differ cc, λ z. absurd (not-gone w s z.0 g z.1.0));
      other-slots = λ k o n. absurd (not-gone w s k g o.0);
      long = (λ e. differ cc, λ z. absurd (not-gone w s z.0 g z.1.0));
      fed = λ m e. differ cc;
      reads = λ l f c k o m. absurd (not-gone w s k g o.0);
    }
    go r (for_stale j o) q = record {
      no-ticket = (λ e. differ cc, λ g. absurd (not-gone w s j g o.0));
      stale = λ i. (λ e. (j, o, cc), λ z d. Err (F.Stale (record { 0 = sym (same (λ k. i.0 ≡ (account_at w k).edition) z.0 j z.1.0 o.0 z.2) d })));
      other-slots = λ k x n. absurd (omega (arith, o.1, current k j x o.0));
      long = (λ e. differ cc, λ z. absurd (omega (arith, o.1, current z.0 j z.1 o.0)));
      fed = λ m e. differ cc;
      reads = λ l f c k x m. absurd (omega (arith, o.1, current k j x o.0));
    }
    go r (for_slots j o n) q = record {
      no-ticket = (λ e. differ cc, λ g. absurd (not-gone w s j g o.0));
      stale = λ i. (λ e. differ cc, λ z. absurd (omega (arith, z.1.1, current j z.0 o z.1.0)));
      other-slots = λ k x f. refl;
      long = (λ e. differ cc, λ z. absurd (n z.2));
      fed = λ m e. (j, o, λ f. absurd (n f));
      reads = λ l f c k x m. absurd (n (fits-left w v s j o table f));
    }
    go r (for_long j o f l) q = record {
      no-ticket = (λ e. differ cc, λ g. absurd (not-gone w s j g o.0));
      stale = λ i. (λ e. differ cc, λ z. absurd (omega (arith, z.1.1, current j z.0 o z.1.0)));
      other-slots = λ k x n. absurd (n f);
      long = (λ e. (j, o, f, l), λ z. refl);
      fed = λ m e. differ cc;
      reads = λ p t c k x m. absurd (omega (arith, m, same (λ i. largest < length (account_at w i).bytes + length piece) j k o.0 x.0 l));
    }
    go r (for_read j o f l x d y a) q = record {
      no-ticket = (λ e. differ cc, λ g. absurd (not-gone w s j g o.0));
      stale = λ i. (λ e. differ cc, λ z. absurd (omega (arith, z.1.1, current j z.0 o z.1.0)));
      other-slots = λ k u n. absurd (n f);
      long = (
        λ e. differ cc,
        λ z. absurd (omega (arith, l, same (λ i. largest < length (account_at w i).bytes + length piece) z.0 j z.1.0 o.0 z.3)),
      );
      fed = λ m e. (j, o, λ z. l);
      reads = λ p t c k u m. same (λ i. FedAsDemanded w s (account_at w i) piece (Ok (advance x.taken (length x.found) x.stop))) j k o.0 u.0
          (let here : feed_of w.desk s w.table piece ≡ record { desk = d; answer = Ok (advance x.taken (length x.found) x.stop) } =
          ap (λ (z : Lent). feed_of w.desk s z piece) (sym t) ∙ q in
          record {
            outcome = x;
            demanded = (y p t c).0;
            answered = refl;
            added = ap (λ (z : Feeding). stream (feeding w s piece z.desk z.answer)) here ∙ a;
            place = ap (λ (z : Feeding). (ticket_of (feeding w s piece z.desk z.answer).desk s).place) here ∙ (y p t c).1;
          });
    }

pub open_answered : {Left : Type 0} (w : World) → Sound Left w → OpenAnswers w (open_of w.desk).answer
open_answered w g =
    opens_as w.desk _ _ _ (wide w g.inv) (g.ledger.editions ∙ g.inv.edition) g.inv.serials g.ledger.rooms g.ledger.few-serials

pub replace_answered : {Left : Type 0} (w : World) → Sound Left w → (order : Order) (len : Sizes)
    → ReplaceAnswers w order len (replace_of w.desk order len).answer
replace_answered w g =
    replaces_as w.desk (length w.orders) (g.ledger.editions ∙ g.inv.edition) (le_trans (le_of_eq g.ledger.editions) g.ledger.few-editions)

pub close_answered : {Left : Type 0} (w : World) → Inv Left w → (s : Serial) → CloseAnswers w s (close_of w.desk s).answer
close_answered w v s = go _ (closes w.desk s)
  where
    go : (r : Closing) → Closes w.desk s r → CloseAnswers w s r.answer
    go r (close_no-ticket h) = record {
      no-ticket = (λ e. (gone_iff w v s).0 h, λ g. refl);
      closed = (λ e. differ cc, λ z. absurd (not-gone w s z.0 ((gone_iff w v s).0 h) z.1));
    }
    go r (close_done i p h) =
        let l : room_of w.desk.tickets s < most_tickets = omega (arith, p, h) in
        let g = given w v s l in
        let o : OpenOrStale w s g.0 =
        record { inside = g.1; serial = v.numbered g.0 g.1 ∙ sym g.2; not-closed = live w v s g.0 g.1 g.2 l } in
        record { no-ticket = (λ e. differ cc, λ f. absurd (not-gone w s g.0 f o)); closed = (λ e. (g.0, o), λ z. refl) }

pub take-answered : (w : World) → TakeAnswers w (take_of w.desk).answer
unfolding round
take-answered w = go _ (takes w.desk)
  where
    q : Records
    q = w.desk.records

    go : (r : Taking) → Takes w.desk r → TakeAnswers w r.answer
    go r (take-nothing h) =
        let n : held w.desk.records ≡ [] = ap (round q.ring q.first) h in
        record { nothing = (λ e. n, λ e. refl); taken = λ x. (λ e. differ cc, λ z. (let y = z.1 in differ cc)) }
    go r (take-oldest h) =
        let n = held-popped w.desk.records h in
        record { nothing = (λ e. differ cc, λ e. differ cc); taken = λ x. (λ e. (held (popped q), cc), λ z. (let y = z.1 in cc)) }
