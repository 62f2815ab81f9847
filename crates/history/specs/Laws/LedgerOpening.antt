-- An opening keeps the ledger: a room was free, so fewer tickets than rooms were open or stale.
use Rattle.desk.specs.Given.{Opening}
use Rattle.std.specs.Prelude.{◌+◌, ◌<◌, ◌≤◌, suc, ℕ, Bool, false, true, [], ◌++◌, ◌∷◌, length, take}
use Rattle.std.proofs.Math.Bool.{cond}
use Rattle.std.proofs.Common.{◌∙◌, subst, sym}
use Rattle.std.proofs.Math.Path.{◌≡◌, ap}
use Rattle.std.proofs.Math.Decide.{dec_le, ℕ_discrete}
use native.Mathlib.Omega.{arith}
use Rattle.std.proofs.lemmas.List.{take-append-le}
use Rattle.std.proofs.Math.Seq.{take-append_seam}
use Rattle.desk.specs.Calls.{opened_in}
use Rattle.desk.specs.Laws.Rooms.{first_room-holds, free-held, full_iff, held_le, held-set, new-held}
use Rattle.desk.specs.Laws.Views.{Opens, open_done, open_no-room, open_no-set, open_serial-end, opens}
use Rattle.desk.specs.Rooms.{free_room, is_free, is_held, new_ticket, serial_of, ticket_in, tickets_held}
use Rattle.history.specs.History.{Account, World, account_at, lives, new_account, no_account, opening, step, with_accounts}
use Rattle.history.specs.Laws.Invariant.{Inv, wide}
use Rattle.history.specs.Laws.Ledger.{Ledger, lives_append, order_at, tags_of_order}
use Rattle.history.specs.Laws.Snoc.{snoc_last, snoc_length, snoc_old}
use Rattle.desk.specs.Reached.{call_open}
use Rattle.matching.specs.Limits.{largest}
use Rattle.desk.specs.Limits.{most_tickets}

module _ {Left : Type 0} (w : World) (v : Inv Left w) (g : Ledger w) (i : ℕ) (ei : i ≡ free_room w.desk.tickets) (hi : i < most_tickets)
    (more : w.desk.serial.0 ≡ largest → ⊥) where
  abbrev new : Account
  new = new_account w (w.desk.serial.0 + 1)

  abbrev after : World
  after = with_accounts w (opened_in w.desk i) (w.accounts ++ new ∷ [])

  count : length after.accounts ≡ suc (length w.accounts)
  count = snoc_length w.accounts new no_account

  old : (k : ℕ) → k < length w.accounts → account_at after k ≡ account_at w k
  old = snoc_old w.accounts new no_account

  last : (k : ℕ) → k ≡ length w.accounts → account_at after k ≡ new
  last = snoc_last w.accounts new no_account

  inside : i < length w.desk.tickets
  inside = omega (arith, wide w v)

  free : is_held (ticket_in w.desk.tickets i) ≡ false
  free = free-held (ticket_in w.desk.tickets i)
      (subst (λ (j : ℕ). is_free (ticket_in w.desk.tickets j) ≡ true) (sym ei) (first_room-holds is_free w.desk.tickets (omega (arith, wide w v, ei))))

  spare : lives w.accounts < most_tickets
  spare = go (ℕ_discrete (tickets_held w.desk.tickets) most_tickets)
    where
      go : Dec (tickets_held w.desk.tickets ≡ most_tickets) → lives w.accounts < most_tickets
      go (yes e) = absurd (omega (arith, hi, ei, (full_iff w.desk.tickets).1 (e ∙ sym (wide w v)), wide w v))
      go (no e) = omega (arith, g.rooms, held_le w.desk.tickets, wide w v)

  ledger_opened : Ledger after
  unfolding lives
  ledger_opened = record {
    editions = g.editions;
    few-editions = g.few-editions;
    few-serials = omega (arith, count, g.few-serials, v.serials);
    fine = g.fine;
    last = λ e q. (let l = g.last e q in record { tags = l.tags; table = l.table; slots = l.slots });
    account-tags = λ k h. tags-new k (dec_le (suc k) (length w.accounts)) h;
    rising = λ a b h l. rising_new a b h l (dec_le (suc b) (length w.accounts));
    roomy = λ k h. roomy-new k h (dec_le (suc k) (length w.accounts));
    rooms = lives_append w.accounts (new ∷ [])
        ∙ omega (
          arith,
          g.rooms,
          held-set w.desk.tickets i (new_ticket (serial_of (w.desk.serial.0 + 1)) w.desk.edition) inside,
          freed,
          ap {B = ℕ} (λ (x : Bool). cond x 1 0) (new-held w.desk.serial.0 w.desk.edition),
        );
  }
    where
      freed : ◌≡◌ {A = ℕ} (cond (is_held (ticket_in w.desk.tickets i)) 1 0) 0
      freed = ap (λ (b : Bool). cond b 1 0) free

      at-end : (k : ℕ) → (suc k ≤ length w.accounts → ⊥) → k < length after.accounts → k ≡ length w.accounts
      at-end k n h = omega (arith, h, count)

      tags-new : (k : ℕ) → Dec (suc k ≤ length w.accounts) → k < length after.accounts → (e : ℕ) → (account_at after k).edition ≡ suc e
          → (account_at after k).tags ≡ tags_of_order (order_at w e)
      tags-new k (yes b) h e q = ap (λ (a : Account). a.tags) (old k b) ∙ g.account-tags k b e (ap (λ (a : Account). a.edition) (sym (old k b)) ∙ q)
      tags-new k (no b) h e q = let z = last k (at-end k b h) in ap (λ (a : Account). a.tags) z ∙ (g.last e
          (ap (λ (a : Account). a.edition) (sym z) ∙ q)).tags

      rising_new : (a b : ℕ) → a ≤ b → b < length after.accounts → Dec (suc b ≤ length w.accounts)
          → (account_at after a).edition ≤ (account_at after b).edition
      rising_new a b h l (yes q) = rw (old a (omega arith), old b q) (g.rising a b h q)
      rising_new a b h l (no q) = last_rises (dec_le (suc a) (length w.accounts))
        where
          z : (account_at after b).edition ≡ w.edition
          z = ap (λ (x : Account). x.edition) (last b (at-end b q l))

          last_rises : Dec (suc a ≤ length w.accounts) → (account_at after a).edition ≤ (account_at after b).edition
          last_rises (yes p) = omega (arith, ap (λ (x : Account). x.edition) (old a p), (v.kept a p).upto, z)
          last_rises (no p) = omega (arith, ap (λ (x : Account). x.edition) (last a (omega (arith, h, l, count))), z)

      roomy-new : (k : ℕ) → k < length after.accounts → Dec (suc k ≤ length w.accounts) → lives (take k after.accounts) < most_tickets
      roomy-new k h (yes b) = rw (take-append-le k w.accounts (new ∷ []) (omega arith)) (g.roomy k b)
      roomy-new k h (no b) = rw (ap (λ (n : ℕ). take n after.accounts) (at-end k b h) ∙ take-append_seam w.accounts (new ∷ [])) spare

pub ledger_opens : {Left : Type 0} (w : World) → Inv Left w → Ledger w → Ledger (step w call_open)
ledger_opens w v g = go _ (opens w.desk)
  where
    go : (r : Opening) → Opens w.desk r → Ledger (opening w r.desk r.answer)
    go r (open_no-set a) = g
    go r (open_serial-end a b) = g
    go r (open_no-room a b c) = g
    go r (open_done a b i e h) = ledger_opened w v g i e h b
