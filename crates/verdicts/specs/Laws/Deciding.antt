-- What is decided, by its cases; over any tables.
use Rattle.desk.specs.Given.{not_held}
use Rattle.gate.specs.Given.{DecideAnswer}
use Rattle.gate.specs.declared.Verdict.TheVariants as Q
use Rattle.std.specs.Prelude.{ℕ, zero, suc, ◌<◌, ◌≤◌, Bool, cond, ◌≡◌, eqb, length, Ok, Err}
use Rattle.std.proofs.Math.Bool.{false, true}
use Rattle.std.proofs.Common.{inl, inr, ◌∙◌, subst, sym, arith}
use Rattle.std.proofs.Math.Path.{refl}
use Rattle.std.proofs.Math.Decide.{dec_le}
use Rattle.std.proofs.Math.Dec.{ltb}
use borrow.Author.Tests.{eqb-false, eqb-true, ltb-false, ltb-true}
use Rattle.desk.specs.Rooms.{room_of, serial_of, ticket_in}
use Rattle.desk.specs.declared.Edition.{Edition}
use Rattle.desk.specs.declared.Serial.{Serial}
use Rattle.gate.specs.Gate.{decide_by, decide_of, verdict_by}
use Rattle.gate.specs.Noting.{seen_in}
use Rattle.gate.specs.declared.Seen.{Seen}
use Rattle.history.specs.Laws.Numbers.{lower}
use Rattle.matching.specs.Laws.Bools.{not-both}
use Rattle.verdicts.specs.GateHistory.{GateWorld, NotReplaced, Readable, Replaced, Undecided, approval_at}
use Rattle.verdicts.specs.Laws.Standing.{Kept, Sits, sits, Standing, stood, strangers}
use Rattle.desk.specs.Limits.{most_tickets}

-- the tags kept for a serial
abbrev pub mask_in : GateWorld → Serial → ℕ
mask_in g s = (seen_in g.gate.seen (room_of g.gate.desk.tickets s)).mask

pub data Decides (g : GateWorld) (s : Serial) : DecideAnswer → Type 0 where
  decides_none : ((k : ℕ) → Undecided g s k → ⊥) → Decides g s (Err not_held)
  decides_stale : (k : ℕ) (e : Edition) → Undecided g s k → e.0 ≡ (approval_at g k).accepted → Replaced g k → Decides g s (Ok (Q.Stale e))
  decides_unread : (k : ℕ) → Undecided g s k → NotReplaced g k → (approval_at g k).whole ≡ false → Decides g s (Ok Q.Unread)
  decides_pass : (k : ℕ) → Readable g s k → mask_in g s ≡ 0 → Decides g s (Ok Q.Pass)
  decides_hold : (k : ℕ) → Readable g s k → (mask_in g s ≡ 0 → ⊥) → Decides g s (Ok (Q.Hold (mask_in g s)))

-- what is kept for an approval that has a room
pub record Seated (g : GateWorld) (s : Serial) (k : ℕ) : Type 0 where
  pub room : room_of g.gate.desk.tickets s < most_tickets
  pub kept : Kept (ticket_in g.gate.desk.tickets (room_of g.gate.desk.tickets s)) (seen_in g.gate.seen (room_of g.gate.desk.tickets s))
      (approval_at g k)

module _ (g : GateWorld) (v : Standing g) where
  pub seated : (s : Serial) (k : ℕ) → Undecided g s k → Seated g s k
  seated s k u = subst (λ (n : Serial). Seated g n k) (λ d. record { 0 = u.serial d }) (go (v.seats k u.inside))
    where
      go : Sits g.gate.desk.tickets g.gate.seen (approval_at g k) → Seated g (serial_of (approval_at g k).serial) k
      go (stood c h) = absurd (not-both c u.undecided)
      go (sits c h x) = record { room = h; kept = x }

  -- a serial that has a room is that of an undecided approval
  pub waiting : (s : Serial) → room_of g.gate.desk.tickets s < most_tickets → (k : ℕ) × Undecided g s k
  waiting s h = go s.0 refl
    where
      go : (n : ℕ) → s.0 ≡ n → (k : ℕ) × Undecided g s k
      go zero e = absurd (omega (arith, h, strangers g v s (inl e)))
      go (suc k) e = known (dec_le (suc k) (length g.approvals))
        where
          known : Dec (suc k ≤ length g.approvals) → (k : ℕ) × Undecided g s k
          known (no p) = absurd (omega (arith, h, strangers g v s (inr (omega (arith, e, p)))))
          known (yes p) = (k, record { inside = p; serial = same; undecided = live (v.seats k p) })
            where
              same : (approval_at g k).serial ≡ s.0
              same = v.numbered k p ∙ sym e

              live : Sits g.gate.desk.tickets g.gate.seen (approval_at g k) → (approval_at g k).decided ≡ false
              live (sits c r x) = c
              live (stood c r) =
                  let z : serial_of (approval_at g k).serial ≡ s = λ d. record { 0 = same d } in
                  absurd (omega (arith, h, subst (λ (n : Serial). most_tickets ≤ room_of g.gate.desk.tickets n) z r))

  module _ (s : Serial) (k : ℕ) (u : Undecided g s k) where
    abbrev i : ℕ
    i = room_of g.gate.desk.tickets s

    abbrev its : Edition
    its = (ticket_in g.gate.desk.tickets (room_of g.gate.desk.tickets s)).edition

    abbrev x : Seen
    x = seen_in g.gate.seen (room_of g.gate.desk.tickets s)

    z : Seated g s k
    z = seated s k u

    by_mask : NotReplaced g k → (approval_at g k).whole ≡ true → (c : Bool) → eqb x.mask 0 ≡ c → Decides g s (Ok (cond c Q.Pass (Q.Hold x.mask)))
    by_mask n w true q = decides_pass k (record { waits = u; current = n; whole = w }) (eqb-true _ _ q)
    by_mask n w false q = decides_hold k (record { waits = u; current = n; whole = w }) (eqb-false _ _ q)

    by-unread : NotReplaced g k → (c : Bool) → eqb x.unread 0 ≡ c → Decides g s (Ok (cond c (cond (eqb x.mask 0) Q.Pass (Q.Hold x.mask)) Q.Unread))
    by-unread n true q = by_mask n (sym z.kept.read ∙ q) (eqb x.mask 0) refl
    by-unread n false q = decides_unread k u n (sym z.kept.read ∙ q)

    by-edition : (c : Bool) → eqb its.0 g.gate.desk.edition.0 ≡ c → Decides g s (Ok (verdict_by its x c))
    by-edition true q = by-unread (sym z.kept.edition ∙ eqb-true _ _ q ∙ v.editions) (eqb x.unread 0) refl
    by-edition false q =
        decides_stale k its u z.kept.edition
        (lower _ _ (v.upto k u.inside) (λ e. eqb-false its.0 g.gate.desk.edition.0 q (z.kept.edition ∙ e ∙ sym v.editions)))

  pub decides : (s : Serial) → Decides g s (decide_of g.gate s).answer
  unfolding decide_of
  decides s = go (ltb (room_of g.gate.desk.tickets s) most_tickets) refl
    where
      go : (c : Bool) → ltb (room_of g.gate.desk.tickets s) most_tickets ≡ c
          → Decides g s (decide_by g.gate s (room_of g.gate.desk.tickets s) c).answer
      go true q =
          let w = waiting s (ltb-true (room_of g.gate.desk.tickets s) most_tickets q) in
          by-edition s w.0 w.1 (eqb (ticket_in g.gate.desk.tickets (room_of g.gate.desk.tickets s)).edition.0 g.gate.desk.edition.0) refl
      go false q = decides_none (λ k u. omega (arith, ltb-false (room_of g.gate.desk.tickets s) most_tickets q, (seated s k u).room))
