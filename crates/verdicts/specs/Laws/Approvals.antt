-- The laws of approvals: that of a serial changed.
use Rattle.std.specs.Prelude.{ℕ, zero, suc, ◌<◌, Bool, cond, false, true, List, [], ◌∷◌, ◌≡◌, refl, eqb, get_or, length, Ok}
use Rattle.std.proofs.Common.{ap, arith, eqb-true}
use Rattle.std.proofs.lemmas.Bool.{eqb-false}
use Rattle.desk.specs.declared.Edition.{Edition}
use Rattle.desk.specs.declared.Serial.{Serial}
use Rattle.gate.specs.Gate.{verdict_by}
use Rattle.gate.specs.declared.Gate.{Gate}
use Rattle.gate.specs.declared.Seen.{Seen}
use Rattle.verdicts.specs.GateHistory.{Approval, GateWorld, decided_with, no_approval, on_approval, settled, with_approvals}

pub on-length : (n : ℕ) (f : Approval → Approval) (l : List Approval) → length (on_approval n f l) ≡ length l
unfolding on_approval
on-length n f [] = refl
on-length n f (p ∷ l) = ap (λ (k : ℕ). suc k) (on-length n f l)

-- what holds of the changed one and of each other holds of each after
pub on-each : (n : ℕ) (f : Approval → Approval) (l : List Approval) (P : ℕ → Approval → Type 0)
    → ((k : ℕ) → k < length l → (get_or l k no_approval).serial ≡ n → P k (f (get_or l k no_approval)))
    → ((k : ℕ) → k < length l → ((get_or l k no_approval).serial ≡ n → ⊥) → P k (get_or l k no_approval))
    → (k : ℕ) → k < length (on_approval n f l) → P k (get_or (on_approval n f l) k no_approval)
unfolding on_approval
on-each n f [] P hit miss k h = absurd (omega (arith, h))
on-each n f (p ∷ l) P hit miss zero h = go (eqb p.serial n) refl
  where
    go : (t : Bool) → eqb p.serial n ≡ t → P 0 (cond t (f p) p)
    go true e = hit 0 (omega arith) (eqb-true p.serial n e)
    go false e = miss 0 (omega arith) (eqb-false p.serial n e)
on-each n f (p ∷ l) P hit miss (suc k) h =
    on-each n f l (λ j q. P (suc j) q) (λ j z. hit (suc j) (omega (arith, z))) (λ j z. miss (suc j) (omega (arith, z))) k (omega (arith, h))

-- whatever is decided of a ticket that has a room, its approval is decided from then on
pub verdict_settles : (w : GateWorld) (s : Serial) (g : Gate) (e : Edition) (x : Seen) (a : Bool)
    → decided_with w s g (Ok (verdict_by e x a)) ≡ with_approvals w g (on_approval s.0 settled w.approvals)
verdict_settles w s g e x a = refl
