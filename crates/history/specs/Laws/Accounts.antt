-- The laws of accounts.
use Rattle.std.specs.Prelude.{◌<◌, suc, zero, ℕ, Bool, cond, false, true, [], ◌++◌, ◌∷◌, List, ◌≡◌, refl, eqb, get_or, length}
use Rattle.std.proofs.Common.{append_assoc, append-nil, ◌∙◌, ap, ap₂, arith}
use Rattle.std.proofs.Math.Dec.{eqb_refl}
use Rattle.history.specs.History.{Account, grown, no_account, on_serial, with_bytes}
use Rattle.matching.specs.Laws.Bools.{is_false, is_true}
use Rattle.matching.specs.Laws.Words.{eqb_eq}
use Rattle.matching.specs.Words.{Word}

-- ---- the account of a serial changed

pub on_serial-length : (n : ℕ) (f : Account → Account) (l : List Account) → length (on_serial n f l) ≡ length l
unfolding on_serial
on_serial-length n f [] = refl
on_serial-length n f (a ∷ l) = ap suc (on_serial-length n f l)

on_serial-at : (n : ℕ) (f : Account → Account) (l : List Account) (k : ℕ) → k < length l
    → get_or (on_serial n f l) k no_account ≡ cond (eqb (get_or l k no_account).serial n) (f (get_or l k no_account)) (get_or l k no_account)
unfolding on_serial
on_serial-at n f [] k h = absurd (omega arith)
on_serial-at n f (a ∷ l) zero h = refl
on_serial-at n f (a ∷ l) (suc k) h = on_serial-at n f l k (omega arith)

pub on_serial_hit : (n : ℕ) (f : Account → Account) (l : List Account) (k : ℕ) → k < length l → (get_or l k no_account).serial ≡ n
    → get_or (on_serial n f l) k no_account ≡ f (get_or l k no_account)
on_serial_hit n f l k h e =
    on_serial-at n f l k h ∙ ap (λ (b : Bool). cond b (f (get_or l k no_account)) (get_or l k no_account))
    (is_true (eqb (get_or l k no_account).serial n) (rw e (eqb_refl n)))

pub on_serial_miss : (n : ℕ) (f : Account → Account) (l : List Account) (k : ℕ) → k < length l → ((get_or l k no_account).serial ≡ n → ⊥)
    → get_or (on_serial n f l) k no_account ≡ get_or l k no_account
on_serial_miss n f l k h e =
    on_serial-at n f l k h ∙ ap (λ (b : Bool). cond b (f (get_or l k no_account)) (get_or l k no_account))
    (is_false (eqb (get_or l k no_account).serial n) (λ q. e (eqb_eq (get_or l k no_account).serial n q)))

-- ---- an account with no more bytes, and with more twice

pub grown-nothing : (a : Account) → grown [] a ≡ a
grown-nothing a = ap {B = Account} (with_bytes a) (append-nil a.bytes)

pub grown-more : (a : Account) (x y : Word) → grown y (grown x a) ≡ grown (x ++ y) a
grown-more a x y = ap {B = Account} (with_bytes a) (append_assoc a.bytes x y)

pub grown-none : (n : ℕ) (l : List Account) → on_serial n (grown []) l ≡ l
unfolding on_serial
grown-none n [] = refl
grown-none n (a ∷ l) = go (eqb a.serial n) (grown-none n l)
  where
    go : (t : Bool) → on_serial n (grown []) l ≡ l → (cond t (grown [] a) a ∷ on_serial n (grown []) l) ≡ (a ∷ l)
    go true ih = ap₂ (λ (b : Account) (k : List Account). b ∷ k) (grown-nothing a) ih
    go false ih = ap (λ (k : List Account). a ∷ k) ih

pub grown_twice : (n : ℕ) (x y : Word) (l : List Account) → on_serial n (grown y) (on_serial n (grown x) l) ≡ on_serial n (grown (x ++ y)) l
unfolding on_serial
grown_twice n x y [] = refl
grown_twice n x y (a ∷ l) = go (eqb a.serial n) refl (grown_twice n x y l)
  where
    go : (t : Bool) → eqb a.serial n ≡ t → on_serial n (grown y) (on_serial n (grown x) l) ≡ on_serial n (grown (x ++ y)) l
        → on_serial n (grown y) (on_serial n (grown x) (a ∷ l)) ≡ on_serial n (grown (x ++ y)) (a ∷ l)
    go true e ih = rw (e, e) (ap₂ (λ (b : Account) (k : List Account). b ∷ k) (grown-more a x y) ih)
    go false e ih = rw (e, e) (ap (λ (k : List Account). a ∷ k) ih)
