-- Serving all tickets: one after another, and then the replacements that are left.
use Prim.Native.Nat.{◌+◌, ◌-◌, ◌<◌, ◌≤◌, suc, zero, ℕ}
use Rattle.std.specs.Prelude.{false, ◌≡◌}
use mathlib.Core.List.{List, [], ◌++◌, ◌∷◌, append_assoc, append-nil}
use Rattle.std.proofs.Common.{◌∙◌, ap₂, subst, le_of_eq, le_trans, lt_of_le_of_lt, zero-add, arith, get_or-drop, get_or-take, length-take-le}
use Rattle.std.proofs.Math.Path.{ap, refl, subst₂, sym}
use Rattle.std.proofs.Math.ListN.{drop, get_or, length, length-append, length-drop, take}
use Rattle.std.proofs.Math.Seq.{get_or_at, take_all, take-append_seam}
use Rattle.desk.specs.Rooms.{serial_of}
use Rattle.desk.specs.declared.Serial.{Serial}
use Rattle.history.specs.History.{Account, account_at, grown, lives, new_account, no_account, Replacement, run, start, with_bytes, World}
use Rattle.history.specs.Laws.Becomes.{AllFine, Becomes, becomes_append, becomes_sound, replaced-all}
use Rattle.history.specs.Laws.Invariant.{Kept, inv_start}
use Rattle.history.specs.Laws.Ledger.{Fine, ledger_start, no_order, tags_of_order}
use Rattle.history.specs.Laws.LedgerSteps.{SoundLeft}
use Rattle.history.specs.Laws.Serving.{at-fed_pieces, at-shut_if}
use Rattle.history.specs.Laws.Snoc.{snoc_length}
use Rattle.history.specs.Laws.Stages.{opened_one}
use Rattle.history.specs.Served.{called, fed_pieces, joined, served_all, served_one, serving, shut_if, then}
use Rattle.matching.specs.Words.{Below, Word}
use Rattle.desk.specs.Reached.{Call, call_open}
use Rattle.desk.specs.Layout.{Kind}
use Rattle.matching.specs.Limits.{largest}
use Rattle.desk.specs.Limits.{most_tickets}

take_none : (n : ℕ) → take {A = Replacement} n [] ≡ []
take_none zero = refl
take_none (suc n) = refl

take_more : (m n : ℕ) (l : List Replacement) → take m l ++ take n (drop m l) ≡ take (m + n) l
take_more zero n l = ap (λ (x : ℕ). take x l) (sym (zero-add n))
take_more (suc m) n [] = take_none n ∙ sym (take_none (suc m + n))
take_more (suc m) n (x ∷ l) =
    let q : suc (m + n) ≡ suc m + n = omega arith in
    ap {B = List Replacement} (λ (y : List Replacement). x ∷ y) (take_more m n l) ∙ ap {B = List Replacement} (λ (k : ℕ). take k (x ∷ l)) q

-- what a history says of the account behind some others
pub record Ready (os : List Replacement) (pre : List Account) (a : Account) : Type 0 where
  pub serial : a.serial ≡ suc (length pre)
  pub from : 0 < a.edition
  pub upto : a.edition ≤ length os
  pub tags : (e : ℕ) → a.edition ≡ suc e → a.tags ≡ tags_of_order (get_or os e no_order)
  pub bytes : Below 256 a.bytes
  pub small : length a.bytes ≤ largest
  pub roomy : lives pre < most_tickets
  pub count : length pre < largest

module _ (os : List Replacement) (fine : AllFine os) (few : length os ≤ largest) where
  -- the accounts of pre were served, and the replacements of their editions were made
  pub record SoFar (w : World) (pre : List Account) : Type 0 where
    pub sound : SoundLeft w
    pub accounts : w.accounts ≡ pre
    pub orders : w.orders ≡ take w.edition os
    pub low : w.edition ≤ length os

  some_fine : (m n : ℕ) → m + n ≤ length os → AllFine (take n (drop m os))
  some_fine m n h e k =
      subst Fine (sym (get_or-take n (drop m os) e no_order (omega (arith, k, length-take-le n (drop m os) (omega (arith, length-drop m os))))
      ∙ get_or-drop m os e no_order))
      (fine (m + e) (omega (arith, k, h, length-take-le n (drop m os) (omega (arith, length-drop m os)))))

  -- the replacements from the edition in force up to another
  to-edition : (w : World) (pre : List Account) → SoFar w pre → (e : ℕ) → w.edition ≤ e → e ≤ length os
      → Becomes w (called (take (e - w.edition) (drop w.edition os))) (take e os) pre
  to-edition w pre s e low high =
      let p = replaced-all (take (e - w.edition) (drop w.edition os)) w s.sound (some_fine w.edition (e - w.edition) (omega arith))
      (omega (arith, few, length-take-le (e - w.edition) (drop w.edition os) (omega (arith, length-drop w.edition os)))) in
      let sum : w.edition + (e - w.edition) ≡ e = omega arith in
      let q : w.orders ++ take (e - w.edition) (drop w.edition os) ≡ take e os =
      ap {B = List Replacement} (λ (l : List Replacement). l ++ take (e - w.edition) (drop w.edition os)) s.orders
      ∙ take_more w.edition (e - w.edition) os ∙ ap (λ (n : ℕ). take n os) sum in
      subst₂ (λ (l : List Replacement) (x : List Account). Becomes w (called (take (e - w.edition) (drop w.edition os))) l x) q s.accounts p

  -- a world in which so many replacements were made is under that edition, and under its tags
  edition-is : (w : World) → SoundLeft w → (e : ℕ) → e ≤ length os → w.orders ≡ take e os → w.edition ≡ e
  edition-is w s e h q = sym s.ledger.editions ∙ ap {B = ℕ} length q ∙ length-take-le e os h

  tags_are : (w : World) → SoundLeft w → (e : ℕ) → suc e ≤ length os → w.orders ≡ take (suc e) os → w.tags ≡ tags_of_order (get_or os e no_order)
  tags_are w s e h q =
      (s.ledger.last e (edition-is w s (suc e) h q)).tags
      ∙ ap (λ (l : List Replacement). tags_of_order (get_or l e no_order)) q ∙ ap tags_of_order (get_or-take (suc e) os e no_order (omega arith))

  at-served_one : (w : World) (pre : List Account) (a : Account) → SoFar w pre → Ready os pre a → w.edition ≤ a.edition → (ps : List Word)
      → joined ps ≡ a.bytes
      → Becomes w (served_one os a ps w) (take a.edition os) (pre ++ a ∷ [])
  at-served_one w pre a s r low ps bytes =
      becomes_append w first (then (λ v. call_open ∷ []) (then (fed_pieces n ps) (shut_if a.closed n)) w1) _ _ _ _ one
      (becomes_append w1 (call_open ∷ []) (then (fed_pieces n ps) (shut_if a.closed n) w2) _ _ _ _ two
      (becomes_append w2 (fed_pieces n ps w2) (shut_if a.closed n w3) _ _ _ _ three four))
    where
      n : Serial
      n = serial_of a.serial

      first : List Call
      first = called (take (a.edition - w.edition) (drop w.edition os))

      one : Becomes w first (take a.edition os) pre
      one = to-edition w pre s a.edition low r.upto

      w1 : World
      w1 = run w first

      s1 : SoundLeft w1
      s1 = becomes_sound w first _ _ s.sound one

      e1 : w1.edition ≡ a.edition
      e1 = edition-is w1 s1 a.edition r.upto one.orders_are

      -- the account as it is opened
      a0 : Account
      a0 = record { serial = a.serial; edition = a.edition; tags = a.tags; bytes = []; closed = false }

      t1 : w1.tags ≡ a.tags
      t1 = go a.edition refl
        where
          go : (e : ℕ) → a.edition ≡ e → w1.tags ≡ a.tags
          go zero q = absurd (omega (arith, q, r.from))
          go (suc e) q = tags_are w1 s1 e (omega (arith, q, r.upto)) (one.orders_are ∙ ap (λ (m : ℕ). take m os) q) ∙ sym (r.tags e q)

      is_a0 : new_account w1 (suc (length w1.accounts)) ≡ a0
      is_a0 = λ d. record {
        serial = (ap {B = ℕ} (λ (l : List Account). suc (length l)) one.accounts_are ∙ sym r.serial) d;
        edition = e1 d;
        tags =
            t1 d;
        bytes = [];
        closed = false;
      }

      two : Becomes w1 (call_open ∷ []) (take a.edition os) (pre ++ a0 ∷ [])
      two =
          subst₂ (λ (l : List Replacement) (x : List Account). Becomes w1 (call_open ∷ []) l x) one.orders_are
          (ap₂ (λ (x : List Account) (y : Account). x ++ y ∷ []) one.accounts_are is_a0)
          (opened_one w1 s1 (omega (arith, e1, r.from)) (omega (arith, r.count, ap {B = ℕ} length one.accounts_are))
          (lt_of_le_of_lt (le_of_eq (ap lives one.accounts_are)) r.roomy))

      w2 : World
      w2 = run w1 (call_open ∷ [])

      s2 : SoundLeft w2
      s2 = becomes_sound w1 (call_open ∷ []) _ _ s1 two

      e2 : w2.edition ≡ a.edition
      e2 = edition-is w2 s2 a.edition r.upto two.orders_are

      a1 : Account
      a1 = grown (joined ps) a0

      three : Becomes w2 (fed_pieces n ps w2) (take a.edition os) (pre ++ a1 ∷ [])
      three =
          subst (λ (l : List Replacement). Becomes w2 (fed_pieces n ps w2) l (pre ++ a1 ∷ [])) two.orders_are
          (at-fed_pieces ps w2 pre a0 (record { sound = s2; accounts = two.accounts_are; live = refl; now = sym e2 })
          (subst (λ (b : Word). Below 256 b) (sym bytes) r.bytes) (le_trans (omega arith) (le_trans (le_of_eq (ap {B = ℕ} length bytes)) r.small)))

      w3 : World
      w3 = run w2 (fed_pieces n ps w2)

      s3 : SoundLeft w3
      s3 = becomes_sound w2 (fed_pieces n ps w2) _ _ s2 three

      four : Becomes w3 (shut_if a.closed n w3) (take a.edition os) (pre ++ a ∷ [])
      four =
          subst₂ (λ (l : List Replacement) (b : Word). Becomes w3 (shut_if a.closed n w3) l
          (pre ++ with_bytes a b ∷ []))
          three.orders_are bytes
          (at-shut_if a.closed w3 pre a1
          (record { sound = s3; accounts = three.accounts_are; live = refl; now = sym (edition-is w3 s3 a.edition r.upto three.orders_are) }))

  -- the accounts rest, behind those of pre; L is all of them
  pub at-served_all : (L : List Account) → ((pre : List Account) (a : Account) (rest : List Account) → L ≡ pre ++ a ∷ rest → Ready os pre a)
      → ((i j : ℕ) → i ≤ j → j < length L → (get_or L i no_account).edition ≤ (get_or L j no_account).edition)
      → (cut : ℕ → List Word) → ((k : ℕ) → k < length L → joined (cut k) ≡ (get_or L k no_account).bytes)
      → (rest : List Account) (w : World) (pre : List Account) → L ≡ pre ++ rest → SoFar w pre
      → ((k : ℕ) → length pre ≤ k → k < length L → w.edition ≤ (get_or L k no_account).edition)
      → Becomes w (served_all os cut (length pre) rest w) os L
  unfolding served_all
  at-served_all L ready rising cut cuts [] w pre q s above =
      let p = to-edition w pre s (length os) s.low (omega arith) in
      let m : take (length os - w.edition) (drop w.edition os) ≡ drop w.edition os =
      take_all (length os - w.edition) (drop w.edition os) (omega (arith, length-drop w.edition os)) in
      subst₂ (λ (l : List Replacement) (x : List Account). Becomes w (called (drop w.edition os)) l x) (take_all (length os) os (omega arith))
      (sym (append-nil pre) ∙ sym q)
      (subst (λ (l : List Replacement). Becomes w (called l) (take (length os) os) pre) m p)
  at-served_all L ready rising cut cuts (a ∷ rest) w pre q s above =
      let k = length pre in
      let inside : k < length L = omega (arith, ap {B = ℕ} length q, length-append pre (a ∷ rest)) in
      let here : get_or L k no_account ≡ a = ap (λ (l : List Account). get_or l k no_account) q ∙ get_or_at pre a rest no_account k refl in
      let r = ready pre a rest q in
      let one = at-served_one w pre a s r (le_trans (above k (omega arith) inside) (le_of_eq (ap (λ (x : Account). x.edition) here)))
      (cut k) (cuts k inside ∙ ap (λ (x : Account). x.bytes) here) in
      let w1 = run w (served_one os a (cut k) w) in
      let s1 = becomes_sound w (served_one os a (cut k) w) _ _ s.sound one in
      let e1 = edition-is w1 s1 a.edition r.upto one.orders_are in
      let so : SoFar w1 (pre ++ a ∷ []) =
      record { sound = s1; accounts = one.accounts_are; orders = one.orders_are ∙ ap (λ (n : ℕ). take n os) (sym e1); low = omega (arith, e1, r.upto) } in
      let n : length (pre ++ a ∷ []) ≡ suc k = snoc_length pre a no_account in
      let more = at-served_all L ready rising cut cuts rest w1 (pre ++ a ∷ []) (q ∙ sym (append_assoc pre (a ∷ []) rest)) so
      (λ j l h. omega (arith, e1, rising k j (omega (arith, l, n)) h, ap (λ (x : Account). x.edition) here)) in
      becomes_append w (served_one os a (cut k) w) (served_all os cut (suc k) rest w1) _ _ _ _ one
      (subst (λ (j : ℕ). Becomes w1 (served_all os cut j rest w1) os L) n more)

-- what a sound world says of the account behind some others
ready : (w : World) → SoundLeft w → (pre : List Account) (a : Account) (rest : List Account) → w.accounts ≡ pre ++ a ∷ rest → Ready w.orders pre a
ready w s pre a rest q =
    let k = length pre in
    let inside : k < length w.accounts = omega (arith, ap {B = ℕ} length q, length-append pre (a ∷ rest)) in
    let here : account_at w k ≡ a = ap (λ (l : List Account). get_or l k no_account) q ∙ get_or_at pre a rest no_account k refl in
    let kept = subst (λ (x : Account). Kept w.edition w.tags x) here (s.inv.kept k inside) in
    record {
      serial = ap (λ (x : Account). x.serial) (sym here) ∙ s.inv.numbered k inside;
      from = kept.from;
      upto = omega (arith, kept.upto, s.ledger.editions);
      tags = λ e h. ap (λ (x : Account). x.tags) (sym here) ∙ s.ledger.account-tags k inside e (ap (λ (x : Account). x.edition) here ∙ h);
      bytes = kept.bytes;
      small = kept.small;
      roomy = subst (λ (l : List Account). lives l < most_tickets) (ap (take k) q ∙ take-append_seam pre (a ∷ rest)) (s.ledger.roomy k inside);
      count = omega (arith, inside, s.ledger.few-serials);
    }

-- SERVING the tickets of a sound world brings its orders and its accounts
pub served : (kind : Kind) (w : World) → SoundLeft w → (cut : ℕ → List Word) → ((k : ℕ) → k < length w.accounts → joined (cut k) ≡ (account_at w k).bytes)
    → Becomes (start kind) (serving kind cut w) w.orders w.accounts
served kind w s cut cuts =
    at-served_all w.orders s.ledger.fine (le_trans (le_of_eq s.ledger.editions) s.ledger.few-editions) w.accounts (ready w s)
    s.ledger.rising cut cuts
    w.accounts (start kind) [] refl
    (record { sound = record { inv = inv_start kind; ledger = ledger_start kind }; accounts = refl; orders = refl; low = omega arith }) (λ k l h. omega arith)
