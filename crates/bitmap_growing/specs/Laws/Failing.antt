-- Where a child fails to: where its byte leads from the failure state of its parent, over the settled slots.
use Prim.Native.Nat.{◌<◌, ◌≤◌, suc, zero, ℕ}
use Rattle.std.proofs.Math.Bool.{true}
use mathlib.Core.List.{List, [], ◌++◌, ◌∷◌, tail}
use Rattle.std.proofs.Common.{◌∙◌, arith}
use Rattle.std.specs.Prelude.{◌≡◌}
use Rattle.std.proofs.Math.Path.{ap, subst, sym}
use Rattle.std.proofs.Math.ListN.{length}
use Rattle.matching.specs.Laws.Links.{failure-child, failure-first}
use Rattle.matching.specs.Laws.Machine.{longest-among}
use Rattle.matching.specs.Laws.Words.{index_of_get_d, index_of_lt}
use Rattle.matching.specs.Machine.{failure, longest, next}
use Rattle.matching.specs.Words.{Lawful, Word, among, index_of}
use Rattle.bitmap.specs.Laws.Built.{Settled, failure-lower, led, level-first, level_tree, nonempty, word-zero}
use Rattle.bitmap.specs.Laws.Children.{forward-goes, goes}
use Rattle.bitmap.specs.Levels.{by_level}
use Rattle.bitmap.specs.Steps.{step}
use Rattle.bitmap_growing.specs.Growing.{fail_to, word_of}

module _ (ts : List Word) (l : Lawful ts) where
  abbrev ps : List Word
  ps = by_level ts

  -- a failure state is a state
  pub failure-state : (q : ℕ) → failure ps q < length ps
  unfolding failure
  failure-state q = let w : Word = longest ps (tail (word_of ts q)) in index_of_lt w ps (longest-among ps (tail (word_of ts q)) (level_tree ts l).root)

  -- any other state than the start's has a word that is not empty
  pub some_word : (q : ℕ) → q < length ps → 0 < q → (x : ℕ) × (w : Word) × (word_of ts q ≡ x ∷ w)
  some_word q hq h =
      let first : word_of ts q ≡ [] → q ≡ 0 =
      λ z. sym (index_of_get_d ps q (level_tree ts l).distinct hq) ∙ ap (λ (w : Word). index_of w ps) z ∙ level-first ts l in
      nonempty (word_of ts q) (λ z. omega (arith, h, first z))

  -- it fails to a lower one
  pub fails-lower : (q : ℕ) → q < length ps → 0 < q → failure ps q < q
  fails-lower q hq h = let r = some_word q hq h in failure-lower ts l q r.0 r.1 hq r.2

  -- and the start state to itself
  pub fails-first : failure ps 0 ≡ 0
  unfolding failure longest
  fails-first = ap (λ (w : Word). index_of (longest ps (tail w)) ps) (word-zero ts l) ∙ level-first ts l

  module _ (s : ℕ) (room : length ps ≤ s) (table : List ℕ) where
    pub failing : (q : ℕ) → Settled (suc q) ts table → (f : ℕ) → f ≡ failure ps q → (c : ℕ) → c < 256 → goes ts (word_of ts q) c ≡ true
        → fail_to q (step s table f c) ≡ failure ps (index_of (word_of ts q ++ c ∷ []) ps)
    unfolding fail_to
    failing zero held f e c hc on =
        let w : word_of ts 0 ≡ [] = word-zero ts l in
        let h : among (c ∷ []) ps ≡ true =
        subst (λ (v : Word). among (v ++ c ∷ []) ps ≡ true) w (forward-goes ts l.short l.bytes (word_of ts 0) c ∙ on) in
        sym (ap (λ (v : Word). failure ps (index_of (v ++ c ∷ []) ps)) w ∙ failure-first ps c h ∙ level-first ts l)
    failing (suc q) held f e c hc on =
        let t = level_tree ts l in
        let hq : suc q < length ps = omega (arith, held.few) in
        let r = some_word (suc q) hq (omega arith) in
        let ew : word_of ts (suc q) ≡ r.0 ∷ r.1 = r.2 in
        let low : failure ps (suc q) < suc q = fails-lower (suc q) hq (omega arith) in
        let h : among (r.0 ∷ r.1 ++ c ∷ []) ps ≡ true =
        subst (λ (v : Word). among (v ++ c ∷ []) ps ≡ true) ew (forward-goes ts l.short l.bytes (word_of ts (suc q)) c ∙ on) in
        let d = led ts l s (suc (suc q)) table room held (failure ps (suc q)) c (omega arith) hc in
        let n : failure ps (index_of (word_of ts (suc q) ++ c ∷ []) ps) ≡ next ps (failure ps (suc q)) c =
        ap (λ (v : Word). failure ps (index_of (v ++ c ∷ []) ps)) ew ∙ failure-child ps t.closed t.root (suc q) c r.0 r.1 ew h in
        ap (λ (x : ℕ). fail_to (suc q) (step s table x c)) e ∙ ap (fail_to (suc q)) d ∙ sym n
