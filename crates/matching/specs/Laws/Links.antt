-- Children and failure links: how a builder finds the nexts.
use Rattle.std.specs.Prelude.{◌<◌, ℕ, Bool, false, true, ◌⊎◌, ◌≡◌, refl, get_or, length}
use mathlib.Core.List.{List, [], ◌++◌, ◌∷◌, tail}
use Rattle.std.proofs.Common.{inl, inr, ◌∙◌, ap, sym, arith, length-append}
use Rattle.std.proofs.Math.ListN.{get_or-append}
use Rattle.std.proofs.Math.Seq.{get_or-append_seam}
use Rattle.matching.specs.Laws.Bools.{decided, is_false, not-both, or_false, or_l, or_r}
use Rattle.matching.specs.Laws.Machine.{Closed, fail-step, longest-among, longest_hit, longest_nil, next-longest}
use Rattle.matching.specs.Laws.Words.{Distinct, among_append, among_head, among_one, get_d_index_of, index_of_append, index_of_get_d, index_of-new, snoc_inj}
use Rattle.matching.specs.Laws.Words.{snoc_last}
use Rattle.matching.specs.Machine.{longest, next}
unfoldable pub use Rattle.matching.specs.Machine.{failure}
use Rattle.matching.specs.Words.{Word, among, index_of}

-- ---- a child, or the failure link

-- a letter that leads to a child
pub next-child : (ps : List Word) (s c : ℕ) → among (get_or ps s [] ++ c ∷ []) ps ≡ true → next ps s c ≡ index_of (get_or ps s [] ++ c ∷ []) ps
unfolding next
next-child ps s c h = ap (λ (w : Word). index_of w ps) (whole (get_or ps s [] ++ c ∷ []) h)
  where
    whole : (w : Word) → among w ps ≡ true → longest ps w ≡ w
    whole [] e = longest_nil ps
    whole (x ∷ w) e = longest_hit ps x w e

-- any other leads where it leads from the failure state
pub next-failure : (ps : List Word) → Closed ps → among [] ps ≡ true → (s c : ℕ) (x : ℕ) (p : Word) → get_or ps s [] ≡ x ∷ p
    → among (x ∷ p ++ c ∷ []) ps ≡ false → next ps s c ≡ next ps (failure ps s) c
unfolding next failure
next-failure ps k h s c x p e f =
    ap (λ (w : Word). index_of (longest ps (w ++ c ∷ [])) ps) e
    ∙ ap (λ (w : Word). index_of w ps) (fail-step ps k x p c f)
    ∙ ap (λ (w : Word). index_of (longest ps (w ++ c ∷ [])) ps)
    (sym (get_d_index_of (longest ps p) ps (longest-among ps p h))
    ∙ ap (λ (w : Word). get_or ps (index_of (longest ps (tail w)) ps) []) (sym e))

-- ---- children

unfoldable pub child : List Word → ℕ → ℕ → ℕ
child ps s c = elim (among (get_or ps s [] ++ c ∷ []) ps) [ true ↦ index_of (get_or ps s [] ++ c ∷ []) ps | false ↦ 0 ]

pub child-is : (ps : List Word) (s c : ℕ) → among (get_or ps s [] ++ c ∷ []) ps ≡ true → child ps s c ≡ index_of (get_or ps s [] ++ c ∷ []) ps
unfolding child
child-is ps s c e = rw (e, child) refl

pub child-none : (ps : List Word) (s c : ℕ) → among (get_or ps s [] ++ c ∷ []) ps ≡ false → child ps s c ≡ 0
unfolding child
child-none ps s c e = rw (e, child) refl

-- a new word behind the others, the child of state q on d: its number is their count
pub child-new : (ps : List Word) (q d : ℕ) → q < length ps → among (get_or ps q [] ++ d ∷ []) ps ≡ false
    → child (ps ++ (get_or ps q [] ++ d ∷ []) ∷ []) q d ≡ length ps
child-new ps q d hq h =
    child-is (ps ++ w ∷ []) q d
    (ap (λ (v : Word). among (v ++ d ∷ []) (ps ++ w ∷ [])) same_word ∙ among_append w ps (w ∷ []) ∙ or_r (among w ps) (among w (w ∷ [])) (among_head w []))
    ∙ ap (λ (v : Word). index_of (v ++ d ∷ []) (ps ++ w ∷ [])) same_word ∙ index_of-new w ps [] h
  where
    w : Word
    w = get_or ps q [] ++ d ∷ []

    same_word : get_or (ps ++ w ∷ []) q [] ≡ get_or ps q []
    same_word = get_or-append ps (w ∷ []) [] q hq

-- the others keep their children
pub child-kept : (ps : List Word) (q d : ℕ) → Distinct ps → q < length ps → among (get_or ps q [] ++ d ∷ []) ps ≡ false
    → (s c : ℕ) → s < length ps → ((s ≡ q) × (c ≡ d) → ⊥) → child (ps ++ (get_or ps q [] ++ d ∷ []) ∷ []) s c ≡ child ps s c
child-kept ps q d u hq h s c hs other = go (decided (among v ps))
  where
    w : Word
    w = get_or ps q [] ++ d ∷ []

    v : Word
    v = get_or ps s [] ++ c ∷ []

    same_word : get_or (ps ++ w ∷ []) s [] ≡ get_or ps s []
    same_word = get_or-append ps (w ∷ []) [] s hs

    differ : v ≡ w → ⊥
    differ e = other (
      sym (index_of_get_d ps s u hs) ∙ ap (λ (x : Word). index_of x ps) (snoc_inj (get_or ps s []) (get_or ps q []) c d e)
          ∙ index_of_get_d ps q u hq,
      snoc_last (get_or ps s []) (get_or ps q []) c d e,
    )

    not_new : among v (w ∷ []) ≡ false
    not_new = is_false (among v (w ∷ [])) (λ i. differ (among_one v w i))

    old : (b : Bool) → among v ps ≡ b → among (get_or (ps ++ w ∷ []) s [] ++ c ∷ []) (ps ++ w ∷ []) ≡ b
    old true i = ap (λ (x : Word). among (x ++ c ∷ []) (ps ++ w ∷ [])) same_word ∙ among_append v ps (w ∷ []) ∙ or_l (among v ps) (among v (w ∷ [])) i
    old false i = ap (λ (x : Word). among (x ++ c ∷ []) (ps ++ w ∷ [])) same_word ∙ among_append v ps (w ∷ [])
        ∙ or_false (among v ps) (among v (w ∷ [])) i not_new

    go : (among v ps ≡ true) ⊎ (among v ps ≡ false) → child (ps ++ w ∷ []) s c ≡ child ps s c
    go (inl i) =
        child-is (ps ++ w ∷ []) s c (old true i) ∙ ap (λ (x : Word). index_of (x ++ c ∷ []) (ps ++ w ∷ [])) same_word
        ∙ index_of_append v ps (w ∷ []) i ∙ sym (child-is ps s c i)
    go (inr i) = child-none (ps ++ w ∷ []) s c (old false i) ∙ sym (child-none ps s c i)

-- and the new one has none
pub child_leaf : (ps : List Word) (w : Word) → Closed ps → among w ps ≡ false → (c : ℕ) → child (ps ++ w ∷ []) (length ps) c ≡ 0
child_leaf ps w k h c = child-none (ps ++ w ∷ []) (length ps) c (ap (λ (x : Word). among (x ++ c ∷ []) (ps ++ w ∷ [])) (get_or-append_seam ps w [] []) ∙ gone)
  where
    gone : among (w ++ c ∷ []) (ps ++ w ∷ []) ≡ false
    gone =
        among_append (w ++ c ∷ []) ps (w ∷ [])
        ∙ or_false (among (w ++ c ∷ []) ps) (among (w ++ c ∷ []) (w ∷ []))
        (is_false (among (w ++ c ∷ []) ps) (λ i. not-both (k w c i) h))
        (is_false (among (w ++ c ∷ []) (w ∷ [])) (λ i. omega (arith, ap {B = ℕ} length (among_one (w ++ c ∷ []) w i), length-append w (c ∷ []))))

-- ---- failure links

-- the failure of a child is where its letter leads from the failure
pub failure-child : (ps : List Word) → Closed ps → among [] ps ≡ true → (s c x : ℕ) (p : Word) → get_or ps s [] ≡ x ∷ p → among (x ∷ p ++ c ∷ []) ps ≡ true
    → failure ps (index_of (x ∷ p ++ c ∷ []) ps) ≡ next ps (failure ps s) c
unfolding failure
failure-child ps k h s c x p e f =
    ap (λ (w : Word). index_of (longest ps (tail w)) ps) (get_d_index_of (x ∷ p ++ c ∷ []) ps f)
    ∙ sym (next-longest ps k h p c)
    ∙ ap (λ (w : Word). next ps (index_of (longest ps (tail w)) ps) c) (sym e)

-- the children of the start state fail to it
pub failure-first : (ps : List Word) (c : ℕ) → among (c ∷ []) ps ≡ true → failure ps (index_of (c ∷ []) ps) ≡ index_of [] ps
unfolding failure
failure-first ps c f =
    ap (λ (w : Word). index_of (longest ps (tail w)) ps) (get_d_index_of (c ∷ []) ps f) ∙ ap (λ (w : Word). index_of w ps) (longest_nil ps)
