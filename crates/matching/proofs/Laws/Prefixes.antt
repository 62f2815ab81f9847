-- The laws of `prefixes`: what the states are, and in which order.
use Rattle.std.specs.Prelude.{◌+◌, ◌<◌, ◌≤◌, suc, ℕ, ◌||◌, false, true, ◌⊎◌, ◌≡◌, refl, get_or, length}
use Rattle.std.proofs.lemmas.Bool.{false≢true}
use mathlib.Core.List.{List, [], ◌++◌, ◌∷◌, append_assoc, append-nil, concat-ne-nil}
use Rattle.std.proofs.Common.{inl, inr, ◌∙◌, ap, sym, arith, length-append}
use Rattle.matching.specs.Laws.Bools.{both_ways, decided, or_cases, or_l, or_r}
use Rattle.matching.specs.Laws.Machine.{AllAmong, Closed, vector-longest}
use Rattle.matching.specs.Laws.Words.{Distinct, Distinct_snoc, among_append, among_head, among_one, begins_append, begins-split, eq_same}
use Rattle.matching.specs.Laws.Words.{index_of_hit, same_eq, same_self, snoc_inj}
use Rattle.matching.specs.Machine.{longest, prefixes, states, vector, walk, with_prefixes, with_tags, with_word}
use Rattle.matching.specs.Words.{Word, among, begins, begins_one, index_of, same}
use Rattle.matching.specs.Laws.Prefixes.{with_word-old, with_word-new, Tree, total_length, walk_tree, word_tree, lt_tree}

-- joining, and so growing, puts words behind those that are there
with_word-more : (ps : List Word) (w : Word) → (qs : List Word) × (with_word ps w ≡ ps ++ qs)
with_word-more ps w = go (decided (among w ps))
  where
    go : (among w ps ≡ true) ⊎ (among w ps ≡ false) → (qs : List Word) × (with_word ps w ≡ ps ++ qs)
    go (inl e) = ([], with_word-old ps w e ∙ sym (append-nil ps))
    go (inr e) = (w ∷ [], with_word-new ps w e)

with_word_has : (ps : List Word) (w : Word) → among w (with_word ps w) ≡ true
with_word_has ps w = go (decided (among w ps))
  where
    go : (among w ps ≡ true) ⊎ (among w ps ≡ false) → among w (with_word ps w) ≡ true
    go (inl e) = rw (with_word-old ps w e) e
    go (inr e) = rw (with_word-new ps w e) (among_append w ps (w ∷ []) ∙ or_r (among w ps) (among w (w ∷ [])) (among_head w []))

with_word_only : (ps : List Word) (w v : Word) → among v (with_word ps w) ≡ true → (among v ps ≡ true) ⊎ (v ≡ w)
with_word_only ps w v h = go (decided (among w ps))
  where
    last : (among v ps ≡ true) ⊎ (among v (w ∷ []) ≡ true) → (among v ps ≡ true) ⊎ (v ≡ w)
    last (inl e) = inl e
    last (inr e) = inr (among_one v w e)

    go : (among w ps ≡ true) ⊎ (among w ps ≡ false) → (among v ps ≡ true) ⊎ (v ≡ w)
    go (inl e) = inl (rw (with_word-old ps w e) at h)
    go (inr e) = last (or_cases (among v ps) (among v (w ∷ [])) (sym (among_append v ps (w ∷ [])) ∙ rw (with_word-new ps w e) at h))

with_word-distinct : (ps : List Word) (w : Word) → Distinct ps → Distinct (with_word ps w)
with_word-distinct ps w d = go (decided (among w ps))
  where
    go : (among w ps ≡ true) ⊎ (among w ps ≡ false) → Distinct (with_word ps w)
    go (inl e) = rw (with_word-old ps w e) d
    go (inr e) = rw (with_word-new ps w e) (Distinct_snoc ps w d e)

with_word_keeps : (ps : List Word) (w v : Word) → among v ps ≡ true → among v (with_word ps w) ≡ true
with_word_keeps ps w v h = let m = with_word-more ps w in rw m.1 (among_append v ps m.0 ∙ or_l (among v ps) (among v m.0) h)

with_word-closed : (ps : List Word) (p : Word) (x : ℕ) → Closed ps → among p ps ≡ true → Closed (with_word ps (p ++ x ∷ []))
with_word-closed ps p x k h v c i = with_word_keeps ps (p ++ x ∷ []) v (go (with_word_only ps (p ++ x ∷ []) (v ++ c ∷ []) i))
  where
    go : (among (v ++ c ∷ []) ps ≡ true) ⊎ (v ++ c ∷ [] ≡ p ++ x ∷ []) → among v ps ≡ true
    go (inl e) = k v c e
    go (inr e) = rw (snoc_inj v p c x e) h

with_word-length : (ps : List Word) (w : Word) → length (with_word ps w) ≤ suc (length ps)
with_word-length ps w = go (decided (among w ps))
  where
    go : (among w ps ≡ true) ⊎ (among w ps ≡ false) → length (with_word ps w) ≤ suc (length ps)
    go (inl e) = rw (with_word-old ps w e) (omega arith)
    go (inr e) = rw (with_word-new ps w e) (omega (arith, length-append ps (w ∷ [])))

-- ---- one more tag

pub with_prefixes-more : (w : Word) (ps : List Word) (p : Word) → (qs : List Word) × (with_prefixes ps p w ≡ ps ++ qs)
unfolding with_prefixes
with_prefixes-more [] ps p = ([], sym (append-nil ps))
with_prefixes-more (x ∷ w) ps p =
    let a = with_word-more ps (p ++ x ∷ []) in
    let b = with_prefixes-more w (with_word ps (p ++ x ∷ [])) (p ++ x ∷ []) in
    (a.0 ++ b.0, b.1 ∙ ap {B = List Word} (λ (l : List Word). l ++ b.0) a.1 ∙ append_assoc ps a.0 b.0)

with_prefixes_keeps : (w : Word) (ps : List Word) (p v : Word) → among v ps ≡ true → among v (with_prefixes ps p w) ≡ true
with_prefixes_keeps w ps p v h = let m = with_prefixes-more w ps p in rw m.1 (among_append v ps m.0 ∙ or_l (among v ps) (among v m.0) h)

with_prefixes-distinct : (w : Word) (ps : List Word) (p : Word) → Distinct ps → Distinct (with_prefixes ps p w)
unfolding with_prefixes
with_prefixes-distinct [] ps p d = d
with_prefixes-distinct (x ∷ w) ps p d = with_prefixes-distinct w (with_word ps (p ++ x ∷ [])) (p ++ x ∷ []) (with_word-distinct ps (p ++ x ∷ []) d)

with_prefixes-closed : (w : Word) (ps : List Word) (p : Word) → Closed ps → among p ps ≡ true → Closed (with_prefixes ps p w)
unfolding with_prefixes
with_prefixes-closed [] ps p k h = k
with_prefixes-closed (x ∷ w) ps p k h = with_prefixes-closed w (with_word ps (p ++ x ∷ [])) (p ++ x ∷ []) (with_word-closed ps p x k h)
    (with_word_has ps (p ++ x ∷ []))

with_prefixes_has : (u r : Word) (ps : List Word) (p : Word) → among p ps ≡ true → among (p ++ u) (with_prefixes ps p (u ++ r)) ≡ true
unfolding with_prefixes
with_prefixes_has [] r ps p h = rw (append-nil p) (with_prefixes_keeps r ps p p h)
with_prefixes_has (x ∷ u) r ps p h =
    ap (λ (v : Word). among v (with_prefixes (with_word ps (p ++ x ∷ [])) (p ++ x ∷ []) (u ++ r))) (sym (append_assoc p (x ∷ []) u))
    ∙ with_prefixes_has u r (with_word ps (p ++ x ∷ [])) (p ++ x ∷ []) (with_word_has ps (p ++ x ∷ []))

with_prefixes_only : (w : Word) (ps : List Word) (p v : Word) → among v (with_prefixes ps p w) ≡ true
    → (among v ps ≡ true) ⊎ ((u : Word) × (r : Word) × (w ≡ u ++ r) × (v ≡ p ++ u))
unfolding with_prefixes
with_prefixes_only [] ps p v h = inl h
with_prefixes_only (x ∷ w) ps p v h = go (with_prefixes_only w (with_word ps (p ++ x ∷ [])) (p ++ x ∷ []) v h)
  where
    first : (among v ps ≡ true) ⊎ (v ≡ p ++ x ∷ []) → (among v ps ≡ true) ⊎ ((u : Word) × (r : Word) × (x ∷ w ≡ u ++ r) × (v ≡ p ++ u))
    first (inl e) = inl e
    first (inr e) = inr (x ∷ [], w, refl, e)

    go : (among v (with_word ps (p ++ x ∷ [])) ≡ true) ⊎ ((u : Word) × (r : Word) × (w ≡ u ++ r) × (v ≡ (p ++ x ∷ []) ++ u))
        → (among v ps ≡ true) ⊎ ((u : Word) × (r : Word) × (x ∷ w ≡ u ++ r) × (v ≡ p ++ u))
    go (inl e) = first (with_word_only ps (p ++ x ∷ []) v e)
    go (inr e) = inr (x ∷ e.0, e.1, ap {B = Word} (λ (l : Word). x ∷ l) e.2, e.3 ∙ append_assoc p (x ∷ []) e.0)

with_prefixes-length : (w : Word) (ps : List Word) (p : Word) → length (with_prefixes ps p w) ≤ length ps + length w
unfolding with_prefixes
with_prefixes-length [] ps p = omega arith
with_prefixes-length (x ∷ w) ps p = omega (arith, with_prefixes-length w (with_word ps (p ++ x ∷ [])) (p ++ x ∷ []), with_word-length ps (p ++ x ∷ []))

-- ---- all the tags

tree_nil : Tree ([] ∷ [])
unfolding among
tree_nil = record { root = among_head [] []; closed = λ w c h. absurd (concat-ne-nil c w (among_one (w ++ c ∷ []) [] h)); distinct = (refl, tt) }

tree_with_prefixes : (w : Word) (ps : List Word) → Tree ps → Tree (with_prefixes ps [] w)
tree_with_prefixes w ps t =
    record {
      root = with_prefixes_keeps w ps [] [] t.root;
      closed = with_prefixes-closed w ps [] t.closed t.root;
      distinct =
          with_prefixes-distinct w ps [] t.distinct;
    }

tree_with_tags : (ts ps : List Word) → Tree ps → Tree (with_tags ps ts)
unfolding with_tags
tree_with_tags [] ps t = t
tree_with_tags (w ∷ ts) ps t = tree_with_tags ts (with_prefixes ps [] w) (tree_with_prefixes w ps t)

pub tree : (ts : List Word) → Tree (prefixes ts)
unfolding prefixes
tree ts = tree_with_tags ts ([] ∷ []) tree_nil

with_tags-more : (ts ps : List Word) → (qs : List Word) × (with_tags ps ts ≡ ps ++ qs)
unfolding with_tags
with_tags-more [] ps = ([], sym (append-nil ps))
with_tags-more (w ∷ ts) ps =
    let a = with_prefixes-more w ps [] in
    let b = with_tags-more ts (with_prefixes ps [] w) in
    (a.0 ++ b.0, b.1 ∙ ap {B = List Word} (λ (l : List Word). l ++ b.0) a.1 ∙ append_assoc ps a.0 b.0)

with_tags_keeps : (ts ps : List Word) (v : Word) → among v ps ≡ true → among v (with_tags ps ts) ≡ true
with_tags_keeps ts ps v h = let m = with_tags-more ts ps in rw m.1 (among_append v ps m.0 ∙ or_l (among v ps) (among v m.0) h)

with_tags_has : (ts ps : List Word) (v : Word) → among [] ps ≡ true → begins_one v ts ≡ true → among v (with_tags ps ts) ≡ true
unfolding with_tags begins_one
with_tags_has [] ps v h e = absurd (false≢true e)
with_tags_has (w ∷ ts) ps v h e = go (or_cases (begins v w) (begins_one v ts) e) (with_tags_has ts (with_prefixes ps [] w) v (with_prefixes_keeps w ps [] [] h))
  where
    go : (begins v w ≡ true) ⊎ (begins_one v ts ≡ true) → (begins_one v ts ≡ true → among v (with_tags (with_prefixes ps [] w) ts) ≡ true)
        → among v (with_tags (with_prefixes ps [] w) ts) ≡ true
    go (inl i) ih = let r = begins-split v w i in with_tags_keeps ts (with_prefixes ps [] w) v (rw r.1 (with_prefixes_has v r.0 ps [] h))
    go (inr i) ih = ih i

with_tags_only : (ts ps : List Word) (v : Word) → among v (with_tags ps ts) ≡ true → (among v ps ≡ true) ⊎ (begins_one v ts ≡ true)
unfolding with_tags begins_one
with_tags_only [] ps v e = inl e
with_tags_only (w ∷ ts) ps v e = go (with_tags_only ts (with_prefixes ps [] w) v e)
  where
    first : (among v ps ≡ true) ⊎ ((u : Word) × (r : Word) × (w ≡ u ++ r) × (v ≡ u)) → (among v ps ≡ true) ⊎ ((begins v w || begins_one v ts) ≡ true)
    first (inl i) = inl i
    first (inr i) = inr (or_l (begins v w) (begins_one v ts) (rw (i.2, i.3) (begins_append i.0 i.1)))

    go : (among v (with_prefixes ps [] w) ≡ true) ⊎ (begins_one v ts ≡ true) → (among v ps ≡ true) ⊎ ((begins v w || begins_one v ts) ≡ true)
    go (inl i) = first (with_prefixes_only w ps [] v i)
    go (inr i) = inr (or_r (begins v w) (begins_one v ts) i)

-- the states are the prefixes of the tags, and the empty word
pub among-prefixes : (ts : List Word) (v : Word) → among v (prefixes ts) ≡ (same v [] || begins_one v ts)
unfolding prefixes
among-prefixes ts v = both_ways (among v (prefixes ts)) (same v [] || begins_one v ts) there back
  where
    first : (among v ([] ∷ []) ≡ true) ⊎ (begins_one v ts ≡ true) → (same v [] || begins_one v ts) ≡ true
    first (inl e) = or_l (same v []) (begins_one v ts) (eq_same v [] (among_one v [] e))
    first (inr e) = or_r (same v []) (begins_one v ts) e

    there : among v (prefixes ts) ≡ true → (same v [] || begins_one v ts) ≡ true
    there e = first (with_tags_only ts ([] ∷ []) v e)

    last : (same v [] ≡ true) ⊎ (begins_one v ts ≡ true) → among v (prefixes ts) ≡ true
    last (inl e) = rw (same_eq v [] e) (tree ts).root
    last (inr e) = with_tags_has ts ([] ∷ []) v (among_head [] []) e

    back : (same v [] || begins_one v ts) ≡ true → among v (prefixes ts) ≡ true
    back e = last (or_cases (same v []) (begins_one v ts) e)

-- the empty word is state 0
pub prefixes-first : (ts : List Word) → (qs : List Word) × (prefixes ts ≡ [] ∷ qs)
unfolding prefixes
prefixes-first ts = let m = with_tags-more ts ([] ∷ []) in (m.0, m.1)

pub index_of_nil : (ts : List Word) → index_of [] (prefixes ts) ≡ 0
index_of_nil ts = let m = prefixes-first ts in rw m.1 (index_of_hit [] [] m.0 (same_self []))

-- each tag is a state
tags_begin : (ts us : List Word) → ((v : Word) → begins_one v ts ≡ true → among v us ≡ true) → AllAmong ts us
unfolding begins_one
tags_begin [] us f = tt
tags_begin (t ∷ ts) us f = (
  f t (or_l (begins t t) (begins_one t ts) (ap (begins t) (sym (append-nil t)) ∙ begins_append t [])),
  tags_begin ts us
      (λ v e. f v (or_r (begins v t) (begins_one v ts) e)),
)

pub tags-among : (ts : List Word) → AllAmong ts (prefixes ts)
tags-among ts = tags_begin ts (prefixes ts) (λ v e. among-prefixes ts v ∙ or_r (same v []) (begins_one v ts) e)

-- ---- the number of states

with_tags-length : (ts ps : List Word) → length (with_tags ps ts) ≤ length ps + total_length ts
unfolding with_tags total_length
with_tags-length [] ps = omega arith
with_tags-length (t ∷ ts) ps = omega (arith, with_tags-length ts (with_prefixes ps [] t), with_prefixes-length t ps [])

pub states_le : (ts : List Word) → states ts ≤ suc (total_length ts)
unfolding states prefixes
states_le ts = omega (arith, with_tags-length ts ([] ∷ []))

-- ---- the run of a machine, whatever the order of its states, if the empty word is the first

module _ (ps : List Word) (t : Tree ps) (start : index_of [] ps ≡ 0) where
  -- the vector of the state after w is the set of the tags that end w
  pub vector_tree : (ts : List Word) → AllAmong ts ps → (w : Word) → vector ts (get_or ps (walk ps 0 w) []) ≡ vector ts w
  vector_tree ts k w = ap (vector ts) (word_tree ps t start w) ∙ vector-longest ts ps w k

-- ---- the machine of the tags

pub walk-prefixes : (ts : List Word) (w : Word) → walk (prefixes ts) 0 w ≡ index_of (longest (prefixes ts) w) (prefixes ts)
walk-prefixes ts w = walk_tree (prefixes ts) (tree ts) (index_of_nil ts) w

pub walk_lt : (ts : List Word) (w : Word) → walk (prefixes ts) 0 w < states ts
unfolding states
walk_lt ts w = lt_tree (prefixes ts) (tree ts) (index_of_nil ts) w

-- there is a start state
pub states-some : (ts : List Word) → 0 < states ts
states-some ts = omega (arith, walk_lt ts [])

pub vector-walk : (ts : List Word) (w : Word) → vector ts (get_or (prefixes ts) (walk (prefixes ts) 0 w) []) ≡ vector ts w
vector-walk ts w = vector_tree (prefixes ts) (tree ts) (index_of_nil ts) ts (tags-among ts) w
