-- The laws of a machine, whatever the order of its states: the run theorem, and that a tag ends the input exactly if it ends the state.
use Rattle.std.specs.Prelude.{◌<◌, ◌≤◌, suc, ℕ, Bool, ◌||◌, false, true, List, [], ◌++◌, ◌∷◌, ◌⊎◌, ◌≡◌, refl, get_or, length}
use Rattle.std.proofs.Common.{append_assoc, append-nil, inl, inr, ◌∙◌, ap, subst, sym, le_refl, arith}
use Rattle.matching.specs.Laws.Bools.{decided, is_false, not-both}
use Rattle.matching.specs.Laws.Words.{ends_cons, ends_self, get_d_index_of, index_of_lt, ne_same}
use Rattle.matching.specs.Machine.{longest, next, vector, vector_by, walk}
use Rattle.matching.specs.Words.{Word, among, ends, index_of}

pub longest_hit : (ps : List Word) (x : ℕ) (w : Word) → among (x ∷ w) ps ≡ true → longest ps (x ∷ w) ≡ x ∷ w
unfolding longest
longest_hit ps x w e = rw (e, longest) refl

pub longest_miss : (ps : List Word) (x : ℕ) (w : Word) → among (x ∷ w) ps ≡ false → longest ps (x ∷ w) ≡ longest ps w
unfolding longest
longest_miss ps x w e = rw (e, longest) refl

pub longest_nil : (ps : List Word) → longest ps [] ≡ []
unfolding longest
longest_nil ps = refl

pub longest-among : (ps : List Word) (w : Word) → among [] ps ≡ true → among (longest ps w) ps ≡ true
longest-among ps [] h = rw (longest_nil ps) h
longest-among ps (x ∷ w) h = go (decided (among (x ∷ w) ps)) (longest-among ps w h)
  where
    go : (among (x ∷ w) ps ≡ true) ⊎ (among (x ∷ w) ps ≡ false) → among (longest ps w) ps ≡ true → among (longest ps (x ∷ w)) ps ≡ true
    go (inl e) ih = rw (longest_hit ps x w e) e
    go (inr e) ih = rw (longest_miss ps x w e) ih

pub longest-ends : (ps : List Word) (w : Word) → ends (longest ps w) w ≡ true
longest-ends ps [] = rw (longest_nil ps) (ends_self [])
longest-ends ps (x ∷ w) = go (decided (among (x ∷ w) ps)) (longest-ends ps w)
  where
    go : (among (x ∷ w) ps ≡ true) ⊎ (among (x ∷ w) ps ≡ false) → ends (longest ps w) w ≡ true → ends (longest ps (x ∷ w)) (x ∷ w) ≡ true
    go (inl e) ih = rw (longest_hit ps x w e) (ends_self (x ∷ w))
    go (inr e) ih = rw (longest_miss ps x w e) (ends_cons (longest ps w) w x ih)

-- it goes by which words there are, not by their order
pub longest-same : (ps qs : List Word) → ((v : Word) → among v ps ≡ among v qs) → (w : Word) → longest ps w ≡ longest qs w
longest-same ps qs e [] = longest_nil ps ∙ sym (longest_nil qs)
longest-same ps qs e (x ∷ w) = go (decided (among (x ∷ w) ps)) (longest-same ps qs e w)
  where
    go : (among (x ∷ w) ps ≡ true) ⊎ (among (x ∷ w) ps ≡ false) → longest ps w ≡ longest qs w → longest ps (x ∷ w) ≡ longest qs (x ∷ w)
    go (inl i) ih = longest_hit ps x w i ∙ sym (longest_hit qs x w (sym (e (x ∷ w)) ∙ i))
    go (inr i) ih = longest_miss ps x w i ∙ ih ∙ sym (longest_miss qs x w (sym (e (x ∷ w)) ∙ i))

pub longest-length : (ps : List Word) (w : Word) → length (longest ps w) ≤ length w
longest-length ps [] = rw (longest_nil ps) (le_refl 0)
longest-length ps (x ∷ w) = go (decided (among (x ∷ w) ps)) (longest-length ps w)
  where
    go : (among (x ∷ w) ps ≡ true) ⊎ (among (x ∷ w) ps ≡ false) → length (longest ps w) ≤ length w → length (longest ps (x ∷ w)) ≤ suc (length w)
    go (inl e) ih = rw (longest_hit ps x w e) (le_refl (suc (length w)))
    go (inr e) ih = rw (longest_miss ps x w e) (omega arith)

-- each word of ps but the last letter is one of ps
abbrev pub Closed : List Word → Type 0
Closed ps = (w : Word) (c : ℕ) → among (w ++ c ∷ []) ps ≡ true → among w ps ≡ true

-- THE RUN THEOREM: what a letter leads to is found from the state alone
pub longest-step : (ps : List Word) → Closed ps → (w : Word) (c : ℕ) → longest ps (w ++ c ∷ []) ≡ longest ps (longest ps w ++ c ∷ [])
longest-step ps k [] c = rw (longest_nil ps) refl
longest-step ps k (x ∷ w) c = go (decided (among (x ∷ w) ps)) (longest-step ps k w c)
  where
    go : (among (x ∷ w) ps ≡ true) ⊎ (among (x ∷ w) ps ≡ false) → longest ps (w ++ c ∷ []) ≡ longest ps (longest ps w ++ c ∷ [])
        → longest ps (x ∷ w ++ c ∷ []) ≡ longest ps (longest ps (x ∷ w) ++ c ∷ [])
    go (inl e) ih = rw (longest_hit ps x w e) refl
    go (inr e) ih =
        longest_miss ps x (w ++ c ∷ []) (is_false (among (x ∷ w ++ c ∷ []) ps) (λ h. not-both (k (x ∷ w) c h) e))
        ∙ ih ∙ ap (λ (v : Word). longest ps (v ++ c ∷ [])) (sym (longest_miss ps x w e))

-- the failure link: where p with c behind it is no word of ps, c leads where it leads from the longest proper end of p
pub fail-step : (ps : List Word) → Closed ps → (x : ℕ) (p : Word) (c : ℕ) → among (x ∷ p ++ c ∷ []) ps ≡ false
    → longest ps (x ∷ p ++ c ∷ []) ≡ longest ps (longest ps p ++ c ∷ [])
fail-step ps k x p c h = longest_miss ps x (p ++ c ∷ []) h ∙ longest-step ps k p c

-- ---- in numbers

pub next-longest : (ps : List Word) → Closed ps → among [] ps ≡ true → (v : Word) (c : ℕ)
    → next ps (index_of (longest ps v) ps) c ≡ index_of (longest ps (v ++ c ∷ [])) ps
unfolding next
next-longest ps k h v c =
    ap (λ (u : Word). index_of (longest ps (u ++ c ∷ [])) ps) (get_d_index_of (longest ps v) ps (longest-among ps v h))
    ∙ ap (λ (u : Word). index_of u ps) (sym (longest-step ps k v c))

pub walk-longest : (ps : List Word) → Closed ps → among [] ps ≡ true → (v w : Word)
    → walk ps (index_of (longest ps v) ps) w ≡ index_of (longest ps (v ++ w)) ps
unfolding walk
walk-longest ps k h v [] = ap (λ (u : Word). index_of (longest ps u) ps) (sym (append-nil v))
walk-longest ps k h v (c ∷ w) =
    ap (λ (s : ℕ). walk ps s w) (next-longest ps k h v c) ∙ walk-longest ps k h (v ++ c ∷ []) w
    ∙ ap (λ (u : Word). index_of (longest ps u) ps) (append_assoc v (c ∷ []) w)

pub walk_append : (ps : List Word) (s : ℕ) (v w : Word) → walk ps s (v ++ w) ≡ walk ps (walk ps s v) w
unfolding walk
walk_append ps s [] w = refl
walk_append ps s (c ∷ v) w = walk_append ps (next ps s c) v w

pub walk_snoc : (ps : List Word) (s : ℕ) (v : Word) (c : ℕ) → walk ps s (v ++ c ∷ []) ≡ next ps (walk ps s v) c
unfolding walk
walk_snoc ps s v c = walk_append ps s v (c ∷ [])

pub next_lt : (ps : List Word) → among [] ps ≡ true → (s c : ℕ) → next ps s c < length ps
unfolding next
next_lt ps h s c = index_of_lt (longest ps (get_or ps s [] ++ c ∷ [])) ps (longest-among ps (get_or ps s [] ++ c ∷ []) h)

-- ---- what ends the input ends the state

pub ends-longest : (ps : List Word) (t w : Word) → among t ps ≡ true → ends t (longest ps w) ≡ ends t w
unfolding ends
ends-longest ps t [] h = rw (longest_nil ps) refl
ends-longest ps t (x ∷ w) h = go (decided (among (x ∷ w) ps)) (ends-longest ps t w h)
  where
    go : (among (x ∷ w) ps ≡ true) ⊎ (among (x ∷ w) ps ≡ false) → ends t (longest ps w) ≡ ends t w → ends t (longest ps (x ∷ w)) ≡ ends t (x ∷ w)
    go (inl e) ih = rw (longest_hit ps x w e) refl
    go (inr e) ih = rw (longest_miss ps x w e)
        (ih ∙ ap (λ (b : Bool). b || ends t w) (sym (ne_same t (x ∷ w) (λ q. not-both (subst (λ (u : Word). among u ps ≡ true) q h) e))))

abbrev pub AllAmong : List Word → List Word → Type 0
AllAmong [] ps = Unit {0}
AllAmong (t ∷ ts) ps = (among t ps ≡ true) × AllAmong ts ps

pub vector-longest : (ts ps : List Word) (w : Word) → AllAmong ts ps → vector ts (longest ps w) ≡ vector ts w
unfolding vector vector_by
vector-longest [] ps w h = refl
vector-longest (t ∷ ts) ps w h = rw (ends-longest ps t w h.0, vector-longest ts ps w h.1) refl
