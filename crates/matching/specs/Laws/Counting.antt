-- Counting words by their length: at each length no more than there are words, and no more than there are tags.
use Rattle.std.specs.Prelude.{◌*◌, ◌+◌, ◌<◌, ◌^◌, ◌≤◌, suc, zero, ℕ, Bool, cond, false, true, List, [], ◌∷◌, ◌⊎◌, ◌≡◌, refl, eqb, length}
use Rattle.std.proofs.Common.{inl, inr, ◌∙◌, ap, ap₂, subst, sym, le_of_eq, le_trans, mul_comm, not-suc-le-zero, pow-suc, suc-mul, arith}
use Rattle.std.proofs.Math.Decide.{ℕ_discrete}
use Rattle.std.proofs.Math.Nat.{pow-zero}
use Rattle.std.proofs.Math.Dec.{eqb_refl, eqb-suc-suc}
use Rattle.matching.specs.Laws.Bools.{decided, is_false, is_true, not-both, or_false-l, or_false-r}
use Rattle.matching.specs.Laws.Words.{Distinct, among_cases, among_head, among_hit, among-tail, eq_same, eqb_eq, same_eq, same_self}
use Rattle.matching.specs.Words.{Below, Word, among, same}

unfoldable pub tally : (Word → Bool) → List Word → ℕ
tally g [] = 0
tally g (p ∷ ps) = tally g ps + cond (g p) 1 0

-- of length d
unfoldable pub deep : ℕ → Word → Bool
deep d p = eqb (length p) d

-- f 0 + .. + f (n - 1)
unfoldable pub sum_to : ℕ → (ℕ → ℕ) → ℕ
sum_to zero f = 0
sum_to (suc n) f = sum_to n f + f n

eqb_ne : (m n : ℕ) → (m ≡ n → ⊥) → eqb m n ≡ false
eqb_ne m n h = is_false (eqb m n) (λ e. h (eqb_eq m n e))

eqb_self : (n : ℕ) → eqb n n ≡ true
eqb_self n = is_true (eqb n n) (eqb_refl n)

pub sum_mono : (n : ℕ) (f g : ℕ → ℕ) → ((i : ℕ) → i < n → f i ≤ g i) → sum_to n f ≤ sum_to n g
unfolding sum_to
sum_mono zero f g h = omega arith
sum_mono (suc n) f g h = omega (arith, sum_mono n f g (λ i hi. h i (omega arith)), h n (omega arith))

sum_zero : (n : ℕ) (f : ℕ → ℕ) → ((i : ℕ) → f i ≡ 0) → sum_to n f ≡ 0
unfolding sum_to
sum_zero zero f h = refl
sum_zero (suc n) f h = omega (arith, sum_zero n f h, h n)

sum_const : (n k : ℕ) (f : ℕ → ℕ) → ((i : ℕ) → f i ≤ k) → sum_to n f ≤ n * k
unfolding sum_to
sum_const zero k f h = omega arith
sum_const (suc n) k f h = omega (arith, sum_const n k f h, h n, suc-mul n k)

-- one place raised by k
sum_raise : (n x k : ℕ) (f g : ℕ → ℕ) → x < n → ((i : ℕ) → g i ≡ f i + cond (eqb x i) k 0) → sum_to n g ≡ sum_to n f + k
unfolding sum_to
sum_raise zero x k f g h e = absurd (not-suc-le-zero h)
sum_raise (suc n) x k f g h e = go (ℕ_discrete x n) (λ hx. sum_raise n x k f g hx e)
  where
    -- below x nothing is raised
    go : Dec (x ≡ n) → (x < n → sum_to n g ≡ sum_to n f + k) → sum_to n g + g n ≡ sum_to n f + f n + k
    go (yes q) ih = omega (arith, low n (omega arith), e n ∙ ap (λ (b : Bool). f n + cond b k 0) (ap (λ (y : ℕ). eqb y n) q ∙ eqb_self n))
      where
        low : (m : ℕ) → m ≤ x → sum_to m g ≡ sum_to m f
        low zero hm = refl
        low (suc m) hm = omega (arith, low m (omega arith), e m ∙ ap (λ (b : Bool). f m + cond b k 0) (eqb_ne x m (λ q'. omega arith)))
    go (no q) ih = omega (arith, ih (omega arith), e n ∙ ap (λ (b : Bool). f n + cond b k 0) (eqb_ne x n q))

-- ---- each word has one length

abbrev pub EachWord : (Word → Type 0) → List Word → Type 0
EachWord P [] = Unit {0}
EachWord P (p ∷ ps) = P p × EachWord P ps

pub every_of : (P : Word → Type 0) (ps : List Word) → ((v : Word) → among v ps ≡ true → P v) → EachWord P ps
every_of P [] h = tt
every_of P (p ∷ ps) h = (h p (among_head p ps), every_of P ps (λ v e. h v (among-tail v p ps e)))

pub by-depth : (D : ℕ) (ps : List Word) → EachWord (λ p. length p < D) ps → length ps ≡ sum_to D (λ d. tally (deep d) ps)
unfolding tally deep
by-depth D [] h = sym (sum_zero D (λ d. tally (deep d) []) (λ i. refl))
by-depth D (p ∷ ps) h = omega
    (arith, by-depth D ps h.1, sum_raise D (length p) 1 (λ d. tally (deep d) ps) (λ d. tally (deep d) (p ∷ ps)) h.0 (λ d. refl))

-- ---- no more than there are tags

pub deep-no : (d : ℕ) (p : Word) → (length p ≡ d → ⊥) → ◌≡◌ {A = ℕ} (cond (deep d p) 1 0) 0
unfolding deep
deep-no d p h = ap (λ (b : Bool). cond b 1 0) (eqb_ne (length p) d h)

pub one_le : (b : Bool) → cond b 1 0 ≤ 1
one_le true = omega arith
one_le false = omega arith

-- ---- no more than there are words

-- the words that begin with c, without it
unfoldable pub after : ℕ → List Word → List Word
after c [] = []
after c ([] ∷ ps) = after c ps
after c ((x ∷ w) ∷ ps) = elim (eqb x c) [ true ↦ w ∷ after c ps | false ↦ after c ps ]

after_hit : (c x : ℕ) (w : Word) (ps : List Word) → eqb x c ≡ true → after c ((x ∷ w) ∷ ps) ≡ w ∷ after c ps
unfolding after
after_hit c x w ps e = rw (e, after) refl

after_miss : (c x : ℕ) (w : Word) (ps : List Word) → eqb x c ≡ false → after c ((x ∷ w) ∷ ps) ≡ after c ps
unfolding after
after_miss c x w ps e = rw (e, after) refl

among-after : (c : ℕ) (w : Word) (ps : List Word) → among w (after c ps) ≡ true → among (c ∷ w) ps ≡ true
unfolding after among
among-after c w [] h = h
among-after c w ([] ∷ ps) h = among-tail (c ∷ w) [] ps (among-after c w ps h)
among-after c w ((x ∷ v) ∷ ps) h = go (decided (eqb x c)) (among-after c w ps)
  where
    first : eqb x c ≡ true → (same w v ≡ true) ⊎ (among w (after c ps) ≡ true) → (among w (after c ps) ≡ true → among (c ∷ w) ps ≡ true)
        → among (c ∷ w) ((x ∷ v) ∷ ps) ≡ true
    first e (inl i) ih = among_hit (c ∷ w) (x ∷ v) ps (eq_same (c ∷ w) (x ∷ v) (ap₂ ◌∷◌ (sym (eqb_eq x c e)) (same_eq w v i)))
    first e (inr i) ih = among-tail (c ∷ w) (x ∷ v) ps (ih i)

    go : (eqb x c ≡ true) ⊎ (eqb x c ≡ false) → (among w (after c ps) ≡ true → among (c ∷ w) ps ≡ true) → among (c ∷ w) ((x ∷ v) ∷ ps) ≡ true
    go (inl e) ih = first e (among_cases w v (after c ps) (sym (ap (among w) (after_hit c x v ps e)) ∙ h)) ih
    go (inr e) ih = among-tail (c ∷ w) (x ∷ v) ps (ih (sym (ap (among w) (after_miss c x v ps e)) ∙ h))

after-distinct : (c : ℕ) (ps : List Word) → Distinct ps → Distinct (after c ps)
unfolding after
after-distinct c [] d = tt
after-distinct c ([] ∷ ps) d = after-distinct c ps d.1
after-distinct c ((x ∷ w) ∷ ps) d = go (decided (eqb x c)) (after-distinct c ps d.1)
  where
    go : (eqb x c ≡ true) ⊎ (eqb x c ≡ false) → Distinct (after c ps) → Distinct (after c ((x ∷ w) ∷ ps))
    go (inl e) ih = rw (after_hit c x w ps e)
        (is_false (among w (after c ps)) (λ h. not-both (subst (λ (y : ℕ). among (y ∷ w) ps ≡ true) (sym (eqb_eq x c e)) (among-after c w ps h)) d.0), ih)
    go (inr e) ih = rw (after_miss c x w ps e) ih

after-below : (r c : ℕ) (ps : List Word) → EachWord (Below r) ps → EachWord (Below r) (after c ps)
unfolding after
after-below r c [] h = tt
after-below r c ([] ∷ ps) h = after-below r c ps h.1
after-below r c ((x ∷ w) ∷ ps) h = go (decided (eqb x c)) (after-below r c ps h.1)
  where
    go : (eqb x c ≡ true) ⊎ (eqb x c ≡ false) → EachWord (Below r) (after c ps) → EachWord (Below r) (after c ((x ∷ w) ∷ ps))
    go (inl e) ih = rw (after_hit c x w ps e) (h.0.1, ih)
    go (inr e) ih = rw (after_miss c x w ps e) ih

deep-suc : (d x : ℕ) (w : Word) → deep (suc d) (x ∷ w) ≡ deep d w
unfolding deep
deep-suc d x w = eqb-suc-suc (length w) d

after-tally : (r d : ℕ) (ps : List Word) → EachWord (Below r) ps → tally (deep (suc d)) ps ≡ sum_to r (λ c. tally (deep d) (after c ps))
unfolding tally after
after-tally r d [] h = sym (sum_zero r (λ c. tally (deep d) (after c [])) (λ c. refl))
after-tally r d ([] ∷ ps) h = omega (arith, after-tally r d ps h.1, deep-no (suc d) [] (λ e. omega arith))
after-tally r d ((x ∷ w) ∷ ps) h =
    ap₂ (λ (a : ℕ) (b : Bool). a + cond b 1 0) (after-tally r d ps h.1) (deep-suc d x w)
    ∙ sym (sum_raise r x (cond (deep d w) 1 0) (λ c. tally (deep d) (after c ps)) (λ c. tally (deep d) (after c ((x ∷ w) ∷ ps))) h.0.0 raise)
  where
    raise : (c : ℕ) → tally (deep d) (after c ((x ∷ w) ∷ ps)) ≡ tally (deep d) (after c ps) + cond (eqb x c) (cond (deep d w) 1 0) 0
    raise c = go (decided (eqb x c))
      where
        go : (eqb x c ≡ true) ⊎ (eqb x c ≡ false) → tally (deep d) (after c ((x ∷ w) ∷ ps)) ≡ tally (deep d) (after c ps) + cond (eqb x c)
            (cond (deep d w) 1 0) 0
        go (inl e) = ap (tally (deep d)) (after_hit c x w ps e) ∙ ap (λ (b : Bool). tally (deep d) (after c ps) + cond b (cond (deep d w) 1 0) 0) (sym e)
        go (inr e) = ap (tally (deep d)) (after_miss c x w ps e) ∙ omega
            (arith, ap (λ (b : Bool). tally (deep d) (after c ps) + cond b (cond (deep d w) 1 0) 0) e)

-- the empty word stands once at the most
no_empties : (ps : List Word) → among [] ps ≡ false → tally (deep 0) ps ≡ 0
unfolding tally among
no_empties [] h = refl
no_empties ([] ∷ ps) h = absurd (not-both (same_self []) (or_false-l (same [] []) (among [] ps) h))
no_empties ((x ∷ w) ∷ ps) h = omega (arith, no_empties ps (or_false-r (same [] (x ∷ w)) (among [] ps) h), deep-no 0 (x ∷ w) (λ e. omega arith))

empties : (ps : List Word) → Distinct ps → tally (deep 0) ps ≤ 1
unfolding tally
empties [] d = omega arith
empties ([] ∷ ps) d = omega (arith, no_empties ps d.0, one_le (deep 0 []))
empties ((x ∷ w) ∷ ps) d = omega (arith, empties ps d.1, deep-no 0 (x ∷ w) (λ e. omega arith))

pub tally-words : (d r : ℕ) (ps : List Word) → Distinct ps → EachWord (Below r) ps → tally (deep d) ps ≤ r ^ d
tally-words zero r ps e h = le_trans (empties ps e) (le_of_eq (sym (pow-zero r)))
tally-words (suc d) r ps e h =
    le_trans (le_of_eq (after-tally r d ps h))
    (le_trans (sum_const r (r ^ d) (λ c. tally (deep d) (after c ps)) (λ c. tally-words d r (after c ps) (after-distinct c ps e) (after-below r c ps h)))
    (le_of_eq (mul_comm r (r ^ d) ∙ sym (pow-suc r d))))
