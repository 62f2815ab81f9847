-- Letters, and the test whether a tag ends a word.
use Prim.Native.Nat.{suc, ℕ, ◌*◌, ◌+◌, ◌-◌, ◌<◌, ◌≤◌}
use mathlib.Core.Bool.{Bool, cond, false, true, ◌&&◌}
use mathlib.Core.List.{List, [], append-nil, append_assoc, map, ◌++◌, ◌∷◌}
use mathlib.Core.Path.{ap, ap₂, refl, subst, sym, ◌∙◌, ◌≡◌}
use native.Mathlib.Numerals.{add-one}
use native.Mathlib.Omega.{arith}
use lib.ListN.{drop, drop_of_length-le, get_or, get_or-append, length, length-append, length-drop, set, take}
use lib.Pow.{pow_mono}
use lib.Seq.{append_snoc, drop-cons, get_or-append_seam, get_or-drop, take-length, take-suc, take-suc-set, take_all}
use Rattle.matching.specs.Laws.Bools.{and_both, and_l, and_r, both_ways, is_false}
use Rattle.matching.specs.Laws.Vectors.{vector_lt}
use Rattle.matching.specs.Laws.Words.{drop-ends, ends-drop, ends-split, ends_append}
use Rattle.matching.specs.Machine.{vector, vector_by}
use Rattle.matching.specs.Words.{Word, ends}
use lib.Dec.{eqb, ltb}
use borrow.Author.Tests.{eq-eqb, eqb-true, lt-ltb, ltb-true}
use mir.Val.{bool_byte}
use Rattle.machines.specs.Letters.{agree_at}

-- ---- the last letters of a word, as many as a tag has

module _ (w t : Word) (fits : length t ≤ length w) where
  abbrev last : Word
  last = take (length w - (length w - length t)) (drop (length w - length t) w)

  last-is : last ≡ drop (length w - length t) w
  last-is = take_all (length w - (length w - length t)) (drop (length w - length t) w) (omega (arith, length-drop (length w - length t) w))

  last-long : length last ≡ length t
  last-long = ap {B = ℕ} length last-is ∙ omega (arith, length-drop (length w - length t) w)

  -- before any is compared those that are left, none, are the same
  pub last-none : drop (length t) last ≡ drop (length t) t
  last-none = drop_of_length-le last {i = length t} (omega (arith, last-long)) ∙ sym (drop_of_length-le t {i = length t} (omega arith))

  -- one more that is the same
  pub last-more : (i : ℕ) → 0 < i → i ≤ length t → drop i last ≡ drop i t → get_or last (i - 1) 0 ≡ get_or t (i - 1) 0 → drop (i - 1) last ≡ drop (i - 1) t
  last-more i some most e l =
      let k : suc (i - 1) ≡ i = omega arith in
      drop-cons last (i - 1) 0 (omega (arith, last-long))
      ∙ ap₂ {C = Word} (λ (x : ℕ) (u : Word). x ∷ u) l (ap (λ (j : ℕ). drop j last) k ∙ e ∙ ap (λ (j : ℕ). drop j t) (sym k))
      ∙ sym (drop-cons t (i - 1) 0 (omega arith))

  -- one that differs, and so the tag ends no such word
  pub last-differ : (j : ℕ) → (get_or last j 0 ≡ get_or t j 0 → ⊥) → false ≡ ends t w
  last-differ j d = sym (is_false (ends t w) (λ e. d (ap (λ (l : Word). get_or l j 0) (last-is ∙ ends-drop t w e))))

  -- all of the tag's letters were the same
  pub last-all : (i : ℕ) → i ≤ 0 → drop i last ≡ drop i t → true ≡ ends t w
  last-all i h e =
      let z : i ≡ 0 = omega arith in
      sym (drop-ends t w (sym last-is ∙ subst (λ (j : ℕ). drop j last ≡ drop j t) z e))

-- ---- the vector

pub bit_small : (b : Bool) → bool_byte b ≤ 1
bit_small true = omega arith
bit_small false = omega arith

-- a bit that is made of a `bool`
pub bit_is : (b : Bool) → bool_byte b ≡ cond b 1 0
bit_is true = refl
bit_is false = refl

module _ (ts : List Word) (w : Word) where
  pub vector-none : (i : ℕ) → length ts ≤ i → 0 ≡ vector (drop i ts) w
  unfolding vector vector_by
  vector-none i h = rw (drop_of_length-le ts h)

  vector-more : (i : ℕ) → i < length ts → vector (drop i ts) w ≡ vector (drop (suc i) ts) w * 2 + cond (ends (get_or ts i []) w) 1 0
  unfolding vector vector_by
  vector-more i h = rw (drop-cons ts i [] h)

  pub vector_down : (i v z : ℕ) (t : Word) (b : Bool) → 0 < i → i ≤ length ts → v ≡ vector (drop i ts) w → t ≡ get_or ts (i - 1) [] → b ≡ ends t w
      → z ≡ bool_byte b → v * 2 + z ≡ vector (drop (i - 1) ts) w
  vector_down i v z t b h k ev et eb e =
      let ez : z ≡ cond b 1 0 = e ∙ bit_is b in
      let n : suc (i - 1) ≡ i = omega arith in
      sym (rw (ev, ez, eb, et) (vector-more (i - 1) (omega arith) ∙ ap (λ (j : ℕ). vector (drop j ts) w * 2 + cond (ends (get_or ts (i - 1) []) w) 1 0) n))

  -- the vector of at most 15 tags leaves room for a bit
  pub vector-half : (i : ℕ) → 0 < i → length ts ≤ 16 → vector (drop i ts) w < 32768
  vector-half i h k =
      omega (arith, vector_lt (drop i ts) w, pow_mono {i = length (drop i ts)} {j = 15} (omega (arith, length-drop i ts)))

-- a tag one letter longer ends a word: what ended it before, and the letter before that
ends_longer : (x : ℕ) (u w : Word) → ends (x ∷ u) w ≡ (ends u w && (ltb (length u) (length w) && eqb (get_or w (length w - 1 - length u) 0) x))
ends_longer x u w =
    both_ways (ends (x ∷ u) w) (ends u w && (ltb (length u) (length w) && eqb (get_or w (length w - 1 - length u) 0) x)) to from
  where
    at : (v : Word) → w ≡ v ++ x ∷ u → length w - 1 - length u ≡ length v
    at v e = omega (arith, ap {B = ℕ} length e, length-append v (x ∷ u))

    to : ends (x ∷ u) w ≡ true → (ends u w && (ltb (length u) (length w) && eqb (get_or w (length w - 1 - length u) 0) x)) ≡ true
    to h =
        let s = ends-split (x ∷ u) w h in
        let v = s.0 in
        let e : w ≡ v ++ x ∷ u = s.1 in
        and_both (ends u w) (ltb (length u) (length w) && eqb (get_or w (length w - 1 - length u) 0) x)
        (rw (e, ← append_snoc v x u) (ends_append (v ++ x ∷ []) u))
        (and_both (ltb (length u) (length w)) (eqb (get_or w (length w - 1 - length u) 0) x)
        (lt-ltb (length u) (length w) (omega (arith, ap {B = ℕ} length e, length-append v (x ∷ u))))
        (eq-eqb (get_or w (length w - 1 - length u) 0) x
        (ap (λ (i : ℕ). get_or w i 0) (at v e) ∙ ap (λ (l : Word). get_or l (length v) 0) e ∙ get_or-append_seam v x u 0)))

    from : (ends u w && (ltb (length u) (length w) && eqb (get_or w (length w - 1 - length u) 0) x)) ≡ true → ends (x ∷ u) w ≡ true
    from h =
        let b = and_r (ends u w) (ltb (length u) (length w) && eqb (get_or w (length w - 1 - length u) 0) x) h in
        let s = ends-split u w (and_l (ends u w) (ltb (length u) (length w) && eqb (get_or w (length w - 1 - length u) 0) x) h) in
        let v = s.0 in
        let e : w ≡ v ++ u = s.1 in
        let n : length w ≡ length v + length u = ap {B = ℕ} length e ∙ length-append v u in
        let less : length u < length w = ltb-true _ _ (and_l (ltb (length u) (length w)) (eqb (get_or w (length w - 1 - length u) 0) x) b) in
        let is : get_or w (length w - 1 - length u) 0 ≡ x = eqb-true _ _ (and_r (ltb (length u) (length w)) (eqb (get_or w (length w - 1 - length u) 0) x) b) in
        let j = length v - 1 in
        let k : suc j ≡ length v = omega arith in
        let m : length w - 1 - length u ≡ j = omega arith in
        let last : get_or v j 0 ≡ x =
        sym (get_or-append v u 0 j (omega arith)) ∙ ap (λ (l : Word). get_or l j 0) (sym e) ∙ ap (λ (i : ℕ). get_or w i 0) (sym m) ∙ is in
        let whole : v ≡ take j v ++ x ∷ [] =
        sym (take-length v) ∙ ap (λ (i : ℕ). take i v) (sym k) ∙ take-suc v j 0 (omega arith) ∙ ap (λ (y : ℕ). take j v ++ y ∷ []) last in
        let cut : w ≡ take j v ++ x ∷ u = e ∙ ap (λ (l : Word). l ++ u) whole ∙ append_assoc (take j v) (x ∷ []) u in
        rw cut (ends_append (take j v) (x ∷ u))

pub ends-back : (w t : Word) (i : ℕ) → i < length t → ends (drop (length t - (i + 1)) t) w ≡ (ends (drop (length t - i) t) w && agree_at w t i)
ends-back w t i h =
    let j : length t - (i + 1) ≡ length t - 1 - i = omega arith in
    let k : suc (length t - 1 - i) ≡ length t - i = omega arith in
    let n : length (drop (length t - i) t) ≡ i = length-drop (length t - i) t ∙ omega arith in
    let e : drop (length t - (i + 1)) t ≡ get_or t (length t - 1 - i) 0 ∷ drop (length t - i) t =
    ap (λ (a : ℕ). drop a t) j ∙ drop-cons t (length t - 1 - i) 0 (omega arith) ∙ ap (λ (a : ℕ). get_or t (length t - 1 - i) 0 ∷ drop a t) k in
    rw e
    (ends_longer (get_or t (length t - 1 - i) 0) (drop (length t - i) t) w
    ∙ ap (λ (a : ℕ). ends (drop (length t - i) t) w && (ltb a (length w) && eqb (get_or w (length w - 1 - a) 0) (get_or t (length t - 1 - i) 0))) n)

pub ends-none : (w t : Word) → true ≡ ends (drop (length t - 0) t) w
ends-none w t =
    let e : drop (length t - 0) t ≡ [] = drop_of_length-le t {i = length t - 0} (omega arith) in
    rw e (sym (rw (append-nil w) at (ends_append w [])))

pub ends-whole : (w t : Word) (i : ℕ) → length t ≤ i → ends (drop (length t - i) t) w ≡ ends t w
ends-whole w t i h = let e : length t - i ≡ 0 = omega arith in rw e

-- ---- spelling, and words compared from the end
-- Laws that the pages name, though no proof needs them any more.

map_snoc : (f : ℕ → ℕ) (w : List ℕ) (x : ℕ) → map f (w ++ x ∷ []) ≡ map f w ++ f x ∷ []
map_snoc f [] x = refl
map_snoc f (y ∷ w) x = ap (λ (l : List ℕ). f y ∷ l) (map_snoc f w x)

pub spell_more : (f : ℕ → ℕ) (s out : List ℕ) (i z : ℕ) → i < length s → i < length out → z ≡ f (get_or s i 0) → take i out ≡ map f (take i s)
    → take (i + 1) (set out i z) ≡ map f (take (i + 1) s)
spell_more f s out i z h k e each =
    rw (add-one i, take-suc s i 0 h, map_snoc f (take i s) (get_or s i 0), ← e, ← each) (take-suc-set out i z k)

pub spell_end : (f : ℕ → ℕ) (s out : List ℕ) (i : ℕ) → i ≤ length s → length s ≤ i → take i out ≡ map f (take i s) → take (length s) out ≡ map f s
spell_end f s out i h k each =
    let e : length s ≡ i = omega arith in
    ap (λ (n : ℕ). take n out) e ∙ each ∙ ap (map f) (take_all i s k)

-- the last i + 1 letters of a word are the one before the last i, and those
one_more : (w : Word) (i : ℕ) → i < length w → drop (length w - (i + 1)) w ≡ get_or w (length w - 1 - i) 0 ∷ drop (length w - i) w
one_more w i h =
    let j : length w - (i + 1) ≡ length w - 1 - i = omega arith in
    let k : suc (length w - 1 - i) ≡ length w - i = omega arith in
    ap (λ (a : ℕ). drop a w) j ∙ drop-cons w (length w - 1 - i) 0 (omega arith) ∙ ap (λ (a : ℕ). get_or w (length w - 1 - i) 0 ∷ drop a w) k

-- before any is compared the last letters, none, are the same
pub last_none : (w t : Word) → drop (length w - 0) w ≡ drop (length t - 0) t
last_none w t = drop_of_length-le w {i = length w - 0} (omega arith) ∙ sym (drop_of_length-le t {i = length t - 0} (omega arith))

module _ (w t : Word) (i : ℕ) (fits : length t ≤ length w) where
  -- one more that is the same
  pub last_more : i < length t → drop (length w - i) w ≡ drop (length t - i) t → get_or w (length w - 1 - i) 0 ≡ get_or t (length t - 1 - i) 0
      → drop (length w - (i + 1)) w ≡ drop (length t - (i + 1)) t
  last_more h e l = one_more w i (omega arith) ∙ ap₂ {C = Word} (λ (x : ℕ) (u : Word). x ∷ u) l e ∙ sym (one_more t i h)

  -- one that differs, and so the tag ends no such word
  pub last_differ : i < length t → (get_or w (length w - 1 - i) 0 ≡ get_or t (length t - 1 - i) 0 → ⊥) → false ≡ ends t w
  last_differ h d = sym (is_false (ends t w) (λ e. d (same e)))
    where
      same : ends t w ≡ true → get_or w (length w - 1 - i) 0 ≡ get_or t (length t - 1 - i) 0
      same e =
          let j : length w - 1 - i ≡ length w - length t + (length t - 1 - i) = omega arith in
          ap (λ (a : ℕ). get_or w a 0) j ∙ sym (get_or-drop (length w - length t) w (length t - 1 - i) 0)
          ∙ ap (λ (l : Word). get_or l (length t - 1 - i) 0) (ends-drop t w e)

  -- all of the tag's letters were the same
  pub last_all : length t ≤ i → i ≤ length t → drop (length w - i) w ≡ drop (length t - i) t → true ≡ ends t w
  last_all h k e =
      let m : i ≡ length t = omega arith in
      let z : length t - i ≡ 0 = omega arith in
      sym (drop-ends t w (ap (λ (a : ℕ). drop (length w - a) w) (sym m) ∙ e ∙ ap (λ (a : ℕ). drop a t) z))
