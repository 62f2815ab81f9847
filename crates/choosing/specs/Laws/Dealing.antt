-- Dealing bit by bit, and slot by slot.
use Rattle.std.specs.Prelude.{◌%◌, ◌*◌, ◌+◌, ◌/◌, ◌<◌, ◌^◌, ◌≤◌, suc, ℕ, Bool, false, true, ◌⊎◌, ◌≡◌, refl, drop, get_or, length, set}
use mathlib.Core.List.{List, [], ◌∷◌, map}
use Rattle.std.proofs.Common.{inl, inr, ◌∙◌, ap, sym, mod-lt, mul-add, mul_assoc, mul_comm, mul-le-mul_left, mul-le-mul_right, mul-zero, pow-suc, suc-mul, zero-mul, div-lt_iff_lt-mul, le-div_iff_mul-le, add-one, arith, lit<, drop_of_length-le, length-set, pow_mono, drop-cons, get_or-set_other, get_or-set_same}
use Rattle.std.proofs.lemmas.List.{set-get_or}
use Rattle.std.proofs.Math.Decide.{dec_lt, ℕ_discrete}
use Rattle.std.proofs.Math.Arith.{digits_div, digits_mod}
use Rattle.std.proofs.Math.ListN.{get_or-eq_default}
use Rattle.matching.specs.Laws.Bools.{decided}
use Rattle.matching.specs.Laws.Dealt.{dealt, dealt_hit, dealt_lt, dealt_miss}
use Rattle.choosing.specs.Dealing.{DealingOut, DealtOut, DealtTo, Small, dealt_next, is_of}
use Rattle.choosing.specs.declared.Dealing.{Dealing}

-- no bits, none dealt
pub dealt-zero : {A : Type 0} (ok : A → Bool) (xs : List A) → dealt ok xs 0 ≡ 0
unfolding dealt
dealt-zero ok [] = refl
dealt-zero ok (x ∷ xs) = go (decided (ok x)) (dealt-zero ok xs)
  where
    go : (ok x ≡ true) ⊎ (ok x ≡ false) → dealt ok xs 0 ≡ 0 → dealt ok (x ∷ xs) 0 ≡ 0
    go (inl e) ih = dealt_hit ok x xs 0 e ∙ omega (arith, ih)
    go (inr e) ih = dealt_miss ok x xs 0 e ∙ omega (arith, ih)

-- dealing to what a list's elements are made into
pub dealt-map : {A B : Type 0} (f : A → B) (ok : B → Bool) (xs : List A) (v : ℕ) → dealt ok (map f xs) v ≡ dealt (λ x. ok (f x)) xs v
unfolding dealt
dealt-map f ok [] v = refl
dealt-map {A} {B} f ok (x ∷ xs) v = go (decided (ok (f x))) (dealt-map f ok xs)
  where
    go : (ok (f x) ≡ true) ⊎ (ok (f x) ≡ false) → ((u : ℕ) → dealt ok (map f xs) u ≡ dealt (λ x. ok (f x)) xs u)
        → dealt ok (f x ∷ map f xs) v ≡ dealt (λ x. ok (f x)) (x ∷ xs) v
    go (inl e) ih = rw e (ap (λ (d : ℕ). d * 2 + v % 2) (ih (v / 2)))
    go (inr e) ih = rw e (ap (λ (d : ℕ). d * 2) (ih v))

-- ---- bit by bit

module _ (kind : ℕ) (ks : List ℕ) (v : ℕ) where
  pub dealt-start : (w : ℕ) → w ≡ v → DealtTo kind ks v 0 (record { left = w; value = 1; out = 0 })
  dealt-start w e = record { within = omega arith; value = refl; total = rw e (omega arith) }

  module _ (few : length ks ≤ 16) (i : ℕ) (d : Dealing) (g : DealtTo kind ks v i d) where
    -- what is dealt has at most 16 bits
    pub dealt-out : d.out < 65536
    dealt-out = omega (arith, g.total, dealt_lt (is_of kind) ks v, pow_mono {i = length ks} {j = 16} few)

    pub dealt-small : i < length ks → Small d
    dealt-small h = record { value = omega (arith, g.value, pow_mono {i = i} {j = 15} (omega arith)); out = dealt-out }

    -- nothing is left for the others
    all-dealt : dealt (is_of kind) (drop i ks) d.left ≡ 0 → d.out ≡ dealt (is_of kind) ks v
    all-dealt none =
        let z : d.value * dealt (is_of kind) (drop i ks) d.left ≡ 0 = ap (λ (x : ℕ). d.value * x) none ∙ mul-zero d.value in
        omega (arith, g.total, z)

    pub dealt-end : length ks ≤ i → d.out ≡ dealt (is_of kind) ks v
    unfolding dealt
    dealt-end h = all-dealt (ap (λ (l : List ℕ). dealt (is_of kind) l d.left) (drop_of_length-le ks h))

    pub dealt-done : d.left ≡ 0 → d.out ≡ dealt (is_of kind) ks v
    dealt-done e = all-dealt (ap (dealt (is_of kind) (drop i ks)) e ∙ dealt-zero (is_of kind) (drop i ks))

    module _ (less : i < length ks) where
      at : drop i ks ≡ get_or ks i 0 ∷ drop (i + 1) ks
      at = rw (add-one i) (drop-cons ks i 0 less)

      doubled : (x : ℕ) → d.value * (x * 2) ≡ d.value * 2 * x
      doubled x = ap (λ (y : ℕ). d.value * y) (mul_comm x 2) ∙ sym (mul_assoc d.value 2 x)

      pub dealt-more : (own : Bool) → own ≡ is_of kind (get_or ks i 0) → DealtTo kind ks v (i + 1) (dealt_next own d)
      dealt-more own is = record {
        within = omega arith;
        value = ap (λ (x : ℕ). x * 2) g.value ∙ sym (pow-suc 2 i) ∙ ap (λ (x : ℕ). 2 ^ x) (sym (add-one i));
        total = g.total ∙ go own (sym is);
      }
        where
          go : (own : Bool) → is_of kind (get_or ks i 0) ≡ own → d.out + d.value * dealt (is_of kind) (drop i ks) d.left
              ≡ (dealt_next own d).out + d.value * 2 * dealt (is_of kind) (drop (i + 1) ks) (dealt_next own d).left
          go true e =
              let rest = dealt (is_of kind) (drop (i + 1) ks) (d.left / 2) in
              let is : dealt (is_of kind) (drop i ks) d.left ≡ rest * 2 + d.left % 2 =
              ap (λ (l : List ℕ). dealt (is_of kind) l d.left) at ∙ dealt_hit (is_of kind) (get_or ks i 0) (drop (i + 1) ks) d.left e in
              let both : d.value * dealt (is_of kind) (drop i ks) d.left ≡ d.value * 2 * rest + d.value * (d.left % 2) =
              ap (λ (x : ℕ). d.value * x) is ∙ mul-add d.value (rest * 2) (d.left % 2)
              ∙ ap (λ (x : ℕ). x + d.value * (d.left % 2)) (doubled rest) in
              omega (arith, both)
          go false e =
              let rest = dealt (is_of kind) (drop (i + 1) ks) d.left in
              let is : dealt (is_of kind) (drop i ks) d.left ≡ rest * 2 =
              ap (λ (l : List ℕ). dealt (is_of kind) l d.left) at ∙ dealt_miss (is_of kind) (get_or ks i 0) (drop (i + 1) ks) d.left e in
              ap (λ (x : ℕ). d.out + x) (ap (λ (x : ℕ). d.value * x) is ∙ doubled rest)

-- a bit is at most its value
pub bit_most : (value left : ℕ) → value * (left % 2) ≤ value
bit_most value left =
    let h : left % 2 < 2 = mod-lt left (lit< tt) in
    omega (arith, mul-le-mul_left {m = left % 2} {n = 1} value (omega arith))

-- ---- slot by slot

module _ (m : ℕ) where
  -- the vector of slot q of a run is in it, where the run has more than q slots
  pub slot_fits : (q n : ℕ) → q < n / (m + 1) → q * (m + 1) + m < n
  slot_fits q n h = omega (arith, (le-div_iff_mul-le {k = m + 1} {x = suc q} {y = n} (omega arith)).0 (omega (arith, h)), suc-mul q (m + 1))

  -- and where it has no more, it is behind it
  pub slots_end : (q n : ℕ) → n / (m + 1) ≤ q → n ≤ q * (m + 1) + m
  slots_end q n h = omega (arith, (div-lt_iff_lt-mul {k = m + 1} {x = n} {y = suc q} (omega arith)).0 (omega (arith, h)), suc-mul q (m + 1))

module _ (deal : ℕ → ℕ) (m : ℕ) where
  -- two numbers of slots stand at one place only if they are the same number of the same slot
  one_place : (p q b c : ℕ) → b < m + 1 → c < m + 1 → p * (m + 1) + b ≡ q * (m + 1) + c → (p ≡ q) × (b ≡ c)
  one_place p q b c hb hc e = (
    sym (digits_div p hb) ∙ ap (λ (x : ℕ). x / (m + 1)) e ∙ digits_div q hc,
    sym (digits_mod p hb) ∙ ap (λ (x : ℕ). x % (m + 1)) e ∙ digits_mod q hc,
  )

  pub dealing_start : (before : List ℕ) → DealingOut deal m before before m
  dealing_start before = record {
    slot = 0;
    place = omega (arith, zero-mul (m + 1));
    long = refl;
    vectors = λ q h. absurd (omega arith);
    raw = λ q h. refl;
    nexts = λ q c h. refl;
  }

  module _ (before after : List ℕ) (i : ℕ) (g : DealingOut deal m before after i) where
    pub dealing_more : i < length after → (v : ℕ) → v ≡ deal (get_or after i 0) → DealingOut deal m before (set after i v) (i + (m + 1))
    dealing_more less v e = record {
      slot = suc g.slot;
      place = omega (arith, g.place, suc-mul g.slot (m + 1));
      long = length-set after i v ∙ g.long;
      vectors = λ q h. vector q h (ℕ_discrete q g.slot);
      raw = λ q h. get_or-set_other after i (q * (m + 1) + m) v 0 (λ x. omega (arith, (one_place q g.slot m m (omega arith) (omega arith) (x ∙ g.place)).0))
          ∙ g.raw q (omega arith);
      nexts = λ q c h. get_or-set_other after i (q * (m + 1) + c) v 0
          (λ x. omega (arith, (one_place q g.slot c m (omega arith) (omega arith) (x ∙ g.place)).1))
          ∙ g.nexts q c h;
    }
      where
        vector : (q : ℕ) → q < suc g.slot → Dec (q ≡ g.slot) → get_or (set after i v) (q * (m + 1) + m) 0 ≡ deal (get_or before (q * (m + 1) + m) 0)
        vector q h (yes x) =
            let here : q * (m + 1) + m ≡ i = ap (λ (y : ℕ). y * (m + 1) + m) x ∙ sym g.place in
            ap (λ (y : ℕ). get_or (set after i v) y 0) here ∙ get_or-set_same after i v 0 less ∙ e
            ∙ ap deal (ap (λ (y : ℕ). get_or after y 0) (sym here) ∙ g.raw q (omega arith))
        vector q h (no d) =
            get_or-set_other after i (q * (m + 1) + m) v 0 (λ x. d (one_place q g.slot m m (omega arith) (omega arith) (x ∙ g.place)).0)
            ∙ g.vectors q (omega arith)

    -- a vector of no tags stays
    pub dealing_past : deal 0 ≡ 0 → i < length after → get_or after i 0 ≡ 0 → DealingOut deal m before after (i + (m + 1))
    dealing_past none less zero = rw (sym (set-get_or after i 0)) (dealing_more less (get_or after i 0) (zero ∙ sym none ∙ ap deal (sym zero)))

    pub dealing_all : deal 0 ≡ 0 → length after ≤ i → DealtOut deal m before after
    dealing_all none h = record { long = g.long; vectors = λ q. vector q (dec_lt q g.slot); nexts = g.nexts }
      where
        vector : (q : ℕ) → Dec (q < g.slot) → get_or after (q * (m + 1) + m) 0 ≡ deal (get_or before (q * (m + 1) + m) 0)
        vector q (yes l) = g.vectors q l
        vector q (no l) =
            let behind : length before ≤ q * (m + 1) + m =
            omega (arith, g.long, g.place, h, mul-le-mul_right {m = g.slot} {n = q} (m + 1) (omega arith)) in
            let zero : get_or before (q * (m + 1) + m) 0 ≡ 0 = get_or-eq_default before 0 behind in
            g.raw q (omega arith) ∙ zero ∙ sym none ∙ ap deal (sym zero)
