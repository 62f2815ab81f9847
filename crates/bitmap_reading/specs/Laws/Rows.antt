-- What the row of state 0 tells, and passing by it.
use Rattle.std.specs.Prelude.{None, Option, Some, ◌%◌, ◌/◌, ◌*◌, ◌+◌, ◌<◌, ◌^◌, ◌≤◌, suc, zero, ℕ, Bool, false, not, true, List, ◌⊎◌, ◌≡◌, refl, eqb, ltb, get_or, length, replicate, set}
use Rattle.std.proofs.lemmas.Bool.{false≢true}
use Rattle.std.proofs.Common.{inl, inr, ◌∙◌, ap, subst, sym, mul-le-mul, arith, ltb-false, ltb-true, get_or-set_other, get_or-set_same}
use Rattle.std.proofs.Math.Decide.{ℕ_discrete}
use Rattle.std.proofs.Math.Nat.{zero-div}
use Rattle.std.specs.Int.Bits.{bit_or}
use Rattle.std.proofs.lemmas.List.{get_or-replicate}
use Rattle.passing.specs.Laws.Passing.{ones_none, quiet-byte, quiet_none, quiet-on}
use Rattle.passing.specs.Laws.Runs.{or_zero}
use Rattle.matching.specs.Laws.Bools.{decided}
use Rattle.matching.specs.Reading.{ones_of}
use Rattle.matching.specs.Stepping.{goes_to}
use Rattle.bitmap.specs.Laws.Steps.{sound, step-fail, step_stay}
use Rattle.bitmap.specs.Steps.{To, fail_at, in_map, moved, number_at, step, vector_at}
use Rattle.bitmap_reading.specs.Laws.Steps.{map-goes}
use Rattle.bitmap_reading.specs.Reading.{map_step}
use Rattle.bitmap_reading.specs.Rows.{Leads, Making, PassedTo, Row, moves_from}

-- ---- the row

pub leads_to : (s : ℕ) (table : List ℕ) (c n m : ℕ) → 0 < s → To n m ≡ step s table 0 c → Leads s table c (Some n)
leads_to s table c n m h e k ek =
    let z : m ≡ 0 = omega (arith, (sound s table 0 c n m h e).1) in
    sym e ∙ ap (To n) z ∙ ap (λ (x : ℕ). To x 0) cc

pub leads_nowhere : (s : ℕ) (table : List ℕ) (c : ℕ) → Leads s table c None
leads_nowhere s table c n e = absurd (let y : ◌≡◌ {A = ℕ} 0 1 = cc in omega arith)

pub row_none : (s : ℕ) (table : List ℕ) → Row s table (replicate 256 None)
row_none s table c hc = subst (Leads s table c) (sym (get_or-replicate 256 c None None hc)) (leads_nowhere s table c)

pub row_set : (s : ℕ) (table : List ℕ) (row : List (Option ℕ)) (c : ℕ) (v : Option ℕ) → Row s table row → c < length row → Leads s table c v
    → Row s table (set row c v)
row_set s table row c v r h l d hd = go (ℕ_discrete d c)
  where
    go : Dec (d ≡ c) → Leads s table d (get_or (set row c v) d None)
    go (yes e) = subst (λ (x : ℕ). Leads s table x (get_or (set row c v) x None)) (sym e) (subst (Leads s table c) (sym (get_or-set_same row c v None h)) l)
    go (no n) = subst (Leads s table d) (sym (get_or-set_other row c d v None n)) (r d hd)

pub row_begun : (s : ℕ) (table : List ℕ) → Making s table (replicate 256 (Some 0)) 0
row_begun s table = record {
  made = λ c h. absurd (omega arith);
  stay = λ c h l. get_or-replicate 256 c (Some 0) None l;
}

-- a byte that is not in the map
pub row_stays : (s : ℕ) (table : List ℕ) (row : List (Option ℕ)) (i n : ℕ) → n ≡ i + 1 → Making s table row i → 0 < s → i < 256
    → in_map table 0 i ≡ false → Making s table row n
row_stays s table row i n en m h l e = record {
  made = λ c hc. go c hc (ℕ_discrete c i);
  stay = λ c hc lc. m.stay c (omega arith) lc;
}
  where
    go : (c : ℕ) → c < n → Dec (c ≡ i) → Leads s table c (get_or row c None)
    go c hc (yes z) =
        subst (λ (x : ℕ). Leads s table x (get_or row x None)) (sym z)
        (subst (Leads s table i) (sym (m.stay i (omega arith) l)) (leads_to s table i 0 0 h (sym (step_stay s table i e))))
    go c hc (no ne) = m.made c (omega arith)

-- the 16 bytes of a word that is 0
pub row_over : (s : ℕ) (table : List ℕ) (row : List (Option ℕ)) (j : ℕ) → Making s table row (16 * j) → 0 < s → j < 16 → number_at table 0 j ≡ 0
    → Making s table row (16 * (j + 1))
unfolding in_map
row_over s table row j m h l e = record {
  made = λ c hc. go c hc (decided (ltb c (16 * j)));
  stay = λ c hc lc. m.stay c (omega arith) lc;
}
  where
    off : (c : ℕ) → c / 16 ≡ j → in_map table 0 c ≡ false
    off c z = rw z (rw e (rw (zero-div (2 ^ (c % 16))) refl))

    go : (c : ℕ) → c < 16 * (j + 1) → (ltb c (16 * j) ≡ true) ⊎ (ltb c (16 * j) ≡ false) → Leads s table c (get_or row c None)
    go c hc (inl lt) = m.made c (ltb-true c (16 * j) lt)
    go c hc (inr not_lt) =
        let le : 16 * j ≤ c = ltb-false c (16 * j) not_lt in
        let z : c / 16 ≡ j = omega arith in
        subst (Leads s table c) (sym (m.stay c le (omega arith))) (leads_to s table c 0 0 h (sym (step_stay s table c (off c z))))

-- a byte of the map
pub row_led : (s : ℕ) (table : List ℕ) (row : List (Option ℕ)) (i n : ℕ) (v : Option ℕ) → n ≡ i + 1 → Making s table row i → i < length row
    → Leads s table i v → Making s table (set row i v) n
row_led s table row i n v en m h l = record {
  made = λ c hc. go c hc (ℕ_discrete c i);
  stay = λ c hc lc. get_or-set_other row i c v None (λ z. omega arith) ∙ m.stay c (omega arith) lc;
}
  where
    go : (c : ℕ) → c < n → Dec (c ≡ i) → Leads s table c (get_or (set row i v) c None)
    go c hc (yes z) = subst (λ (x : ℕ). Leads s table x (get_or (set row i v) x None)) (sym z) (subst (Leads s table i) (sym (get_or-set_same row i v None h)) l)
    go c hc (no ne) = subst (Leads s table c) (sym (get_or-set_other row i c v None ne)) (m.made c (omega arith))

-- ---- a quick step

is_bit : (x : ℕ) → x ≡ 0 → eqb x 1 ≡ false
is_bit x e = rw e refl

pub shallow : (table : List ℕ) (q c bit fail : ℕ) → eqb bit 1 ≡ in_map table q c → fail ≡ fail_at table q → q * bit_or bit fail ≡ 0
    → (q ≡ 0) ⊎ ((in_map table q c ≡ false) × (fail_at table q ≡ 0))
shallow table zero c bit fail eb ef z = inl refl
shallow table (suc q) c bit fail eb ef z = inr (sym eb ∙ is_bit bit both.0, sym ef ∙ both.1)
  where
    none : (x : ℕ) → suc q * x ≡ 0 → x ≡ 0
    none zero e = refl
    none (suc x) e = absurd (omega (arith, e))

    both : (bit ≡ 0) × (fail ≡ 0)
    both = or_zero bit fail (none (bit_or bit fail) z)

pub quick_row : (s : ℕ) (table : List ℕ) (q c n : ℕ) → step s table 0 c ≡ To n 0
    → (q ≡ 0) ⊎ ((in_map table q c ≡ false) × (fail_at table q ≡ 0)) → step s table q c ≡ To n (moves_from q)
quick_row s table q c n root w = go q w
  where
    go : (q : ℕ) → (q ≡ 0) ⊎ ((in_map table q c ≡ false) × (fail_at table q ≡ 0)) → step s table q c ≡ To n (moves_from q)
    go zero w = root
    go (suc q) (inl z) = absurd (omega (arith, z))
    go (suc q) (inr w) =
        step-fail s table c (suc q) w.0 (omega arith) (omega (arith, w.1)) ∙ ap (λ (x : ℕ). moved (step s table x c)) w.1 ∙ ap moved root

-- ---- passing

module _ (s : ℕ) (table piece : List ℕ) (start from moves : ℕ) where
  pub passed_start : start < s → from ≤ length piece → moves ≤ from * 513
      → PassedTo s table piece start from moves (record { at = from; state = start; moves = moves })
  passed_start h l f = record { quiet = quiet_none (map_step s table) piece _ from l; below = h; few = f }

  pub passed-more : (i q made : ℕ) → PassedTo s table piece start from moves (record { at = i; state = q; moves = made }) → i < length piece → s ≤ 513
      → (n m : ℕ) → step s table q (get_or piece i 0) ≡ To n m → vector_at table n ≡ 0
      → PassedTo s table piece start from moves (record { at = i + 1; state = n; moves = made + m })
  passed-more i q made g less small n m e v =
      let fine = sound s table q (get_or piece i 0) n m g.below (sym e) in
      record {
        quiet = quiet-on (map_step s table) piece _ from _ i _ (i + 1) g.quiet
            (quiet-byte (map_step s table) piece _ i less _
            (map-goes s table q made (get_or piece i 0) n m e ∙ ap (goes_to (record { state = n; moves = made + m })) (ap (ones_of 0 16) v ∙ ones_none 0 16)));
        below = fine.0;
        few = omega (arith, g.few, fine.1, g.below);
      }

pub moves-one : (q : ℕ) → (q ≡ 0 → ⊥) → 1 ≡ moves_from q
moves-one zero h = absurd (h refl)
moves-one (suc q) h = refl

-- the product fits
pub deep-fits : (q marks : ℕ) → q ≤ 513 → marks < 65536 → q * marks < 2 ^ 64
deep-fits q marks hq hm =
    let few : marks ≤ 65535 = omega arith in
    omega (arith, mul-le-mul hq few)

pub not-not : (b : Bool) → not b ≡ false → b ≡ true
not-not true e = refl
not-not false e = absurd (false≢true (sym e))
