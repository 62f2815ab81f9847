-- The states of one part of a place, taken out and put in.
use Rattle.std.specs.Prelude.{◌*◌, ◌+◌, ◌<◌, ◌≤◌, suc, ℕ, List, [], ◌++◌, ◌≡◌, refl, drop, get_or, length, set, take}
use Rattle.std.proofs.Common.{zero-le, append_assoc, ◌∙◌, ap, sym, add-zero, add-one, arith, drop_of_length-le, length-drop, length-set, drop_at, drop-cons, get_or-drop, length-take-le, take_all, take-suc, take-suc-set}
use Rattle.std.proofs.lemmas.List.Edits.{sets, sets-eq}

-- ---- taken out, state by state

pub record Taking (place : List ℕ) (g : ℕ) (own : List ℕ) (m : ℕ) : Type 0 where
  pub whole : length place ≡ 16
  pub few : g < 2
  pub long : length own ≡ 8
  pub most : m ≤ 8
  pub same : take m own ≡ take m (drop (g * 8) place)

module _ (place : List ℕ) (g : ℕ) (own : List ℕ) (m : ℕ) (t : Taking place g own m) where
  pub taking-more : m < 8 → (v : ℕ) → v ≡ get_or place (g * 8 + m) 0 → Taking place g (set own m v) (m + 1)
  taking-more less v e =
      let i : m < length own = omega (arith, t.long) in
      let j : m < length (drop (g * 8) place) = omega (arith, length-drop (g * 8) place, t.whole, t.few) in
      record {
        whole = t.whole;
        few = t.few;
        long = length-set own m v ∙ t.long;
        most = omega arith;
        same = rw (add-one m, take-suc-set own m v i, take-suc (drop (g * 8) place) m 0 j, get_or-drop (g * 8) place m 0, t.same, e);
      }

  pub taking-done : 8 ≤ m → own ≡ take 8 (drop (g * 8) place)
  taking-done more =
      let z : m ≡ 8 = omega (arith, t.most) in
      sym (take_all 8 own (omega (arith, t.long))) ∙ rw z at t.same

-- ---- put in: what is left of it put in where it belongs gives the whole

pub record Putting (place : List ℕ) (g : ℕ) (own all : List ℕ) (m : ℕ) : Type 0 where
  pub few : g < 2
  pub long : length own ≡ 8
  pub whole : length all ≡ 16
  pub most : m ≤ 8
  pub same : sets all (g * 8 + m) (drop m own) ≡ sets place (g * 8) own

module _ (place : List ℕ) (g : ℕ) (own : List ℕ) where
  pub putting_start : g < 2 → length own ≡ 8 → length place ≡ 16 → Putting place g own place 0
  putting_start few long whole = record { few = few; long = long; whole = whole; most = zero-le; same = rw add-zero refl }

  module _ (all : List ℕ) (m : ℕ) (p : Putting place g own all m) where
    pub putting_more : m < 8 → Putting place g own (set all (g * 8 + m) (get_or own m 0)) (m + 1)
    putting_more less =
        let i : m < length own = omega (arith, p.long) in
        let z : g * 8 + (m + 1) ≡ suc (g * 8 + m) = omega arith in
        record {
          few = p.few;
          long = p.long;
          whole = length-set all (g * 8 + m) (get_or own m 0) ∙ p.whole;
          most = omega arith;
          same = rw (z, add-one m)
              (ap (λ (vs : List ℕ). sets all (g * 8 + m) vs) (sym (drop-cons own m 0 i)) ∙ p.same);
        }

    pub putting_done : 8 ≤ m → all ≡ sets place (g * 8) own
    putting_done more =
        let none : drop m own ≡ [] = drop_of_length-le own {i = m} (omega (arith, p.long)) in
        rw none at p.same

-- behind what was put in, the place is as it was
pub put-behind : (place : List ℕ) (i : ℕ) (own : List ℕ) → i + length own ≤ length place → drop i (sets place i own) ≡ own ++ drop (i + length own) place
put-behind place i own fits =
    ap (drop i) (sets-eq own place i fits ∙ append_assoc (take i place) own (drop (i + length own) place))
    ∙ drop_at (take i place) (own ++ drop (i + length own) place) i (length-take-le i place (omega arith))
