-- Building is refused, and done, exactly when the rules say so.
use Rattle.std.specs.Prelude.{Err, Ok}
use Rattle.tables.specs.declared.BuildFault.TheVariants as B
use Rattle.std.specs.Prelude.{ℕ, false, true, List, [], ◌∷◌, ◌↔◌, refl, eqb}
use Rattle.std.proofs.Common.{◌∙◌, ap, sym}
use Rattle.std.proofs.Math.Path.{◌≡◌, subst}
use Rattle.std.proofs.Math.ListN.{get_or}
use Rattle.matching.specs.Kinds.{TagKind}
use Rattle.matching.specs.Parts.{Layout, kinds_for}
use Rattle.tables.specs.Building.{built_number, built_of, built_values}
use Rattle.tables.specs.Refusals.{Answers, AnswersBy, BuildExact, BuildExactBy, Builds, TooFewSlots}
use Rattle.tables.specs.Refusals.{a_fault, a_table, a_tags}
use Rattle.tables.specs.Building.{Built}
use Rattle.tagset.specs.Laws.Exact.{as_fault, refused_iff}
use Rattle.tagset.specs.Refusals.{Refused, RefusedAs, cut_as, empty_as, kind_as, length_as, many_as, repeat_as}
use Rattle.tagset.specs.declared.SetFault.TheVariants.{Cut, Empty, Kind, Length, Many, Repeat}
use Rattle.tables.specs.Laws.Exact.{WhenBy, says, exactly}

-- ---- any builder's answer, by its own two conditions

module _ (Done : ℕ → Type 0) (Short : ℕ → ℕ → Type 0) (ks : List TagKind) (bytes : List ℕ) (b : Built)
    (exactly : (a : Built) → (b ≡ a) ↔ WhenBy Done Short ks bytes a) where
  -- each number is given with its values exactly if its condition holds and none earlier does
  pub number_by : (number : ℕ) (values : List ℕ) → ((built_number b ≡ number) × (built_values b ≡ values)) ↔ AnswersBy Done Short ks bytes number values
  number_by number values = (there, back number values)
    where
      there : (built_number b ≡ number) × (built_values b ≡ values) → AnswersBy Done Short ks bytes number values
      there e =
          subst (λ (l : List ℕ). AnswersBy Done Short ks bytes number l) e.1
          (subst (λ (x : ℕ). AnswersBy Done Short ks bytes x (built_values b)) e.0 (says Done Short ks bytes b exactly b ((exactly b).0 refl)))

      back : (j : ℕ) (l : List ℕ) → AnswersBy Done Short ks bytes j l → (built_number b ≡ j) × (built_values b ≡ l)
      back j l (a_fault r) =
          let f = as_fault ks bytes j l r in
          let e = (exactly (Err (B.Set f.fault))).1 ((refused_iff ks bytes f.fault).0 f.refused) in
          (ap built_number e ∙ f.number_is, ap built_values e ∙ f.values_are)
      back j l (a_table {name} {needs} t) = let e = (exactly (Err (B.Table name needs))).1 t in (ap built_number e, ap built_values e)
      back j l (a_tags {count} t) = let e = (exactly (Ok count)).1 t in (ap built_number e, ap built_values e)

  -- what the row of a number says, by the number
  abbrev Row : ℕ → List ℕ → Type 0
  Row j l =
      let entry = get_or l 0 0 in
      elim (eqb j 0) [
        | true ↦ Done entry
        | false ↦ elim (eqb j 1) [
          | true ↦ Refused ks bytes (Cut entry)
          | false ↦ elim (eqb j 2) [
            | true ↦ (entry ≡ 16) × Refused ks bytes (Many 16)
            | false ↦ elim (eqb j 3) [
              | true ↦ Refused ks bytes (Kind entry)
              | false ↦ elim (eqb j 4) [
                | true ↦ Refused ks bytes (Length entry)
                | false ↦ elim (eqb j 5) [
                  | true ↦ (entry ≡ 0) × Refused ks bytes Empty
                  | false ↦ elim (eqb j 6) [ true ↦ Refused ks bytes (Repeat entry) | false ↦ Short entry (get_or l 1 0) ]
                ]
              ]
            ]
          ]
        ]
      ]

  row : (j : ℕ) (l : List ℕ) → AnswersBy Done Short ks bytes j l → Row j l
  row j l (a_tags t) = t
  row j l (a_fault (cut_as r)) = r
  row j l (a_fault (many_as r)) = (refl, r)
  row j l (a_fault (kind_as r)) = r
  row j l (a_fault (length_as r)) = r
  row j l (a_fault (empty_as r)) = (refl, r)
  row j l (a_fault (repeat_as r)) = r
  row j l (a_table t) = t

  -- the table of refusals, number by number
  pub exact-by : BuildExactBy Done Short ks bytes (built_number b) (built_values b)
  exact-by = record {
    done = λ c. (λ e. row 0 (c ∷ []) ((number_by _ _).0 e), λ t. (number_by _ _).1 (a_tags t));
    cut = λ i. (λ e. row 1 (i ∷ []) ((number_by _ _).0 e), λ r. (number_by _ _).1 (a_fault (cut_as r)));
    many = λ i. (λ e. row 2 (i ∷ []) ((number_by _ _).0 e), λ r. (number_by _ _).1 (a_fault (sixteenth i r.0 (many_as r.1))));
    kind = λ i. (λ e. row 3 (i ∷ []) ((number_by _ _).0 e), λ r. (number_by _ _).1 (a_fault (kind_as r)));
    length = λ i. (λ e. row 4 (i ∷ []) ((number_by _ _).0 e), λ r. (number_by _ _).1 (a_fault (length_as r)));
    empty = λ i. (λ e. row 5 (i ∷ []) ((number_by _ _).0 e), λ r. (number_by _ _).1 (a_fault (none i r.0 (empty_as r.1))));
    repeat = λ i. (λ e. row 6 (i ∷ []) ((number_by _ _).0 e), λ r. (number_by _ _).1 (a_fault (repeat_as r)));
    table = λ m s. (λ e. row 7 (m ∷ s ∷ []) ((number_by _ _).0 e), λ t. (number_by _ _).1 (a_table t));
  }
    where
      sixteenth : (i : ℕ) → i ≡ 16 → RefusedAs ks bytes 2 (16 ∷ []) → RefusedAs ks bytes 2 (i ∷ [])
      sixteenth i e r = subst (λ (x : ℕ). RefusedAs ks bytes 2 (x ∷ [])) (sym e) r

      none : (i : ℕ) → i ≡ 0 → RefusedAs ks bytes 5 (0 ∷ []) → RefusedAs ks bytes 5 (i ∷ [])
      none i e r = subst (λ (x : ℕ). RefusedAs ks bytes 5 (x ∷ [])) (sym e) r

-- ---- the builder of a layout

module _ (layout : Layout) (bytes lens : List ℕ) where
  -- EACH NUMBER IS GIVEN WITH ITS VALUES EXACTLY IF ITS CONDITION HOLDS AND NONE EARLIER DOES
  pub number_iff : (number : ℕ) (values : List ℕ)
      → ((built_number (built_of layout bytes lens) ≡ number) × (built_values (built_of layout bytes lens) ≡ values)) ↔ Answers layout bytes lens number values
  number_iff = number_by (Builds layout bytes lens) (TooFewSlots layout bytes lens) (kinds_for layout) bytes (built_of layout bytes lens) (exactly layout bytes lens)

  -- THE TABLE OF REFUSALS FOR BUILDING, number by number
  pub build_exact : BuildExact layout bytes lens (built_number (built_of layout bytes lens)) (built_values (built_of layout bytes lens))
  build_exact = exact-by (Builds layout bytes lens) (TooFewSlots layout bytes lens) (kinds_for layout) bytes (built_of layout bytes lens) (exactly layout bytes lens)
