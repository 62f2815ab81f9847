-- An entry, as the code reads it where it stands in the set, where tags of the kinds in the first rows of their table are taken.
use Prim.Native.Nat.{◌*◌, ◌+◌, ◌-◌, ◌<◌, ◌≤◌, ℕ}
use mathlib.Core.Bool.{Bool, ◌||◌, false, true}
use mathlib.Core.List.{List}
use mathlib.Core.Logic.{◌⊎◌, inl, inr}
use mathlib.Core.Path.{◌∙◌, ◌≡◌, ap, subst, sym}
use native.Mathlib.Nat.{add-zero}
use native.Mathlib.Omega.{arith}
use lib.Dec.{ltb}
use lib.ListN.{drop, get_or, length, length-drop, take}
use lib.Seq.{get_or-drop, get_or-take, length-take-le}
use borrow.Author.Tests.{ltb-false, ltb-true}
use Rattle.std.specs.Prelude.{Err, Ok}
use Rattle.matching.specs.Kinds.{TagKind, is_among, kind_of, kinds, no_kind}
use Rattle.matching.specs.Laws.Bools.{or_cases, or_false-l, or_false-r}
use Rattle.kinds.specs.Laws.Rows.{row_among, row_kind, row_most, row_none}
use Rattle.kinds.specs.Rows.{row_of}
use Rattle.tagset.specs.Answer.{placed}
use Rattle.tagset.specs.Grammar.{entry_of, kind_at, length_at}
use Rattle.tagset.specs.Laws.Entries.{entry_fails, payload_length, whole_entry}
use Rattle.tagset.specs.Refusals.{Fails, Whole, fewer_than_four, kind_here, no_length, other_kind, seventeenth, short_payload}
use Rattle.tagset.specs.declared.SetFault.{SetFault}
use Rattle.tagset.specs.declared.SetFault.TheVariants.{Cut, Kind, Length, Many}

-- the number of two bytes
abbrev pub number : List ℕ → ℕ → ℕ
number s at = get_or s at 0 + 256 * get_or s (at + 1) 0

length-here : (s : List ℕ) (at : ℕ) → length_at (drop at s) ≡ number s at
length-here s at = rw (get_or-drop at s 0 0, get_or-drop at s 1 0, add-zero at)

kind-here : (s : List ℕ) (at : ℕ) → kind_at (drop at s) ≡ number s (at + 2)
kind-here s at =
    let e : at + 3 ≡ at + 2 + 1 = omega arith in
    rw (get_or-drop at s 2 0, get_or-drop at s 3 0, e)

-- no length for the kind in a row
abbrev pub wrong_in : ℕ → ℕ → Bool
wrong_in row long = ltb long (get_or kinds row no_kind).shortest || ltb (get_or kinds row no_kind).longest long

module _ (s : List ℕ) (rows : ℕ) (two : rows ≤ 2) (k at : ℕ) where
  rows_long : length (take rows kinds) ≡ rows
  rows_long = length-take-le rows kinds two

  left_is : length (drop at s) ≡ length s - at
  left_is = length-drop at s

  fault : {f : SetFault} → Fails (take rows kinds) k (drop at s) f → Err f ≡ placed at (entry_of (take rows kinds) k (drop at s))
  fault f = sym (ap (placed at) (entry_fails f))

  pub too_few : length s - at < 4 → Err (Cut k) ≡ placed at (entry_of (take rows kinds) k (drop at s))
  too_few h = fault (fewer_than_four (omega (arith, left_is)))

  module _ (four : 4 ≤ length s - at) where
    here : 4 ≤ length (drop at s)
    here = omega (arith, left_is)

    pub too_many : k ≡ 16 → Err (Many k) ≡ placed at (entry_of (take rows kinds) k (drop at s))
    too_many e = fault (seventeenth here e)

    module _ (room : k ≡ 16 → ⊥) (kind : ℕ) (is : kind ≡ number s (at + 2)) where
      kind-is : kind ≡ kind_at (drop at s)
      kind-is = is ∙ sym (kind-here s at)

      pub other-kind : row_of kind (take rows kinds) ≡ rows → Err (Kind k) ≡ placed at (entry_of (take rows kinds) k (drop at s))
      other-kind n = fault (other_kind here room
          (subst (λ (x : ℕ). is_among x (take rows kinds) ≡ false) kind-is (row_none kind (take rows kinds) (omega (arith, rows_long, n)))))

      module _ (row : ℕ) (one : row < rows) (found : row ≡ row_of kind (take rows kinds)) (long : ℕ) (says : long ≡ number s at) where
        within : row_of kind (take rows kinds) < rows
        within = omega (arith, found, one)

        known : is_among (kind_at (drop at s)) (take rows kinds) ≡ true
        known = subst (λ (x : ℕ). is_among x (take rows kinds) ≡ true) kind-is (row_among kind (take rows kinds) (omega (arith, rows_long, within)))

        its_row : get_or kinds row no_kind ≡ kind_here (take rows kinds) (drop at s)
        its_row =
            ap (λ (x : ℕ). get_or kinds x no_kind) found
            ∙ sym (get_or-take rows kinds (row_of kind (take rows kinds)) no_kind within)
            ∙ row_kind kind (take rows kinds)
            ∙ ap (λ (x : ℕ). kind_of x (take rows kinds)) kind-is

        long-here : length_at (drop at s) ≡ long
        long-here = length-here s at ∙ sym says

        shortest-is : (get_or kinds row no_kind).shortest ≡ (kind_here (take rows kinds) (drop at s)).shortest
        shortest-is = ap (λ (x : TagKind). x.shortest) its_row

        longest-is : (get_or kinds row no_kind).longest ≡ (kind_here (take rows kinds) (drop at s)).longest
        longest-is = ap (λ (x : TagKind). x.longest) its_row

        pub wrong-length : wrong_in row long ≡ true → Err (Length k) ≡ placed at (entry_of (take rows kinds) k (drop at s))
        wrong-length h =
            fault (no_length here room known (go (or_cases (ltb long (get_or kinds row no_kind).shortest) (ltb (get_or kinds row no_kind).longest long) h)))
          where
            go : (ltb long (get_or kinds row no_kind).shortest ≡ true) ⊎ (ltb (get_or kinds row no_kind).longest long ≡ true)
                → (length_at (drop at s) < (kind_here (take rows kinds) (drop at s)).shortest)
                ⊎ ((kind_here (take rows kinds) (drop at s)).longest < length_at (drop at s))
            go (inl z) = inl (omega (arith, long-here, shortest-is, ltb-true long (get_or kinds row no_kind).shortest z))
            go (inr z) = inr (omega (arith, long-here, longest-is, ltb-true (get_or kinds row no_kind).longest long z))

        module _ (right : wrong_in row long ≡ false) where
          some : (kind_here (take rows kinds) (drop at s)).shortest ≤ length_at (drop at s)
          some =
              omega (
                arith,
                long-here,
                shortest-is,
                ltb-false long (get_or kinds row no_kind).shortest
                    (or_false-l (ltb long (get_or kinds row no_kind).shortest) (ltb (get_or kinds row no_kind).longest long) right),
              )

          short : length_at (drop at s) ≤ (kind_here (take rows kinds) (drop at s)).longest
          short =
              omega (
                arith,
                long-here,
                longest-is,
                ltb-false (get_or kinds row no_kind).longest long
                    (or_false-r (ltb long (get_or kinds row no_kind).shortest) (ltb (get_or kinds row no_kind).longest long) right),
              )

          pub cut_payload : length s - at < 4 + long → Err (Cut k) ≡ placed at (entry_of (take rows kinds) k (drop at s))
          cut_payload h = fault (short_payload here room known some short (omega (arith, long-here, left_is)))

          pub whole-tag : 4 + long ≤ length s - at → Ok (record { from = at + 4; to = at + 4 + long; kind = kind }) ≡ placed at (entry_of (take rows kinds) k (drop at s))
          whole-tag h =
              let w : Whole (take rows kinds) k (drop at s) =
              record {
                four = here;
                room = room;
                kind = known;
                some = some;
                short = short;
                rest = omega (arith, long-here, left_is);
              } in
              rw (whole_entry w, payload_length w, long-here, kind-is)

-- ---- the row of a kind that is taken
-- Laws that the pages name, though no proof needs them any more.

module _ (s : List ℕ) (rows : ℕ) (two : rows ≤ 2) (k at : ℕ) where
  module _ (four : 4 ≤ length s - at) where
    module _ (room : k ≡ 16 → ⊥) (kind : ℕ) (is : kind ≡ number s (at + 2)) (row : ℕ) (found : row ≡ row_of kind (take rows kinds)) where
      module _ (one : row ≡ rows → ⊥) (long : ℕ) (says : long ≡ number s at) where
        pub in_table : row < 2
        in_table = omega (arith, row_most kind (take rows kinds), rows_long s rows two k at, found, one)
