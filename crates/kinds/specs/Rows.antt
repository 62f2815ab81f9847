-- Rows of the table of kinds, and which of them a reader takes.
use Rattle.std.specs.Prelude.{suc, ℕ, false, true, List, [], ◌∷◌, eqb, take}
use Rattle.matching.specs.Kinds.{TagKind, kinds}
use Rattle.kinds.specs.declared.Takes.{Takes}
use Rattle.kinds.specs.declared.Takes.TheVariants.{BothKinds, ExactAlone}

-- the kinds that a reader of sets takes
abbrev pub kinds_taken : Takes → List TagKind
kinds_taken ExactAlone = take 1 kinds
kinds_taken BothKinds = take 2 kinds

-- the row in which the kind of a number stands; the number of rows where it is in none
unfoldable pub row_of : ℕ → List TagKind → ℕ
row_of number [] = 0
row_of number (k ∷ ks) = elim (eqb k.number number) [ true ↦ 0 | false ↦ suc (row_of number ks) ]
