-- Numbers noted into a run: one more, none, and as the tags of two walks.
use Rattle.std.specs.Prelude.{◌<◌, ◌≤◌, suc, zero, ℕ, List, [], ◌++◌, ◌∷◌, ◌≡◌, refl, get_or, length, replicate, set, take}
use Rattle.std.proofs.Common.{ap, ap₂, le_of_suc-le-suc, arith}
use Rattle.std.specs.Int.Bits.{bit_or, or_zero_l}
use Rattle.matching.specs.Laws.Unions.{union-ones}
use Rattle.matching.specs.Limits.{most_tags}
use Rattle.matching.specs.Reading.{ones_of}
use Rattle.passing.specs.Laws.Passing.{ones_none}
use Rattle.blocks.specs.Noting.{ored, tag_rows, unions}

pub ored-long : (vs hits : List ℕ) → length (ored vs hits) ≡ length hits
unfolding ored
ored-long [] hits = refl
ored-long (v ∷ vs) [] = refl
ored-long (v ∷ vs) (h ∷ hits) = ap suc (ored-long vs hits)

-- behind what is noted the run is as it was
pub ored-at : (vs hits : List ℕ) → get_or (ored vs hits) (length vs) 0 ≡ get_or hits (length vs) 0
unfolding ored
ored-at [] hits = refl
ored-at (v ∷ vs) [] = refl
ored-at (v ∷ vs) (h ∷ hits) = ored-at vs hits

-- one number more
pub ored_snoc : (vs hits : List ℕ) (v : ℕ) → set (ored vs hits) (length vs) (bit_or v (get_or hits (length vs) 0)) ≡ ored (vs ++ v ∷ []) hits
unfolding ored
ored_snoc [] [] v = refl
ored_snoc [] (x ∷ hits) v = refl
ored_snoc (u ∷ vs) [] v = refl
ored_snoc (u ∷ vs) (x ∷ hits) v = ap {B = List ℕ} (λ (l : List ℕ). bit_or u x ∷ l) (ored_snoc vs hits v)

-- noting nothing
pub ored-none : (n : ℕ) (hits : List ℕ) → n ≤ length hits → ored (replicate n 0) hits ≡ hits
unfolding ored
ored-none zero hits h = refl
ored-none (suc n) [] h = absurd (omega arith)
ored-none (suc n) (x ∷ hits) h = ap₂ ◌∷◌ (or_zero_l x) (ored-none n hits (le_of_suc-le-suc h))

pub rows_none : (n : ℕ) → tag_rows (replicate n 0) ≡ replicate n []
rows_none zero = refl
rows_none (suc n) = ap₂ ◌∷◌ (ones_none 0 most_tags) (rows_none n)

pub rows_snoc : (vs : List ℕ) (v : ℕ) → tag_rows (vs ++ v ∷ []) ≡ tag_rows vs ++ ones_of 0 most_tags v ∷ []
rows_snoc [] v = refl
rows_snoc (u ∷ vs) v = ap {B = List (List ℕ)} (λ (l : List (List ℕ)). ones_of 0 most_tags u ∷ l) (rows_snoc vs v)

pub rows_take : (n : ℕ) (vs : List ℕ) → take n (tag_rows vs) ≡ tag_rows (take n vs)
rows_take zero vs = refl
rows_take (suc n) [] = refl
rows_take (suc n) (v ∷ vs) = ap {B = List (List ℕ)} (λ (l : List (List ℕ)). ones_of 0 most_tags v ∷ l) (rows_take n vs)

-- the run then has the tags of what was noted and of what it had
pub rows-ored : (vs hits : List ℕ) → length vs ≤ length hits
    → unions (tag_rows vs) (tag_rows (take (length vs) hits)) ≡ tag_rows (take (length vs) (ored vs hits))
unfolding ored unions
rows-ored [] hits h = refl
rows-ored (v ∷ vs) [] h = absurd (omega arith)
rows-ored (v ∷ vs) (x ∷ hits) h = ap₂ ◌∷◌ (union-ones most_tags 0 v x) (rows-ored vs hits (le_of_suc-le-suc h))

pub rows_at : (end : ℕ) (hits : List ℕ) (i : ℕ) → i < end → end ≤ length hits → get_or (tag_rows (take end hits)) i [] ≡ ones_of 0 most_tags (get_or hits i 0)
rows_at zero hits i h l = absurd (omega arith)
rows_at (suc end) [] i h l = absurd (omega arith)
rows_at (suc end) (x ∷ hits) zero h l = refl
rows_at (suc end) (x ∷ hits) (suc i) h l = rows_at end hits i (le_of_suc-le-suc h) (le_of_suc-le-suc l)
