-- Laws of lines that are read piece by piece.
use Rattle.std.specs.Prelude.{ℕ, ◌+◌, ◌-◌, ◌≤◌, ◌<◌, ◌≡◌, refl, List, ◌++◌, true, false, ltb, length, take}
use Rattle.std.proofs.Common.{arith, sym, ap, ◌∙◌, lt-ltb, le-ltb, length-append, length-take-le, take_all}
use Rattle.script.specs.Words.{reach}
use Rattle.std.proofs.Math.Seq.{paste, take-append-add, take-length}
use Rattle.std.proofs.lemmas.List.Edits.{take-paste}

-- more bytes than there is room for: what is kept fills the line
pub kept-part : (l d m : List ℕ) (n : ℕ) → n ≤ length l → length l - n < length m
    → d ≡ paste l n (take (length l - n - 0) m) (length (take (length l - n - 0) m))
    → take (n + (length l - n)) d ≡ take (length l) (take n l ++ m)
kept-part l d m n h g e = filled (length l - n) refl
  where
    filled : (room : ℕ) → length l - n ≡ room → take (n + (length l - n)) d ≡ take (length l) (take n l ++ m)
    filled room f =
        let zero : length l - n - 0 ≡ room = omega arith in
        let few : room ≤ length m = omega arith in
        let long : length (take room m) ≡ room = length-take-le room m few in
        let whole : length (take n l) + room ≡ length l = omega (arith, length-take-le n l h) in
        ap (λ (k : ℕ). take (n + k) d) f
        ∙ ap (take (n + room)) (e ∙ ap (λ (k : ℕ). paste l n (take k m) (length (take k m))) zero)
        ∙ ap (λ (k : ℕ). take (n + k) (paste l n (take room m) (length (take room m)))) (sym long)
        ∙ take-paste l n (take room m) (length (take room m)) h (omega arith)
        ∙ ap (λ (p : List ℕ). take n l ++ p) (take-length (take room m))
        ∙ sym (take-append-add (take n l) m room)
        ∙ ap (λ (k : ℕ). take k (take n l ++ m)) whole

-- all of them, where there is room
pub kept-all : (l d m : List ℕ) (n : ℕ) → n ≤ length l → length m ≤ length l - n → d ≡ paste l n m (length m)
    → take (n + length m) d ≡ take (length l) (take n l ++ m)
kept-all l d m n h g e =
    ap (take (n + length m)) e
    ∙ take-paste l n m (length m) h (omega arith)
    ∙ ap (λ (p : List ℕ). take n l ++ p) (take-length m)
    ∙ sym (take_all (length l) (take n l ++ m) short)
  where
    short : length (take n l ++ m) ≤ length l
    short = omega (arith, length-append (take n l) m, length-take-le n l h)

-- what a piece adds to a line

pub part-kept : (line piece : List ℕ) (n r : ℕ) → r ≡ reach 10 piece
    → take (length line) (take n line ++ take (r - 0) piece) ≡ take (length line) (take n line ++ take (reach 10 piece) piece)
part-kept line piece n r e = ap (λ (k : ℕ). take (length line) (take n line ++ take k piece)) (let f : r - 0 ≡ reach 10 piece = omega arith in f)

pub part-ended : (piece : List ℕ) (r : ℕ) → r ≡ reach 10 piece → r < length piece → true ≡ ltb (reach 10 piece) (length piece)
part-ended piece r e h = sym (lt-ltb (reach 10 piece) (length piece) (omega arith))

pub part_open : (piece : List ℕ) (r : ℕ) → r ≡ reach 10 piece → length piece ≤ r → false ≡ ltb (reach 10 piece) (length piece)
part_open piece r e h = sym (le-ltb (reach 10 piece) (length piece) (omega arith))
