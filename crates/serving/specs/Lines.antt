-- The lines that the bench program writes, as bytes; 32 is a blank, 10 a line's end.
use Rattle.desk.specs.Given.{ReplaceAnswer}
use Rattle.std.specs.Prelude.{ℕ, zero, suc, ◌+◌, ◌*◌, List, [], ◌∷◌, ◌++◌, get_or, Ok, Err}
use Rattle.answers.specs.Answers.{replace_line, word_line}
use Rattle.desk.specs.Numbers.{replace_number}
use Rattle.desk.specs.declared.Record.{Record}
use Rattle.desk.specs.declared.ReplaceRefusal.TheVariants as R
use Rattle.output.specs.Decimal.{decimal_of}

-- the line for the set, as `replay` writes it; of TABLE the number alone
abbrev pub answer_line : ReplaceAnswer → List ℕ
answer_line (Ok given) = replace_line (Ok given)
answer_line (Err (R.Fault fault)) = replace_line (Err (R.Fault fault))
answer_line (Err (R.Table machine needs)) = word_line (114 ∷ 101 ∷ 102 ∷ 117 ∷ 115 ∷ 101 ∷ 100 ∷ 32 ∷ []) (replace_number (Err (R.Table machine needs)))
answer_line (Err R.EditionEnd) = replace_line (Err R.EditionEnd)

-- `SERIAL END TAG`
abbrev pub record_line : ℕ → ℕ → ℕ → List ℕ
record_line serial end tag = decimal_of serial ++ ((32 ∷ []) ++ (decimal_of end ++ ((32 ∷ []) ++ (decimal_of tag ++ (10 ∷ [])))))

-- a line for each of the first n records of a list, four numbers each: serial, edition, end, tag
unfoldable pub record_lines : ℕ → List ℕ → List ℕ
record_lines zero list = []
record_lines (suc n) list = record_lines n list ++ record_line (get_or list (4 * n) 0) (get_or list (4 * n + 2) 0) (get_or list (4 * n + 3) 0)

-- a line for each record
unfoldable pub lines_of : List Record → List ℕ
lines_of [] = []
lines_of (r ∷ rs) = record_line r.serial.0 r.end r.tag.0 ++ lines_of rs

-- `taken T`
abbrev pub taken_line : ℕ → List ℕ
taken_line taken = word_line (116 ∷ 97 ∷ 107 ∷ 101 ∷ 110 ∷ 32 ∷ []) taken
