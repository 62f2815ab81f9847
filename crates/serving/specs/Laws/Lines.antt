-- The lines of records that stand in a list as numbers.
use Rattle.std.specs.Prelude.{ℕ, zero, suc, ◌+◌, ◌*◌, ◌%◌, List, ◌∷◌, ◌++◌, ◌≡◌, refl, get_or}
use Rattle.std.proofs.Common.{append_assoc, append-nil, ◌∙◌, sym, ap, arith}
use Rattle.desk.specs.declared.Records.{Records}
use Rattle.desk.specs.TakeMany.{oldest, record_numbers}
use Rattle.desk.specs.Shared.{no_record, popped}
use Rattle.serving.specs.Lines.{record_line, record_lines, lines_of}

-- the line of the first record comes first
first_line : (n s e end tag : ℕ) (list : List ℕ) → record_lines (suc n) (s ∷ e ∷ end ∷ tag ∷ list) ≡ record_line s end tag ++ record_lines n list
unfolding record_lines
first_line zero s e end tag list = sym (append-nil (record_line s end tag))
first_line (suc n) s e end tag list =
    let fourth : 4 * suc n ≡ suc (suc (suc (suc (4 * n)))) = omega arith in
    let fourth_end : 4 * suc n + 2 ≡ suc (suc (suc (suc (4 * n + 2)))) = omega arith in
    let fourth_tag : 4 * suc n + 3 ≡ suc (suc (suc (suc (4 * n + 3)))) = omega arith in
    let last = record_line (get_or list (4 * n) 0) (get_or list (4 * n + 2) 0) (get_or list (4 * n + 3) 0) in
    rw (fourth_end, fourth_tag, fourth)
    (ap (λ (l : List ℕ). l ++ last) (first_line n s e end tag list) ∙ append_assoc (record_line s end tag) (record_lines n list) last)

pub numbered-lines : (n : ℕ) (q : Records) (rest : List ℕ) → record_lines n (record_numbers (oldest n q) ++ rest) ≡ lines_of (oldest n q)
unfolding record_lines record_numbers oldest lines_of
numbered-lines zero q rest = refl
numbered-lines (suc n) q rest =
    let r = get_or q.ring (q.first % 256) no_record in
    first_line n r.serial.0 r.edition.0 r.end r.tag.0 (record_numbers (oldest n (popped q)) ++ rest)
    ∙ ap (λ (l : List ℕ). record_line r.serial.0 r.end r.tag.0 ++ l) (numbered-lines n (popped q) rest)
