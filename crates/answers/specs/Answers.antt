-- Answers as text: words, and each number in decimal with a blank before it.
use Rattle.desk.specs.Given.{OpenAnswer, FeedAnswer, CloseAnswer, TakeAnswer, ReplaceAnswer}
use Rattle.desk.specs.declared.StateAnswer.TheVariants as A
use Rattle.std.specs.Prelude.{ℕ, zero, suc, List, [], ◌∷◌, ◌++◌}
use Rattle.desk.specs.Numbers.{close_number, close_values, feed_number, feed_values, open_number, open_values, replace_number, replace_values, take_number, take_values}
use Rattle.desk.specs.declared.Edition.{Edition}
use Rattle.desk.specs.declared.StateAnswer.{StateAnswer}
use Rattle.numbers.specs.Answers.{answer_of, ending_number, ending_values, moved_values}
use Rattle.numbers.specs.declared.Answer.{Answer}
use Rattle.numbers.specs.declared.Said.{Said}
use Rattle.reading.specs.Outside.{Ending}
use Rattle.tables.specs.Building.{built_number, built_values}
use Rattle.tables.specs.Building.{Built}
use Rattle.output.specs.Decimal.{decimal_of}

-- words, and a number behind them
abbrev pub numbered : List ℕ → ℕ → List ℕ
numbered words n = words ++ decimal_of n

-- numbers behind a text, each with a blank before it
unfoldable pub listed : List ℕ → List ℕ → List ℕ
listed text [] = text
listed text (n ∷ ns) = listed (text ++ numbered (32 ∷ []) n) ns

-- a whole line
abbrev pub ended : List ℕ → List ℕ
ended text = text ++ (10 ∷ [])

-- one word and one number: `set`, `lent`, `serial`, `closed`, `tags`, `poked`
abbrev pub word_line : List ℕ → ℕ → List ℕ
word_line word n = ended (numbered word n)

-- `line N: not a call`
abbrev pub not_acall_line : ℕ → List ℕ
not_acall_line n = numbered (108 ∷ 105 ∷ 110 ∷ 101 ∷ 32 ∷ []) n ++ (58 ∷ 32 ∷ 110 ∷ 111 ∷ 116 ∷ 32 ∷ 97 ∷ 32 ∷ 99 ∷ 97 ∷ 108 ∷ 108 ∷ 10 ∷ [])

-- `refused`, its number, and the values that are returned with it
unfoldable pub refused_line : ℕ → List ℕ → List ℕ
refused_line n values = ended (numbered (114 ∷ 101 ∷ 102 ∷ 117 ∷ 115 ∷ 101 ∷ 100 ∷ 32 ∷ []) n ++ listed [] values)

-- as many of the first two values as there are
abbrev pub first_two : ℕ → ℕ → ℕ → List ℕ
first_two zero a b = []
first_two (suc zero) a b = a ∷ []
first_two (suc (suc n)) a b = a ∷ b ∷ []

-- the line of a refusal by what was said of it
abbrev pub said_line : Said → List ℕ
said_line s = refused_line s.answer.refusal (first_two s.count s.answer.a s.answer.b)

-- an answer by its number and values: the line of its refusal, or the text of what the call gives
unfoldable pub answer_line : (Answer → List ℕ) → ℕ → List ℕ → List ℕ
answer_line given zero values = given (answer_of 0 values)
answer_line given (suc n) values = refused_line (suc n) values

-- `edition E tags N`
abbrev pub edition_line : Answer → List ℕ
edition_line given = ended
    (numbered (101 ∷ 100 ∷ 105 ∷ 116 ∷ 105 ∷ 111 ∷ 110 ∷ 32 ∷ []) given.a ++ numbered (32 ∷ 116 ∷ 97 ∷ 103 ∷ 115 ∷ 32 ∷ []) given.b)

abbrev pub replace_line : ReplaceAnswer → List ℕ
replace_line said = answer_line edition_line (replace_number said) (replace_values said)

-- `serial S`
abbrev pub serial_line : Answer → List ℕ
serial_line given = word_line (115 ∷ 101 ∷ 114 ∷ 105 ∷ 97 ∷ 108 ∷ 32 ∷ []) given.a

abbrev pub open_line : OpenAnswer → List ℕ
open_line said = answer_line serial_line (open_number said) (open_values said)

-- why a reading stopped, by its number
unfoldable pub stop_word : ℕ → List ℕ
stop_word zero = 32 ∷ 115 ∷ 116 ∷ 111 ∷ 112 ∷ 32 ∷ 65 ∷ 76 ∷ 76 ∷ []
stop_word (suc zero) = 32 ∷ 115 ∷ 116 ∷ 111 ∷ 112 ∷ 32 ∷ 70 ∷ 85 ∷ 76 ∷ 76 ∷ []
stop_word (suc (suc n)) = 32 ∷ 115 ∷ 116 ∷ 111 ∷ 112 ∷ 32 ∷ 68 ∷ 65 ∷ 77 ∷ 65 ∷ 71 ∷ 69 ∷ 68 ∷ []

-- `taken N stop WHY`
abbrev pub fed_part : Answer → List ℕ
fed_part given = numbered (116 ∷ 97 ∷ 107 ∷ 101 ∷ 110 ∷ 32 ∷ []) given.a ++ stop_word given.b

abbrev pub fed_line : Answer → List ℕ
fed_line given = ended (fed_part given)

abbrev pub feed_line : FeedAnswer → List ℕ
feed_line said = answer_line fed_line (feed_number said) (feed_values said)

-- `closed` and the serial that was closed
abbrev pub closed_line : ℕ → Answer → List ℕ
closed_line serial given = word_line (99 ∷ 108 ∷ 111 ∷ 115 ∷ 101 ∷ 100 ∷ 32 ∷ []) serial

abbrev pub close_line : ℕ → CloseAnswer → List ℕ
close_line serial said = answer_line (closed_line serial) (close_number said) (close_values said)

-- `stale` or `open`, and the ticket's edition and bytes taken
abbrev pub held_part : List ℕ → Edition → ℕ → List ℕ
held_part words edition count = ended (numbered words edition.0 ++ numbered (32 ∷ []) count)

-- the state of a ticket behind its serial: `never`, `closed`, `stale E N` or `open E N`
abbrev pub state_part : StateAnswer → List ℕ
state_part A.Never = 32 ∷ 110 ∷ 101 ∷ 118 ∷ 101 ∷ 114 ∷ 10 ∷ []
state_part A.Closed = 32 ∷ 99 ∷ 108 ∷ 111 ∷ 115 ∷ 101 ∷ 100 ∷ 10 ∷ []
state_part (A.Stale edition count) = held_part (32 ∷ 115 ∷ 116 ∷ 97 ∷ 108 ∷ 101 ∷ 32 ∷ []) edition count
state_part (A.Open edition count) = held_part (32 ∷ 111 ∷ 112 ∷ 101 ∷ 110 ∷ 32 ∷ []) edition count

abbrev pub state_line : ℕ → StateAnswer → List ℕ
state_line serial answer = numbered (115 ∷ 116 ∷ 97 ∷ 116 ∷ 101 ∷ 32 ∷ []) serial ++ state_part answer

-- `record`, and the record's serial, edition, end and tag
abbrev pub record_line : Answer → List ℕ
record_line given =
    ended (numbered (114 ∷ 101 ∷ 99 ∷ 111 ∷ 114 ∷ 100 ∷ 32 ∷ []) given.a ++ numbered (32 ∷ []) given.b ++ numbered (32 ∷ []) given.c ++ numbered
    (32 ∷ []) given.d)

abbrev pub take_line : TakeAnswer → List ℕ
take_line said = answer_line record_line (take_number said) (take_values said)

-- `tags N`
abbrev pub tags_line : Answer → List ℕ
tags_line given = word_line (116 ∷ 97 ∷ 103 ∷ 115 ∷ 32 ∷ []) given.a

abbrev pub built_line : Built → List ℕ
built_line said = answer_line tags_line (built_number said) (built_values said)

-- `numbers` and the numbers
abbrev pub numbers_line : List ℕ → List ℕ
numbers_line numbers = ended ((110 ∷ 117 ∷ 109 ∷ 98 ∷ 101 ∷ 114 ∷ 115 ∷ []) ++ listed [] numbers)

-- `taken T stop WHY records R`
abbrev pub records_part : Answer → List ℕ
records_part given = fed_part given ++ numbered (32 ∷ 114 ∷ 101 ∷ 99 ∷ 111 ∷ 114 ∷ 100 ∷ 115 ∷ 32 ∷ []) given.c

-- ` place P...`, and on a line of its own the list
abbrev pub place_part : List ℕ → List ℕ → List ℕ
place_part place list = ended ((32 ∷ 112 ∷ 108 ∷ 97 ∷ 99 ∷ 101 ∷ []) ++ listed [] place) ++ ended ((108 ∷ 105 ∷ 115 ∷ 116 ∷ []) ++ listed [] list)

-- a read outside that stopped
abbrev pub stopped_lines : List ℕ → List ℕ → Answer → List ℕ
stopped_lines place list given = records_part given ++ place_part place list

-- one over a bitmap table: ` moves M` before the place
abbrev pub moved_lines : List ℕ → List ℕ → Answer → List ℕ
moved_lines place list given = records_part given ++ numbered (32 ∷ 109 ∷ 111 ∷ 118 ∷ 101 ∷ 115 ∷ 32 ∷ []) given.d ++ place_part place list

abbrev pub read_lines : ℕ → Ending → ℕ → List ℕ → List ℕ → List ℕ
read_lines count ending records place list = answer_line (stopped_lines place list) (ending_number ending) (ending_values count records ending)

abbrev pub map_lines : ℕ → Ending → ℕ → ℕ → List ℕ → List ℕ → List ℕ
map_lines count ending records moves place list = answer_line (moved_lines place list) (ending_number ending) (moved_values count records moves ending)
