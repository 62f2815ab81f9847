-- What a call of the library gives: the desk or the gate after it as the call itself leaves it, and its answer as numbers.
use Rattle.desk.specs.Given.{Opening, Feeding, Closing, Taking, Replacing, TakingMany}
use Rattle.gate.specs.Given.{Changing, Beginning, Piecing, Deciding}
use Rattle.std.specs.Prelude.{List, ◌≡◌, ℕ}
use Rattle.gate_numbers.specs.Answers.{piece_answer, verdict_answer}
use Rattle.exports.specs.declared.GateReply.{GateReply}
use Rattle.exports.specs.declared.MapReply.{MapReply}
use Rattle.exports.specs.declared.Reply.{Reply}
use Rattle.exports.specs.declared.SplitReply.{SplitReply}
use Rattle.exports.specs.declared.TakenMany.{TakenMany}
use Rattle.exports.specs.declared.WholeReply.{WholeReply}
use Rattle.numbers.specs.Answers.{close_answer, feed_answer, moved_answer, open_answer, replace_answer, split_said, take_answer, whole_said}
use Rattle.numbers.specs.declared.Answer.{Answer}
use Rattle.reading.specs.Outside.{ReadAt, ReadOf, list_by, split_by, whole_by}
use Rattle.bitmap_reading.specs.Outside.{map_by}
use Rattle.bitmap_reading.specs.declared.Standing.{Standing}
use Rattle.reading.specs.declared.Answer.{Answer as Read}

-- ---- of the desk

abbrev pub ReplaceTold : Reply → Replacing → Type 0
ReplaceTold r x = (r.desk ≡ x.desk) × (r.answer ≡ replace_answer x.answer)

abbrev pub OpenTold : Reply → Opening → Type 0
OpenTold r x = (r.desk ≡ x.desk) × (r.answer ≡ open_answer x.answer)

abbrev pub FeedTold : Reply → Feeding → Type 0
FeedTold r x = (r.desk ≡ x.desk) × (r.answer ≡ feed_answer x.answer)

abbrev pub CloseTold : Reply → Closing → Type 0
CloseTold r x = (r.desk ≡ x.desk) × (r.answer ≡ close_answer x.answer)

abbrev pub TakeTold : Reply → Taking → Type 0
TakeTold r x = (r.desk ≡ x.desk) × (r.answer ≡ take_answer x.answer)

abbrev pub ManyTold : TakenMany → TakingMany → Type 0
ManyTold r x = (r.desk ≡ x.desk) × (r.count ≡ x.answer)

-- ---- of the gate

abbrev pub ChangeTold : GateReply → Changing → Type 0
ChangeTold r x = (r.gate ≡ x.gate) × (r.answer ≡ replace_answer x.answer)

abbrev pub BeginTold : GateReply → Beginning → Type 0
BeginTold r x = (r.gate ≡ x.gate) × (r.answer ≡ open_answer x.answer)

abbrev pub PieceTold : GateReply → Piecing → Type 0
PieceTold r x = (r.gate ≡ x.gate) × (r.answer ≡ piece_answer x.answer)

abbrev pub DecideTold : GateReply → Deciding → Type 0
DecideTold r x = (r.gate ≡ x.gate) × (r.answer ≡ verdict_answer x.answer)

-- ---- of a read outside: its answer, the place after it, and the list after it, from a place and a list before it

abbrev pub SplitTold : SplitReply → (place before after : List ℕ) → ReadOf → Type 0
SplitTold r place before after x = (r.answer ≡ split_said (split_by place x)) × (r.place ≡ (split_by place x).place) × (after ≡ list_by before x)

abbrev pub WholeTold : WholeReply → (place : ℕ) (before after : List ℕ) → ReadOf → Type 0
WholeTold r place before after x = (r.answer ≡ whole_said (whole_by place x)) × (r.place ≡ (whole_by place x).place) × (after ≡ list_by before x)

-- with the failure moves of the bytes taken
abbrev pub map_said : Read Standing → Answer
map_said r = moved_answer r.taken r.records r.place.moves r.ending

abbrev pub MapTold : MapReply → (place : ℕ) (before after : List ℕ) → ReadAt Standing → Type 0
MapTold r place before after x = (r.answer ≡ map_said (map_by place x)) × (r.place ≡ (map_by place x).place.state) × (after ≡ list_by before x)
