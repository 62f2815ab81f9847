-- Answers as numbers, for C and Rust: the number of a refusal in the rules' table and what is returned with it; or 0 and what the call gives.
use Rattle.desk.specs.Given.{OpenAnswer, FeedAnswer, CloseAnswer, TakeAnswer, ReplaceAnswer}
use Rattle.std.specs.Prelude.{Err, Ok, ℕ, List, [], ◌∷◌, get_or, length}
use Rattle.desk.specs.Numbers.{close_number, close_values, feed_number, feed_values, open_number, open_values, replace_number, replace_values}
use Rattle.desk.specs.Numbers.{state_values, stop_number, take_number, take_values}
use Rattle.desk.specs.declared.StateAnswer.{StateAnswer}
use Rattle.numbers.specs.declared.Answer.{Answer}
use Rattle.numbers.specs.declared.Said.{Said}
use Rattle.reading.specs.Outside.{Ending, read_values}
pub use Rattle.reading.specs.Refusals.{ending_number}
use Rattle.reading.specs.declared.Answer.{Answer as Read}
use Rattle.tables.specs.Building.{built_number, built_values, needed_number, needed_values}
use Rattle.tables.specs.Building.{Built}
use Rattle.tables.specs.Building.{Needs}

-- a number and up to seven values; those that there aren't are 0
abbrev pub answer_of : ℕ → List ℕ → Answer
answer_of n values = record {
  refusal = n;
  a = get_or values 0 0;
  b = get_or values 1 0;
  c = get_or values 2 0;
  d = get_or values 3 0;
  e = get_or values 4 0;
  f = get_or values 5 0;
  g = get_or values 6 0;
}

-- with the number of its values
abbrev pub said_of : ℕ → List ℕ → Said
said_of n values = record { answer = answer_of n values; count = length values }

-- building: the number of tags, or what is returned with its refusal
abbrev pub built_answer : Built → Answer
built_answer r = answer_of (built_number r) (built_values r)

-- a size query: the slots of a layout's first table and of its second, 0 where it has one table only
abbrev pub needed_answer : Needs → Answer
needed_answer r = answer_of (needed_number r) (needed_values r)

-- the desk's calls, each by the desk's own numbers and values
abbrev pub replace_answer : ReplaceAnswer → Answer
replace_answer r = answer_of (replace_number r) (replace_values r)

abbrev pub open_answer : OpenAnswer → Answer
open_answer r = answer_of (open_number r) (open_values r)

abbrev pub feed_answer : FeedAnswer → Answer
feed_answer r = answer_of (feed_number r) (feed_values r)

abbrev pub close_answer : CloseAnswer → Answer
close_answer r = answer_of (close_number r) (close_values r)

abbrev pub take_answer : TakeAnswer → Answer
take_answer r = answer_of (take_number r) (take_values r)

-- the state of a ticket, never refused
abbrev pub state_answer : StateAnswer → Answer
state_answer r = answer_of 0 (state_values r)

-- a read outside: the bytes taken, why it stopped, the records written, and what else its layout tells
abbrev pub ending_with : List ℕ → ℕ → ℕ → Ending → List ℕ
ending_with more count records (Ok stop) = count ∷ stop_number stop ∷ records ∷ more
ending_with more count records (Err why) = read_values why

-- over a split or a whole-byte table nothing else; over a bitmap table the failure moves of the bytes taken
abbrev pub ending_values : ℕ → ℕ → Ending → List ℕ
ending_values count records ending = ending_with [] count records ending

abbrev pub moved_values : ℕ → ℕ → ℕ → Ending → List ℕ
moved_values count records moves ending = ending_with (moves ∷ []) count records ending

abbrev pub read_answer : ℕ → ℕ → Ending → Answer
read_answer count records ending = answer_of (ending_number ending) (ending_values count records ending)

abbrev pub moved_answer : ℕ → ℕ → ℕ → Ending → Answer
moved_answer count records moves ending = answer_of (ending_number ending) (moved_values count records moves ending)

abbrev pub split_said : Read (List ℕ) → Answer
split_said r = read_answer r.taken r.records r.ending

abbrev pub whole_said : Read ℕ → Answer
whole_said r = read_answer r.taken r.records r.ending
