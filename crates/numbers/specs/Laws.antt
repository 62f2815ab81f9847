-- Laws of answers as numbers, for the proofs.
use Rattle.desk.specs.declared.FeedRefusal.TheVariants as F
use Rattle.desk.specs.Given.{OpenAnswer, FeedAnswer, CloseAnswer, TakeAnswer, ReplaceAnswer}
use Rattle.std.specs.Prelude.{ℕ, ◌<◌, List, ◌≡◌, refl, take, Ok, Err, Some, None}
use Rattle.std.proofs.Common.{arith, ap}
use Rattle.desk.specs.Numbers.{close_number, close_values, feed_number, feed_values, open_number, open_values, replace_number, replace_values, take_number, take_values}
use Rattle.desk.specs.declared.ReplaceRefusal.TheVariants as R
use Rattle.reading.specs.Outside.{Ending}
use Rattle.tables.specs.Building.{built_number, built_values}
use Rattle.tables.specs.Building.{Built}
use Rattle.tables.specs.declared.BuildFault.TheVariants as B
use Rattle.tagset.specs.Answer.{fault_values}
use Rattle.tagset.specs.declared.SetFault.{SetFault}
use Rattle.tagset.specs.declared.SetFault.TheVariants.{Cut, Empty, Kind, Length, Many, Repeat}
use Rattle.numbers.specs.Answers.{ending_number, ending_with}
use Rattle.numbers.specs.declared.Said.{Said}

pub answer-is : {s t : Said} → s ≡ t → s.answer ≡ t.answer
answer-is e = ap (λ (s : Said). s.answer) e

pub refusal_is : {s t : Said} → s ≡ t → s.answer.refusal ≡ t.answer.refusal
refusal_is e = ap (λ (s : Said). s.answer.refusal) e

-- a refusal is returned with two values at most
abbrev pub Few : ℕ → List ℕ → Type 0
Few n values = 0 < n → take 2 values ≡ values

fault-few : (fault : SetFault) → take 2 (fault_values fault) ≡ fault_values fault
fault-few (Cut k) = refl
fault-few (Many k) = refl
fault-few (Kind k) = refl
fault-few (Length k) = refl
fault-few Empty = refl
fault-few (Repeat k) = refl

pub built-few : (r : Built) → Few (built_number r) (built_values r)
built-few (Ok count) h = refl
built-few (Err (B.Set fault)) h = fault-few fault
built-few (Err (B.Table machine needs)) h = refl

pub replace_few : (r : ReplaceAnswer) → Few (replace_number r) (replace_values r)
replace_few (Ok given) h = refl
replace_few (Err (R.Fault fault)) h = fault-few fault
replace_few (Err (R.Table machine needs)) h = refl
replace_few (Err R.EditionEnd) h = refl

pub open_few : (r : OpenAnswer) → Few (open_number r) (open_values r)
open_few (Ok serial) h = refl
open_few (Err why) h = refl

pub feed_few : (r : FeedAnswer) → Few (feed_number r) (feed_values r)
feed_few (Ok a) h = absurd (omega (arith, h))
feed_few (Err F.NoTicket) h = refl
feed_few (Err (F.Stale edition)) h = refl
feed_few (Err F.Long) h = refl

pub close_few : (r : CloseAnswer) → Few (close_number r) (close_values r)
close_few (Ok done) h = refl
close_few (Err why) h = refl

pub take-few : (r : TakeAnswer) → Few (take_number r) (take_values r)
take-few (Some oldest) h = absurd (omega (arith, h))
take-few None h = refl

pub ending-few : (more : List ℕ) (taken records : ℕ) (r : Ending) → Few (ending_number r) (ending_with more taken records r)
ending-few more taken records (Ok stop) h = absurd (omega (arith, h))
ending-few more taken records (Err why) h = refl
