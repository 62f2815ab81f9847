-- TAKING MANY IS TAKINGS, in a history's words: after any history, a taking of many leaves what as many takings as it answers leave, and
-- writes the numbers of the records that those hand out, in order.
use Rattle.desk.specs.Numbers.{take_values}
use Rattle.std.specs.Prelude.{ℕ, zero, suc, ◌*◌, ◌/◌, ◌%◌, ◌≤◌, min, List, [], ◌∷◌, ◌++◌, ◌≡◌, refl, drop, get_or, length, replicate, take, Some}
use Rattle.std.proofs.Common.{◌∙◌, ap, sym, arith}
use Rattle.std.proofs.Math.Nat.{min-le_left}
use Rattle.desk.specs.Laws.Shared.{held-length, held-popped}
use Rattle.desk.specs.Laws.TakeMany.{many-takings}
use Rattle.desk.specs.Shared.{held, no_record, popped}
use Rattle.desk.specs.TakeMany.{list_taken, many_of, oldest, record_numbers, take_many_of}
use Rattle.desk.specs.declared.Record.{Record}
use Rattle.desk.specs.declared.Records.{Records}
use Rattle.history.specs.History.{run, start, with_out, World}
use Rattle.history.specs.Laws.Takings.{takes_run}
use Rattle.desk.specs.Reached.{Call, call_take}
use Rattle.desk.specs.Layout.{Kind}
use Rattle.desk.specs.Limits.{most_records}

-- the records that some calls hand out from a world on, in order
abbrev pub handed_by : World → List Call → List Record
handed_by w calls = drop (length w.out) (run w calls).out

-- how many records a taking of many answers that is lent a list of so many numbers
abbrev pub answered : World → ℕ → ℕ
answered w len = (take_many_of w.desk len).answer

-- the world after it: the desk as the call leaves it, and so many of the records that were held are handed out, the oldest first; nothing
-- else changes
abbrev pub took_many : World → ℕ → World
took_many w len = with_out w (take_many_of w.desk len).desk (w.out ++ take (answered w len) (held w.desk.records))

-- what takings tell that hand out these records: the values of each answer, one answer behind another
unfoldable pub told : List Record → List ℕ
told [] = []
told (r ∷ rs) = take_values (Some r) ++ told rs

numbers_told : (rs : List Record) → record_numbers rs ≡ told rs
unfolding told record_numbers
numbers_told [] = refl
numbers_told (r ∷ rs) = ap (λ (l : List ℕ). take_values (Some r) ++ l) (numbers_told rs)

pub record ManyTakings (w : World) (list : List ℕ) : Type 0 where
  -- it answers the number of the records held, or of those that the list has room for, whichever is less
  pub count : answered w (length list) ≡ min (length (held w.desk.records)) (length list / 4)
  -- the world after it is that after so many takings
  pub takings : took_many w (length list) ≡ run w (replicate (answered w (length list)) call_take)
  -- each of which hands out a record
  pub each : length (handed_by w (replicate (answered w (length list)) call_take)) ≡ answered w (length list)
  -- the list after it: the numbers of the records that those takings hand out, then what stood there
  pub written :
      list_taken w.desk list (many_of w.desk (length list))
      ≡ told (handed_by w (replicate (answered w (length list)) call_take)) ++ drop (4 * answered w (length list)) list

oldest-take : (n : ℕ) (q : Records) → n ≤ q.count → oldest n q ≡ take n (held q)
unfolding oldest
oldest-take zero q h = refl
oldest-take (suc n) q h =
    ap {B = List Record} (λ (l : List Record). get_or q.ring (q.first % most_records) no_record ∷ l) (oldest-take n (popped q) (omega (arith, h)))
    ∙ ap (λ (l : List Record). take (suc n) l) (sym (held-popped q (omega (arith, h))))

oldest-length : (n : ℕ) (q : Records) → length (oldest n q) ≡ n
unfolding oldest
oldest-length zero q = refl
oldest-length (suc n) q = ap suc (oldest-length n (popped q))

drop-front : (a b : List Record) → drop (length a) (a ++ b) ≡ b
drop-front [] b = refl
drop-front (x ∷ a) b = drop-front a b

-- in any world
pub many_are_takings : (w : World) (list : List ℕ) → ManyTakings w list
unfolding take_many_of list_taken
many_are_takings w list = record {
  count = ap (λ (k : ℕ). min k (length list / 4)) (sym (held-length w.desk.records));
  takings = ap (λ (l : List Record). with_out w (take_many_of w.desk (length list)).desk (w.out ++ l)) (sym (oldest-take n w.desk.records few))
      ∙ sym all;
  each = ap length handed ∙ oldest-length n w.desk.records;
  written = ap (λ (l : List Record). record_numbers l ++ drop (4 * n) list) (sym handed)
      ∙ ap (λ (l : List ℕ). l ++ drop (4 * n) list) (numbers_told (handed_by w (replicate n call_take)));
}
  where
    n : ℕ
    n = many_of w.desk (length list)

    few : n ≤ w.desk.records.count
    few = min-le_left w.desk.records.count (length list / 4)

    all : run w (replicate n call_take) ≡ with_out w (take_many_of w.desk (length list)).desk (w.out ++ oldest n w.desk.records)
    all = takes_run w refl (many-takings n w.desk few)

    handed : handed_by w (replicate n call_take) ≡ oldest n w.desk.records
    handed = ap (λ (x : World). drop (length w.out) x.out) all ∙ drop-front w.out (oldest n w.desk.records)

-- so after any history of calls
pub after_any_history : (kind : Kind) (calls : List Call) (list : List ℕ) → ManyTakings (run (start kind) calls) list
after_any_history kind calls list = many_are_takings (run (start kind) calls) list
