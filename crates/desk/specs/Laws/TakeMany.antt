-- Taking many at once is so many takings.
use Rattle.desk.specs.Given.{Taking}
use Rattle.std.specs.Prelude.{◌%◌, ◌/◌, ◌<◌, ◌≤◌, suc, zero, ℕ, List, [], ◌∷◌, ◌≡◌, refl, get_or, Some}
use Rattle.std.proofs.Common.{ap, subst, sym, arith}
use Rattle.std.proofs.Math.Nat.{min-le_left}
use Rattle.desk.specs.Calls.{take_of, with_records}
use Rattle.desk.specs.Laws.Views.{Takes, take-nothing, take-oldest, takes}
use Rattle.desk.specs.Reached.{Reached, by_call, call_take}
use Rattle.desk.specs.Shared.{no_record, popped}
use Rattle.desk.specs.TakeMany.{many_of, oldest, take_many_of, without}
use Rattle.desk.specs.declared.Desk.{Desk}
use Rattle.desk.specs.declared.Record.{Record}
use Rattle.desk.specs.Limits.{most_records}

-- a taking from a list that isn't empty
take-one : (d : Desk) → 0 < d.records.count
    → take_of d ≡ record { desk = with_records d (popped d.records); answer = Some (get_or d.records.ring (d.records.first % most_records) no_record) }
take-one d h = go _ (takes d)
  where
    go : (r : Taking) → Takes d r → r
        ≡ record { desk = with_records d (popped d.records); answer = Some (get_or d.records.ring (d.records.first % most_records) no_record) }
    go r (take-nothing e) = absurd (omega (arith, e, h))
    go r (take-oldest p) = refl

-- n takings, one after another: what they hand out, and the desk then
pub data Takings : ℕ → Desk → List Record → Desk → Type 0 where
  no_more : {d : Desk} → Takings 0 d [] d
  one_more : {n : ℕ} {d e : Desk} {r : Record} {rs : List Record} → (take_of d).answer ≡ Some r → Takings n (take_of d).desk rs e
      → Takings (suc n) d (r ∷ rs) e

pub many-takings : (n : ℕ) (d : Desk) → n ≤ d.records.count → Takings n d (oldest n d.records) (with_records d (without n d.records))
unfolding oldest without
many-takings zero d h = no_more
many-takings (suc n) d h =
    let e = take-one d (omega arith) in
    one_more (ap (λ (r : Taking). r.answer) e)
    (subst (λ (x : Desk). Takings n x (oldest n (popped d.records)) (with_records d (without n (popped d.records))))
    (ap (λ (r : Taking). r.desk) (sym e))
    (many-takings n (with_records d (popped d.records)) (omega arith)))

takings-reached : {n : ℕ} {d e : Desk} {rs : List Record} → Takings n d rs e → Reached d → Reached e
takings-reached no_more r = r
takings-reached (one_more q t) r = takings-reached t (by_call r call_take)

-- so a desk that calls have made is one after it too
pub take-many-reached : (d : Desk) (len : ℕ) → Reached d → Reached (take_many_of d len).desk
unfolding take_many_of
take-many-reached d len r = takings-reached (many-takings (many_of d len) d (min-le_left d.records.count (len / 4))) r
