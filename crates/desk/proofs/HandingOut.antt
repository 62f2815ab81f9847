-- How the loop of `hand_out` goes on: what is left is still to be taken, and written where it belongs.
use Rattle.desk.specs.Given.{TakingMany}
use Prim.Native.Nat.{◌%◌, ◌*◌, ◌+◌, ◌-◌, ◌/◌, ◌<◌, ◌≤◌, suc, zero, ℕ}
use mathlib.Core.List.{List, ◌++◌, ◌∷◌}
use mathlib.Core.Path.{◌∙◌, ◌≡◌, ap, ap₂, refl, subst}
use native.Mathlib.Nat.{min-le_right, zero-add}
use native.Mathlib.Numerals.{add-four, add-one, add-three, add-two}
use native.Mathlib.Omega.{arith}
use lib.ListN.{drop, get_or, length, length-set, set}
use lib.Seq.{sets, sets-eq}
use Rattle.desk.specs.Calls.{with_records}
use Rattle.desk.specs.Shared.{no_record, popped}
use Rattle.desk.specs.TakeMany.{list_taken, many_of, oldest, record_numbers, take_many_of, without}
use Rattle.desk.specs.declared.Desk.{Desk}
use Rattle.desk.specs.declared.Record.{Record}
use Rattle.desk.specs.declared.Records.{Records}

pub record HandingOut (q₀ : Records) (n : ℕ) (l₀ : List ℕ) (q : Records) (l : List ℕ) (j : ℕ) : Type 0 where
  pub most : j ≤ n
  pub count : q.count + j ≡ q₀.count
  pub left : without (n - j) q ≡ without n q₀
  pub list : sets l (4 * j) (record_numbers (oldest (n - j) q)) ≡ sets l₀ 0 (record_numbers (oldest n q₀))
  pub long : length l ≡ length l₀

-- the record at the front
abbrev front : Records → Record
front q = get_or q.ring (q.first % 256) no_record

-- the code's list after it was written
abbrev pub wrote : List ℕ → ℕ → Record → List ℕ
wrote l i r = set (set (set (set l i r.serial.0) (i + 1) r.edition.0) (i + 2) r.end) (i + 3) r.tag.0

-- the code's records after it was taken
abbrev pub took : Records → Records
took q = record { ring = q.ring; first = (q.first % 256 + 1) % 256; count = q.count - 1 }

took-popped : (q : Records) → took q ≡ popped q
took-popped q =
    let e : (q.first % 256 + 1) % 256 ≡ (q.first + 1) % 256 = omega arith in
    ap {B = Records} (λ (n : ℕ). record { ring = q.ring; first = n; count = q.count - 1 }) e

wrote-sets : (l : List ℕ) (i : ℕ) (r : Record) (vs : List ℕ) → sets (wrote l i r) (i + 4) vs ≡ sets l i
    (r.serial.0 ∷ r.edition.0 ∷ r.end ∷ r.tag.0 ∷ vs)
wrote-sets l i r vs = rw (add-one i, add-two i, add-three i, add-four i)

module _ (q₀ : Records) (n : ℕ) (l₀ : List ℕ) where
  pub handing_start : HandingOut q₀ n l₀ q₀ l₀ 0
  handing_start = let z : n - 0 ≡ n = omega arith in record { most = omega arith; count = omega arith; left = rw z; list = rw z; long = refl }

  pub handing_more : (q : Records) (l : List ℕ) (j : ℕ) → j < n → 0 < q.count → HandingOut q₀ n l₀ q l j
      → HandingOut q₀ n l₀ (took q) (wrote l (4 * j) (front q)) (j + 1)
  unfolding without oldest record_numbers
  handing_more q l j h c a =
      let z : n - j ≡ suc (n - (j + 1)) = omega arith in
      let f : 4 * (j + 1) ≡ 4 * j + 4 = omega arith in
      record {
        most = omega arith;
        count = omega (arith, a.count);
        left = ap (without (n - (j + 1))) (took-popped q) ∙ (rw z at a.left);
        list = ap₂ (λ (k : ℕ) (x : Records). sets (wrote l (4 * j) (front q)) k (record_numbers (oldest (n - (j + 1)) x))) f (took-popped q)
            ∙ wrote-sets l (4 * j) (front q) (record_numbers (oldest (n - (j + 1)) (popped q))) ∙ (rw z at a.list);
        long = simp length-set a.long;
      }

  pub handing_end : (q : Records) (l : List ℕ) (j : ℕ) → n ≤ j → HandingOut q₀ n l₀ q l j
      → (q ≡ without n q₀) × (l ≡ sets l₀ 0 (record_numbers (oldest n q₀)))
  unfolding without oldest record_numbers
  handing_end q l j h a =
      let z : n - j ≡ 0 = omega arith in
      (rw z at a.left, rw z at a.list)

numbers_length : (n : ℕ) (q : Records) → length (record_numbers (oldest n q)) ≡ 4 * n
unfolding oldest record_numbers
numbers_length zero q = refl
numbers_length (suc n) q = omega (arith, numbers_length n (popped q))

-- what `take_many` returns and leaves
pub taken-many : (d : Desk) (l l' : List ℕ) (n : ℕ) (q : Records) → n ≡ many_of d (length l) → q ≡ without n d.records
    → l' ≡ sets l 0 (record_numbers (oldest n d.records))
    → (◌≡◌ {A = TakingMany} (record { desk = with_records d q; answer = n }) (take_many_of d (length l))) × (l' ≡ list_taken d l (many_of d (length l)))
unfolding take_many_of list_taken
taken-many d l l' n q e f g =
    let s : length (record_numbers (oldest n d.records)) ≡ 4 * n = numbers_length n d.records in (
      subst (λ (k : ℕ). ◌≡◌ {A = TakingMany} (record { desk = with_records d q; answer = n })
          (record { desk = with_records d (without k d.records); answer = k })) e
          (ap {B = TakingMany} (λ (x : Records). record { desk = with_records d x; answer = n }) f),
      g ∙ sets-eq (record_numbers (oldest n d.records)) l 0 (omega (arith, s, e, min-le_right d.records.count (length l / 4)))
          ∙ ap (λ (k : ℕ). record_numbers (oldest n d.records) ++ drop k l) (ap (λ (k : ℕ). 0 + k) s ∙ zero-add (4 * n))
          ∙ ap (λ (k : ℕ). record_numbers (oldest k d.records) ++ drop (4 * k) l) e,
    )
