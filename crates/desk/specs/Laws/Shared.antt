-- The ring as a list: pushing puts a record behind those held, popping takes the oldest.
use Rattle.std.specs.Prelude.{◌%◌, ◌+◌, ◌-◌, ◌<◌, ◌≤◌, suc, zero, ℕ, [], ◌++◌, ◌∷◌, List, ◌≡◌, refl, get_or, length, set, Bool, cond, false, true, eqb}
use Rattle.std.proofs.Common.{append_assoc, append-nil, ◌∙◌, ap, ap₂, sym, mod-eq_of_lt, add-one, arith, length-set, get_or-set_other, get_or-set_same}
use Rattle.std.proofs.lemmas.List.{length-map}
use Rattle.desk.specs.Shared.{held, no_record, paired, popped, push, push_all, record_of, records_for, records_of, round}
use Rattle.desk.specs.declared.Edition.{Edition}
use Rattle.desk.specs.declared.Record.{Record}
use Rattle.desk.specs.declared.Records.{Records}
use Rattle.desk.specs.declared.Serial.{Serial}
use Rattle.matching.specs.Laws.AnyTable.{Every}
use Rattle.matching.specs.Occurrence.{flat, Occurrence}
use Rattle.std.proofs.Math.Dec.{eqb_refl}
use Rattle.matching.specs.Laws.Bools.{is_false, is_true}
use Rattle.matching.specs.Laws.Words.{eqb_eq}
use Rattle.desk.specs.Limits.{most_records}

round_wrap : (l : List Record) (h n : ℕ) → round l (h % most_records) n ≡ round l h n
unfolding round
round_wrap l h zero = refl
round_wrap l h (suc n) =
    let e : h % most_records % most_records ≡ h % most_records = omega arith in
    let f : suc (h % most_records) % most_records ≡ suc h % most_records = omega arith in
    let t : round l (suc (h % most_records)) n ≡ round l (suc h) n = sym (round_wrap l (suc (h % most_records)) n) ∙ (rw f (round_wrap l (suc h) n)) in
    rw (e, t)

round_snoc : (l : List Record) (h n i : ℕ) → i ≡ (h + n) % most_records → round l h (suc n) ≡ round l h n ++ (get_or l i no_record ∷ [])
unfolding round
round_snoc l h zero i e =
    let f : i ≡ h % most_records = omega arith in
    rw f
round_snoc l h (suc n) i e =
    let f : i ≡ (suc h + n) % most_records = omega arith in
    ap (λ (t : List Record). get_or l (h % most_records) no_record ∷ t) (round_snoc l (suc h) n i f)

round-set : (l : List Record) (r : Record) (h n k i : ℕ) → n ≤ k → k < most_records → i ≡ (h + k) % most_records → round (set l i r) h n ≡ round l h n
unfolding round
round-set l r h zero k i p q e = refl
round-set l r h (suc n) k i p q e =
    let ne : (h % most_records ≡ i → ⊥) = λ z. omega arith in
    let f : i ≡ (suc h + (k - 1)) % most_records = omega arith in
    let t : round (set l i r) (suc h) n ≡ round l (suc h) n = round-set l r (suc h) n (k - 1) i (omega arith) (omega arith) f in
    rw (get_or-set_other l i (h % most_records) r no_record ne, t)

pub held-push : (q : Records) (r : Record) → length q.ring ≡ most_records → q.count < most_records → held (push q r) ≡ held q ++ (r ∷ [])
held-push q r e h =
    let i = (q.first + q.count) % most_records in
    let hi : i < length q.ring = omega arith in
    rw add-one
    (round_snoc (set q.ring i r) q.first q.count i refl
    ∙ (rw (round-set q.ring r q.first q.count q.count i (omega arith) h refl, get_or-set_same q.ring i r no_record hi)))

pub held-push_all : (q : Records) (rs : List Record) → length q.ring ≡ most_records → q.count + length rs ≤ most_records → held (push_all q rs) ≡ held q ++ rs
unfolding push_all
held-push_all q [] e h = sym (append-nil _)
held-push_all q (r ∷ rs) e h =
    held-push_all (push q r) rs (simp length-set e) (omega arith)
    ∙ (rw (held-push q r e (omega arith), append_assoc))

round_pop : (l : List Record) (h n : ℕ) → round l h (suc n) ≡ get_or l (h % most_records) no_record ∷ round l ((h + 1) % most_records) n
unfolding round
round_pop l h n =
    let w : round l ((h + 1) % most_records) n ≡ round l (suc h) n = round_wrap l (h + 1) n ∙ ap (λ (k : ℕ). round l k n) (add-one h) in
    rw w

-- what is held is the oldest record, and behind it what is held without it
pub held-popped : (q : Records) → 0 < q.count → held q ≡ get_or q.ring (q.first % most_records) no_record ∷ held (popped q)
held-popped q p =
    let c : q.count ≡ suc (q.count - 1) = omega arith in
    ap (λ (n : ℕ). round q.ring q.first n) c ∙ round_pop q.ring q.first (q.count - 1)

pub held-length : (q : Records) → length (held q) ≡ q.count
unfolding round
held-length q = go q.count q.first
  where
    go : (n h : ℕ) → length (round q.ring h n) ≡ n
    go zero h = refl
    go (suc n) h = ap suc (go n (suc h))

-- what pushing keeps, and how the count goes
pub record Pushed (q p : Records) (n : ℕ) : Type 0 where
  pub ring : length p.ring ≡ length q.ring
  pub first : p.first ≡ q.first
  pub count : p.count ≡ q.count + n

pub pushed : (q : Records) (rs : List Record) → Pushed q (push_all q rs) (length rs)
unfolding push_all
pushed q [] = record { ring = refl; first = refl; count = omega arith }
pushed q (r ∷ rs) =
    let p = pushed (push q r) rs in
    record { ring = p.ring ∙ simp length-set; first = p.first; count = omega arith }

pub records_of-length : (s : Serial) (e : Edition) (os : List Occurrence) → length (records_of s e os) ≡ length os
records_of-length s e os = length-map os (record_of s e)

-- a run that begins with occurrences, two numbers each, has them
pub paired-flat : (os : List Occurrence) (rest : List ℕ) → Every (λ o. o.tag < 256) os → paired (length os) (flat os ++ rest) ≡ os
unfolding paired flat
paired-flat [] rest h = refl
paired-flat (o ∷ os) rest h = ap₂ (λ (t : ℕ) (l : List Occurrence). record { end = o.end; tag = t } ∷ l) (mod-eq_of_lt h.0) (paired-flat os rest h.1)

-- ---- the records of a serial

pub records_for_append : (n : ℕ) (a b : List Record) → records_for n (a ++ b) ≡ records_for n a ++ records_for n b
unfolding records_for
records_for_append n [] b = refl
records_for_append n (r ∷ a) b = go (eqb r.serial.0 n) (records_for_append n a b)
  where
    go : (t : Bool) → records_for n (a ++ b) ≡ records_for n a ++ records_for n b
        → cond t (r ∷ records_for n (a ++ b)) (records_for n (a ++ b)) ≡ cond t (r ∷ records_for n a) (records_for n a) ++ records_for n b
    go true e = ap {B = List Record} (λ (l : List Record). r ∷ l) e
    go false e = e

-- records of one serial are all its own, and none of another's
pub records_for-own : (s : Serial) (e : Edition) (os : List Occurrence) → records_for s.0 (records_of s e os) ≡ records_of s e os
unfolding records_for
records_for-own s e [] = refl
records_for-own s e (o ∷ os) = rw (is_true (eqb s.0 s.0) (eqb_refl s.0))
    (ap {B = List Record} (λ (l : List Record). record_of s e o ∷ l) (records_for-own s e os))

pub records_for-other : (n : ℕ) (s : Serial) (e : Edition) (os : List Occurrence) → (s.0 ≡ n → ⊥) → records_for n (records_of s e os) ≡ []
unfolding records_for
records_for-other n s e [] h = refl
records_for-other n s e (o ∷ os) h = rw (is_false (eqb s.0 n) (λ q. h (eqb_eq s.0 n q))) (records_for-other n s e os h)

pub records_of_append : (s : Serial) (e : Edition) (a b : List Occurrence) → records_of s e (a ++ b) ≡ records_of s e a ++ records_of s e b
records_of_append s e [] b = refl
records_of_append s e (o ∷ a) b = ap {B = List Record} (λ (l : List Record). record_of s e o ∷ l) (records_of_append s e a b)
