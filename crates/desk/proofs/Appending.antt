-- How the loop of `append` goes on: what is left of the run is still to be pushed.
use Prim.Native.Nat.{◌%◌, ◌*◌, ◌+◌, ◌-◌, ◌<◌, ◌≤◌, suc, ℕ}
use mathlib.Core.List.{List, ◌∷◌}
use mathlib.Core.Path.{◌∙◌, ◌≡◌, ap, ap₂, refl, sym}
use native.Mathlib.Omega.{arith}
use lib.ListN.{drop, get_or, set}
use lib.Seq.{drop-drop, get_or-drop}
use Rattle.desk.specs.Shared.{paired, push_all, record_of, records_of}
use Rattle.desk.specs.declared.Edition.{Edition}
use Rattle.desk.specs.declared.Records.{Records}
use Rattle.desk.specs.declared.Serial.{Serial}
use Rattle.matching.specs.Occurrence.{Occurrence}

pub record Appending (s : Serial) (e : Edition) (run : List ℕ) (n : ℕ) (q p : Records) (j : ℕ) : Type 0 where
  pub most : j ≤ n
  pub first : p.first ≡ q.first
  pub count : p.count ≡ q.count + j
  pub left : push_all p (records_of s e (paired (n - j) (drop (2 * j) run))) ≡ push_all q (records_of s e (paired n run))

-- the pair at j, as the code reads it
abbrev pair_at : List ℕ → ℕ → Occurrence
pair_at run j = record { end = get_or run (2 * j) 0; tag = get_or run (2 * j + 1) 0 % 256 }

paired-more : (run : List ℕ) (n j : ℕ) → j < n → paired (n - j) (drop (2 * j) run) ≡ pair_at run j ∷ paired (n - (j + 1)) (drop (2 * (j + 1)) run)
unfolding paired
paired-more run n j h =
    let a : n - j ≡ suc (n - (j + 1)) = omega arith in
    let b : 2 * (j + 1) ≡ 2 * j + 2 = omega arith in
    let c : 2 * j + 0 ≡ 2 * j = omega arith in
    ap (λ (m : ℕ). paired m (drop (2 * j) run)) a
    ∙ ap₂ (λ (x y : ℕ). record { end = x; tag = y % 256 } ∷ paired (n - (j + 1)) (drop 2 (drop (2 * j) run)))
    (get_or-drop (2 * j) run 0 0 ∙ ap (λ (m : ℕ). get_or run m 0) c) (get_or-drop (2 * j) run 1 0)
    ∙ ap (λ (l : List ℕ). pair_at run j ∷ paired (n - (j + 1)) l) (drop-drop 2 (2 * j) run ∙ ap (λ (m : ℕ). drop m run) (sym b))

module _ (s : Serial) (e : Edition) (run : List ℕ) (n : ℕ) (q : Records) where
  pub appending_start : Appending s e run n q q 0
  appending_start = let z : n - 0 ≡ n = omega arith in record { most = omega arith; first = refl; count = omega arith; left = rw z }

  -- the code's place for the next record
  turned : (a b : ℕ) → (a % 256 + b % 256) % 256 ≡ (a + b) % 256
  turned a b = omega arith

  abbrev pub put : Records → ℕ → Records
  put p j = record {
    ring = set p.ring ((p.first % 256 + p.count % 256) % 256) (record_of s e (pair_at run j));
    first = p.first;
    count = p.count + 1;
  }

  pub appending_more : (p : Records) (j : ℕ) → j < n → Appending s e run n q p j → Appending s e run n q (put p j) (j + 1)
  unfolding push_all
  appending_more p j h a = record {
    most = omega arith;
    first = a.first;
    count = omega (arith, a.count);
    left =
        ap (λ (k : ℕ). push_all (record { ring = set p.ring k (record_of s e (pair_at run j)); first = p.first; count = p.count + 1 })
        (records_of s e (paired (n - (j + 1)) (drop (2 * (j + 1)) run)))) (turned p.first p.count)
        ∙ ap (λ (l : List Occurrence). push_all p (records_of s e l)) (sym (paired-more run n j h)) ∙ a.left;
  }

  pub appending_end : (p : Records) (j : ℕ) → n ≤ j → Appending s e run n q p j → p ≡ push_all q (records_of s e (paired n run))
  unfolding push_all paired
  appending_end p j h a =
      let z : n - j ≡ 0 = omega arith in
      rw z at a.left
