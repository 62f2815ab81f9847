-- Bits dealt out: a vector over the tags of one kind made into one over the whole set, each bit given to its tag's number there.
use Prim.Native.Nat.{◌%◌, ◌*◌, ◌+◌, ◌/◌, ◌<◌, ◌^◌, min, suc, ℕ}
use Rattle.std.specs.Prelude.{Bool, ◌&&◌, false, true, ◌⊎◌, ◌≡◌}
use Rattle.std.proofs.Math.Bool.{cond}
use mathlib.Core.List.{List, [], ◌∷◌, map}
use Rattle.std.proofs.Common.{inl, inr, ◌∙◌, sym, mod-lt, arith}
use Rattle.std.proofs.Math.Path.{ap, ap₂, refl}
use Rattle.std.proofs.Math.Nat.{pow-suc}
use Rattle.std.proofs.Math.Arith.{digits_div, digits_lt, digits_mod}
use Rattle.std.specs.Int.Bits.{and_step, bit_and}
use Rattle.std.proofs.Math.Dec.{lit<}
use Rattle.std.proofs.Math.ListN.{length}
use Rattle.matching.specs.Laws.Bools.{decided}
use Rattle.matching.specs.Laws.Kinds.{chosen_hit, chosen_miss}
use Rattle.matching.specs.Laws.Vectors.{one_lt}
use Rattle.matching.specs.Machine.{vector_by}
use Rattle.matching.specs.Slicing.{anded}
use Rattle.matching.specs.Tags.{chosen}

module _ {A : Type 0} (ok : A → Bool) where
  -- the bits of v, the lowest first, given to the chosen of a list in their order; the others have none
  unfoldable pub dealt : List A → ℕ → ℕ
  dealt [] v = 0
  dealt (x ∷ xs) v = cond (ok x) (dealt xs (v / 2) * 2 + v % 2) (dealt xs v * 2)

  pub dealt_hit : (x : A) (xs : List A) (v : ℕ) → ok x ≡ true → dealt (x ∷ xs) v ≡ dealt xs (v / 2) * 2 + v % 2
  unfolding dealt
  dealt_hit x xs v e = rw e refl

  pub dealt_miss : (x : A) (xs : List A) (v : ℕ) → ok x ≡ false → dealt (x ∷ xs) v ≡ dealt xs v * 2
  unfolding dealt
  dealt_miss x xs v e = rw e refl

  pub dealt_lt : (xs : List A) (v : ℕ) → dealt xs v < 2 ^ length xs
  unfolding dealt
  dealt_lt [] v = lit< tt
  dealt_lt (x ∷ xs) v = go (decided (ok x)) (dealt_lt xs)
    where
      go : (ok x ≡ true) ⊎ (ok x ≡ false) → ((u : ℕ) → dealt xs u < 2 ^ length xs) → dealt (x ∷ xs) v < 2 ^ suc (length xs)
      go (inl e) ih = rw (e, pow-suc 2 (length xs)) (digits_lt (ih (v / 2)) (mod-lt v (lit< tt)))
      go (inr e) ih = rw (e, pow-suc 2 (length xs)) (omega (arith, ih v))

  -- a vector over the chosen becomes one over the list
  pub dealt-vector : {B : Type 0} (f : A → B) (g : B → Bool) (xs : List A)
      → dealt xs (vector_by g (map f (chosen ok xs))) ≡ vector_by (λ x. ok x && g (f x)) xs
  unfolding dealt vector_by chosen
  dealt-vector f g [] = refl
  dealt-vector {B} f g (x ∷ xs) = go (decided (ok x)) (dealt-vector f g xs)
    where
      go : (ok x ≡ true) ⊎ (ok x ≡ false) → dealt xs (vector_by g (map f (chosen ok xs))) ≡ vector_by (λ x. ok x && g (f x)) xs
          → dealt (x ∷ xs) (vector_by g (map f (chosen ok (x ∷ xs)))) ≡ vector_by (λ x. ok x && g (f x)) xs * 2 + cond (ok x && g (f x)) 1 0
      go (inl e) ih =
          let v = vector_by g (map f (chosen ok xs)) in
          let bit = one_lt (g (f x)) in
          ap (λ (l : List A). dealt (x ∷ xs) (vector_by g (map f l))) (chosen_hit ok x xs e)
          ∙ dealt_hit x xs (v * 2 + cond (g (f x)) 1 0) e
          ∙ ap₂ (λ (a b : ℕ). a * 2 + b) (ap (dealt xs) (digits_div v bit) ∙ ih) (digits_mod v bit)
          ∙ ap (λ (b : Bool). vector_by (λ x. ok x && g (f x)) xs * 2 + cond (b && g (f x)) 1 0) (sym e)
      go (inr e) ih =
          ap (λ (l : List A). dealt (x ∷ xs) (vector_by g (map f l))) (chosen_miss ok x xs e)
          ∙ dealt_miss x xs (vector_by g (map f (chosen ok xs))) e
          ∙ ap (λ (a : ℕ). a * 2) ih
          ∙ rw e (omega arith)

  -- dealing goes before or after ANDing
  pub dealt_and : (xs : List A) (a b : ℕ) → dealt xs (bit_and a b) ≡ bit_and (dealt xs a) (dealt xs b)
  unfolding dealt
  dealt_and [] a b = refl
  dealt_and (x ∷ xs) a b = go (decided (ok x)) (dealt_and xs)
    where
      halves : (u v r s : ℕ) → r < 2 → s < 2 → bit_and (u * 2 + r) (v * 2 + s) ≡ bit_and u v * 2 + min r s
      halves u v r s hr hs =
          and_step (u * 2 + r) (v * 2 + s)
          ∙ ap₂ (λ (p q : ℕ). p * 2 + q) (ap₂ bit_and (digits_div u hr) (digits_div v hs)) (ap₂ min (digits_mod u hr) (digits_mod v hs))

      even : (u v : ℕ) → bit_and u v * 2 ≡ bit_and (u * 2) (v * 2)
      even u v =
          let x : u * 2 + 0 ≡ u * 2 = omega arith in
          let y : v * 2 + 0 ≡ v * 2 = omega arith in
          let z : bit_and u v * 2 ≡ bit_and u v * 2 + min 0 0 = omega arith in
          z ∙ sym (halves u v 0 0 (lit< tt) (lit< tt)) ∙ ap₂ bit_and x y

      both : bit_and a b ≡ bit_and (a / 2) (b / 2) * 2 + min (a % 2) (b % 2)
      both = and_step a b

      low : min (a % 2) (b % 2) < 2
      low =
          let p : a % 2 < 2 = mod-lt a (lit< tt) in
          let q : b % 2 < 2 = mod-lt b (lit< tt) in
          omega arith

      go : (ok x ≡ true) ⊎ (ok x ≡ false) → ((u v : ℕ) → dealt xs (bit_and u v) ≡ bit_and (dealt xs u) (dealt xs v))
          → dealt (x ∷ xs) (bit_and a b) ≡ bit_and (dealt (x ∷ xs) a) (dealt (x ∷ xs) b)
      go (inl e) ih =
          dealt_hit x xs (bit_and a b) e
          ∙ ap₂ (λ (p q : ℕ). dealt xs p * 2 + q) (ap (λ (z : ℕ). z / 2) both ∙ digits_div (bit_and (a / 2) (b / 2)) low)
          (ap (λ (z : ℕ). z % 2) both ∙ digits_mod (bit_and (a / 2) (b / 2)) low)
          ∙ ap (λ (p : ℕ). p * 2 + min (a % 2) (b % 2)) (ih (a / 2) (b / 2))
          ∙ sym (halves (dealt xs (a / 2)) (dealt xs (b / 2)) (a % 2) (b % 2) (mod-lt a (lit< tt)) (mod-lt b (lit< tt)))
          ∙ ap₂ bit_and (sym (dealt_hit x xs a e)) (sym (dealt_hit x xs b e))
      go (inr e) ih =
          dealt_miss x xs (bit_and a b) e ∙ ap (λ (p : ℕ). p * 2) (ih a b)
          ∙ even (dealt xs a) (dealt xs b)
          ∙ ap₂ bit_and (sym (dealt_miss x xs a e)) (sym (dealt_miss x xs b e))

  pub anded-dealt : (xs : List A) (x : ℕ) (vs : List ℕ) → anded (dealt xs x) (map (dealt xs) vs) ≡ dealt xs (anded x vs)
  unfolding anded
  anded-dealt xs x [] = refl
  anded-dealt xs x (v ∷ vs) = ap (λ (a : ℕ). anded a (map (dealt xs) vs)) (sym (dealt_and xs x v)) ∙ anded-dealt xs (bit_and x v) vs
