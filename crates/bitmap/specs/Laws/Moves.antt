-- Failure moves: those of the machine, and how many there are at most.
use Prim.Native.Nat.{◌+◌, ◌≤◌, suc, ℕ}
use Rattle.std.specs.Prelude.{Bool, true, ◌⊎◌, ◌≡◌}
use Rattle.std.proofs.Math.Bool.{cond, false}
use mathlib.Core.List.{List, [], ◌++◌, ◌∷◌, append_assoc, append-nil}
use Rattle.std.proofs.Common.{inl, inr, ◌∙◌, ap₂, sym}
use Rattle.std.proofs.Math.Path.{ap, refl}
use Rattle.std.proofs.Math.Nat.{zero-add}
use native.Mathlib.Omega.{arith}
use Rattle.std.proofs.Math.ListN.{length, length-append}
use Rattle.matching.specs.Laws.Bools.{decided, is_false, not-both}
use Rattle.matching.specs.Laws.Machine.{Closed, longest_hit, longest-length, longest_miss, longest_nil}
use Rattle.matching.specs.Machine.{longest}
use Rattle.matching.specs.Words.{Word, among}
use Rattle.bitmap.specs.Moves.{moves_in, moves_on}
use Rattle.bitmap.specs.Levels.{forward}

module _ (ps : List Word) (x : ℕ) (v : Word) (c : ℕ) where
  pub moves_hit : forward ps (x ∷ v) c ≡ true → moves_on ps (x ∷ v) c ≡ 0
  unfolding moves_on
  moves_hit e = rw (e, moves_on) refl

  pub moves_miss : forward ps (x ∷ v) c ≡ false → moves_on ps (x ∷ v) c ≡ cond (among (x ∷ v) ps) 1 0 + moves_on ps v c
  unfolding moves_on
  moves_miss e = rw (e, moves_on) refl

-- where the byte leads forward there is none
pub moves-none : (ps : List Word) (v : Word) (c : ℕ) → forward ps v c ≡ true → moves_on ps v c ≡ 0
unfolding moves_on
moves-none ps [] c e = refl
moves-none ps (x ∷ v) c e = moves_hit ps x v c e

-- they depend on which words are states, not on their order
pub moves-same : (ps qs : List Word) → ((w : Word) → among w ps ≡ among w qs) → (v : Word) (c : ℕ) → moves_on ps v c ≡ moves_on qs v c
unfolding moves_on
moves-same ps qs h [] c = refl
moves-same ps qs h (x ∷ v) c = go (decided (forward ps (x ∷ v) c)) (moves-same ps qs h v c)
  where
    go : (forward ps (x ∷ v) c ≡ true) ⊎ (forward ps (x ∷ v) c ≡ false) → moves_on ps v c ≡ moves_on qs v c → moves_on ps (x ∷ v) c ≡ moves_on qs (x ∷ v) c
    go (inl e) ih = moves_hit ps x v c e ∙ sym (moves_hit qs x v c (sym (h (x ∷ v ++ c ∷ [])) ∙ e))
    go (inr e) ih =
        moves_miss ps x v c e ∙ ap₂ (λ (b : Bool) (n : ℕ). cond b 1 0 + n) (h (x ∷ v)) ih ∙ sym (moves_miss qs x v c (sym (h (x ∷ v ++ c ∷ [])) ∙ e))

pub moves_in-same : (ps qs : List Word) → ((w : Word) → among w ps ≡ among w qs) → (w v : Word) → moves_in ps v w ≡ moves_in qs v w
unfolding moves_in
moves_in-same ps qs h [] v = refl
moves_in-same ps qs h (c ∷ w) v = ap₂ ◌+◌ (moves-same ps qs h v c) (moves_in-same ps qs h w (v ++ c ∷ []))

-- over two runs of bytes they add up
pub moves_in_append : (ps : List Word) (u v w : Word) → moves_in ps v (u ++ w) ≡ moves_in ps v u + moves_in ps (v ++ u) w
unfolding moves_in
moves_in_append ps [] v w = ap (λ (x : Word). moves_in ps x w) (sym (append-nil v)) ∙ sym (zero-add (moves_in ps (v ++ []) w))
moves_in_append ps (c ∷ u) v w =
    omega (arith, moves_in_append ps u (v ++ c ∷ []) w, ap (λ (x : Word). moves_in ps x w) (append_assoc v (c ∷ []) u))

pub moves_in_snoc : (ps : List Word) (v : Word) (c : ℕ) → moves_in ps [] (v ++ c ∷ []) ≡ moves_in ps [] v + moves_on ps v c
unfolding moves_in
moves_in_snoc ps v c = moves_in_append ps v [] (c ∷ []) ∙ omega arith

module _ (ps : List Word) (closed : Closed ps) where
  -- only the longest suffix that is a state counts
  pub moves-longest : (v : Word) (c : ℕ) → moves_on ps v c ≡ moves_on ps (longest ps v) c
  unfolding moves_on
  moves-longest [] c = ap (λ (w : Word). moves_on ps w c) (sym (longest_nil ps))
  moves-longest (x ∷ v) c = go (decided (among (x ∷ v) ps)) (moves-longest v c)
    where
      go : (among (x ∷ v) ps ≡ true) ⊎ (among (x ∷ v) ps ≡ false) → moves_on ps v c ≡ moves_on ps (longest ps v) c
          → moves_on ps (x ∷ v) c ≡ moves_on ps (longest ps (x ∷ v)) c
      go (inl e) ih = ap (λ (w : Word). moves_on ps w c) (sym (longest_hit ps x v e))
      go (inr e) ih =
          let out : forward ps (x ∷ v) c ≡ false = is_false (forward ps (x ∷ v) c) (λ h. not-both (closed (x ∷ v) c h) e) in
          moves_miss ps x v c out ∙ ap (λ (b : Bool). cond b 1 0 + moves_on ps v c) e ∙ zero-add (moves_on ps v c) ∙ ih
          ∙ ap (λ (w : Word). moves_on ps w c) (sym (longest_miss ps x v e))

  -- each move is paid for by a letter that the state's word loses
  pub moves_paid : (v : Word) (c : ℕ) → moves_on ps v c + length (longest ps (v ++ c ∷ [])) ≤ suc (length (longest ps v))
  unfolding moves_on
  moves_paid [] c = omega (arith, longest-length ps (c ∷ []))
  moves_paid (x ∷ v) c = go (decided (forward ps (x ∷ v) c)) (decided (among (x ∷ v) ps)) (moves_paid v c)
    where
      go : (forward ps (x ∷ v) c ≡ true) ⊎ (forward ps (x ∷ v) c ≡ false) → (among (x ∷ v) ps ≡ true) ⊎ (among (x ∷ v) ps ≡ false)
          → moves_on ps v c + length (longest ps (v ++ c ∷ [])) ≤ suc (length (longest ps v))
          → moves_on ps (x ∷ v) c + length (longest ps (x ∷ v ++ c ∷ [])) ≤ suc (length (longest ps (x ∷ v)))
      go (inl e) (inl a) ih = omega (
        arith,
        moves_hit ps x v c e,
        ap {B = ℕ} length (longest_hit ps x (v ++ c ∷ []) e),
        ap {B = ℕ} length (longest_hit ps x v a),
        length-append v (c ∷ []),
      )
      go (inl e) (inr a) ih = absurd (not-both (closed (x ∷ v) c e) a)
      go (inr e) (inl a) ih = omega (
        arith,
        moves_miss ps x v c e,
        ap {B = ℕ} (λ (b : Bool). cond b 1 0) a,
        ap {B = ℕ} length (longest_miss ps x (v ++ c ∷ []) e),
        ap {B = ℕ} length (longest_hit ps x v a),
        longest-length ps v,
        ih,
      )
      go (inr e) (inr a) ih = omega (
        arith,
        moves_miss ps x v c e,
        ap {B = ℕ} (λ (b : Bool). cond b 1 0) a,
        ap {B = ℕ} length (longest_miss ps x (v ++ c ∷ []) e),
        ap {B = ℕ} length (longest_miss ps x v a),
        ih,
      )

  pub moves_in_paid : (w v : Word) → moves_in ps v w + length (longest ps (v ++ w)) ≤ length (longest ps v) + length w
  unfolding moves_in
  moves_in_paid [] v = omega (arith, ap (λ (u : Word). length (longest ps u)) (append-nil v))
  moves_in_paid (c ∷ w) v = omega (
    arith,
    moves_in_paid w (v ++ c ∷ []),
    moves_paid v c,
    ap (λ (u : Word). length (longest ps u)) (append_assoc v (c ∷ []) w),
  )

  -- FAILURE MOVES: from the start, over any run of bytes, no more than the bytes
  pub moves_in-few : (w : Word) → moves_in ps [] w ≤ length w
  moves_in-few w = omega (arith, moves_in_paid w [], ap {B = ℕ} length (longest_nil ps))
