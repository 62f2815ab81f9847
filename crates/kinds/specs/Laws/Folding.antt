-- Folding bytes into a run: one more, all of them, and what stands at its front then.
use Rattle.std.specs.Prelude.{◌+◌, ◌<◌, ◌≤◌, suc, ℕ, List, [], ◌++◌, ◌∷◌, map, ◌≡◌, refl, drop, get_or, length, set, take}
use Rattle.std.proofs.Common.{append_assoc, ◌∙◌, ap, subst, sym, add-one, arith, length-append, length-drop, drop-cons, length-take-le, take_at, take-suc}
use Rattle.std.proofs.lemmas.List.{length-map}
use Rattle.std.proofs.Math.Seq.{set-append_seam, take-length}
use Rattle.matching.specs.Kinds.{folded_kind, lower}
use Rattle.matching.specs.Laws.Kinds.{word_as_folded}
use Rattle.matching.specs.Laws.Slices.{map_append}
use Rattle.matching.specs.Tags.{word_as}

-- the first i of some bytes, each made another, in a run that was l₀
abbrev pub Folding : (ℕ → ℕ) → List ℕ → List ℕ → List ℕ → ℕ → Type 0
Folding f bytes l₀ l i = (i ≤ length bytes) × (l ≡ map f (take i bytes) ++ drop i l₀)

module _ (f : ℕ → ℕ) (bytes l₀ l : List ℕ) (i : ℕ) (room : length bytes ≤ length l₀) (g : Folding f bytes l₀ l i) where
  front : length (map f (take i bytes)) ≡ i
  front = length-map (take i bytes) f ∙ length-take-le i bytes g.0

  pub fold_long : length l ≡ length l₀
  fold_long =
      ap length g.1 ∙ length-append (map f (take i bytes)) (drop i l₀) ∙ omega (arith, front, length-drop i l₀, g.0, room)

  pub fold_more : (v : ℕ) → i < length bytes → v ≡ f (get_or bytes i 0) → Folding f bytes l₀ (set l i v) (i + 1)
  fold_more v less e = (
    omega arith,
    ap (λ (x : List ℕ). set x i v) (g.1 ∙ ap {B = List ℕ} (λ (x : List ℕ). map f (take i bytes) ++ x) (drop-cons l₀ i 0 (omega (arith, room, less))))
        ∙ subst (λ (k : ℕ). set (map f (take i bytes) ++ get_or l₀ i 0 ∷ drop (suc i) l₀) k v ≡ map f (take i bytes) ++ v ∷ drop (suc i) l₀) front
        (set-append_seam (map f (take i bytes)) (get_or l₀ i 0) (drop (suc i) l₀) v)
        ∙ last,
  )
    where
      more : map f (take i bytes) ++ v ∷ [] ≡ map f (take (suc i) bytes)
      more =
          ap (λ (x : ℕ). map f (take i bytes) ++ x ∷ []) e ∙ sym (map_append f (take i bytes) (get_or bytes i 0 ∷ []))
          ∙ ap (map f) (sym (take-suc bytes i 0 less))

      last : map f (take i bytes) ++ v ∷ drop (suc i) l₀ ≡ map f (take (i + 1) bytes) ++ drop (i + 1) l₀
      last =
          rw (add-one i)
          (sym (append_assoc (map f (take i bytes)) (v ∷ []) (drop (suc i) l₀)) ∙ ap (λ (x : List ℕ). x ++ drop (suc i) l₀) more)

  pub fold_end : length bytes ≤ i → l ≡ map f bytes ++ drop (length bytes) l₀
  fold_end h =
      let e : i ≡ length bytes = omega (arith, g.0) in
      g.1 ∙ rw (e, take-length bytes) refl

-- the front of a run into which bytes were folded
pub folded_front : (bytes out rest : List ℕ) → out ≡ map lower bytes ++ rest → take (length bytes) out ≡ word_as folded_kind bytes
folded_front bytes out rest e =
    ap (take (length bytes)) e ∙ take_at (map lower bytes) rest (length bytes) (length-map bytes lower) ∙ sym (word_as_folded bytes)
