-- The vector of a state: that of its failure state, and the tags that are its own word.
use Rattle.std.specs.Prelude.{◌+◌, ◌<◌, ℕ, Bool, ◌||◌, cond, false, true, ◌≡◌, refl, get_or, length}
use mathlib.Core.List.{List, [], ◌∷◌, tail}
use Rattle.std.proofs.Common.{◌∙◌, ap, sym, arith}
use Rattle.matching.specs.Laws.Machine.{AllAmong, ends-longest, longest-among}
use Rattle.matching.specs.Laws.Words.{ends-short, get_d_index_of, index_of_get_d, same_eq}
use Rattle.matching.specs.Machine.{failure, longest, vector, vector_by}
use Rattle.matching.specs.Words.{Lawful, Word, ends, index_of, same}
use Rattle.bitmap.specs.Laws.Built.{level-first, level-tags, level_tree, nonempty, word-zero}
use Rattle.bitmap.specs.Levels.{by_level}
use Rattle.bitmap_maps.specs.Through.{own_tags}

-- of the two, a tag that is the whole word does not end what is behind its first letter
both : (a b : Bool) → (a ≡ true → b ≡ false) → ◌≡◌ {A = ℕ} (cond (a || b) 1 0) (cond b 1 0 + cond a 1 0)
both true b h = rw (h refl) refl
both false true h = refl
both false false h = refl

-- a tag ends x ∷ w exactly if it is that word, or ends the longest end of w that is a state
by-failure : (us ps : List Word) (x : ℕ) (w : Word) → AllAmong us ps
    → vector_by (λ t. ends t (x ∷ w)) us ≡ vector_by (λ t. ends t (longest ps w)) us + own_tags us (x ∷ w)
unfolding vector_by ends
by-failure [] ps x w h = refl
by-failure (t ∷ us) ps x w h =
    let one : ◌≡◌ {A = ℕ} (cond (same t (x ∷ w) || ends t w) 1 0) (cond (ends t w) 1 0 + cond (same t (x ∷ w)) 1 0) =
    both (same t (x ∷ w)) (ends t w) (λ e. ends-short t w (omega (arith, ap {B = ℕ} length (same_eq t (x ∷ w) e)))) in
    let f : ◌≡◌ {A = ℕ} (cond (ends t (longest ps w)) 1 0) (cond (ends t w) 1 0) = ap (λ (b : Bool). cond b 1 0) (ends-longest ps t w h.0) in
    omega (arith, by-failure us ps x w h.1, one, f)

-- the vector of a state whose word is x ∷ w
pub vector-from : (ts : List Word) → Lawful ts → (q x : ℕ) (w : Word) → get_or (by_level ts) q [] ≡ x ∷ w
    → vector ts (x ∷ w) ≡ vector ts (get_or (by_level ts) (failure (by_level ts) q) []) + own_tags ts (x ∷ w)
unfolding vector failure
vector-from ts l q x w e =
    let ps : List Word = by_level ts in
    let f : get_or ps (failure ps q) [] ≡ longest ps w =
    ap (λ (v : Word). get_or ps (index_of (longest ps (tail v)) ps) []) e ∙ get_d_index_of (longest ps w) ps (longest-among ps w (level_tree ts l).root) in
    by-failure ts ps x w (level-tags ts l) ∙ ap (λ (v : Word). vector ts v + own_tags ts (x ∷ w)) (sym f)

-- the root's: the tags that are empty, of which a set has none
pub vector_root : (ts : List Word) → vector ts [] ≡ own_tags ts []
unfolding vector ends
vector_root ts = refl

-- state 0
pub vector-first : (ts : List Word) → Lawful ts → vector ts (get_or (by_level ts) 0 []) ≡ own_tags ts (get_or (by_level ts) 0 [])
vector-first ts l = ap (vector ts) (word-zero ts l) ∙ vector_root ts ∙ ap (own_tags ts) (sym (word-zero ts l))

-- any other state
pub vector-later : (ts : List Word) → Lawful ts → (q : ℕ) → 0 < q → q < length (by_level ts)
    → vector ts (get_or (by_level ts) q []) ≡ vector ts (get_or (by_level ts) (failure (by_level ts) q) []) + own_tags ts (get_or (by_level ts) q [])
vector-later ts l q h hq =
    let ps : List Word = by_level ts in
    let first : get_or ps q [] ≡ [] → q ≡ 0 =
    λ z. sym (index_of_get_d ps q (level_tree ts l).distinct hq) ∙ ap (λ (w : Word). index_of w ps) z ∙ level-first ts l in
    let r = nonempty (get_or ps q []) (λ z. omega (arith, h, first z)) in
    ap (vector ts) r.2 ∙ vector-from ts l q r.0 r.1 r.2 ∙ ap (λ (w : Word). vector ts (get_or ps (failure ps q) []) + own_tags ts w) (sym r.2)
