-- The tags that are a state's own word: those that go through it and are no longer. They are gathered from the last tag down.
use Rattle.std.specs.Prelude.{◌*◌, ◌+◌, ◌-◌, ◌<◌, ◌^◌, ◌≤◌, suc, ℕ, Bool, ◌&&◌, cond, List, [], ◌∷◌, ◌≡◌, refl, eqb, drop, get_or, length}
use Rattle.std.proofs.Math.Bool.{and_assoc}
use Rattle.std.proofs.Common.{◌∙◌, ap, ap₂, sym, le_of_eq, pow-suc, arith, drop_of_length-le, pow_mono, drop-cons}
use Rattle.std.proofs.Math.Dec.{eqb-suc-suc, eqb-suc-zero}
use Rattle.matching.specs.Laws.Vectors.{one_lt}
use Rattle.matching.specs.Machine.{vector_by}
use Rattle.matching.specs.Words.{Word, begins, same}
use Rattle.bitmap_maps.specs.Laws.Masks.{eqb_swap}
use Rattle.bitmap_maps.specs.Through.{own_tags}

-- a tag is a word exactly if the word begins it and they have as many letters
pub same-begins : (p t : Word) → same t p ≡ (begins p t && eqb (length t) (length p))
unfolding same begins
same-begins [] [] = refl
same-begins [] (y ∷ t) = sym (eqb-suc-zero (length t))
same-begins (x ∷ p) [] = refl
same-begins (x ∷ p) (y ∷ t) =
    ap₂ ◌&&◌ (eqb_swap y x) (same-begins p t) ∙ sym (and_assoc (eqb x y) (begins p t) (eqb (length t) (length p)))
    ∙ ap (λ (b : Bool). (eqb x y && begins p t) && b) (sym (eqb-suc-suc (length t) (length p)))

-- a number of so many bits, and one bit more
pub one_more : (n u v b : ℕ) → v < 2 ^ (n - u) → 0 < u → u ≤ n → (is : Bool) → b ≡ cond is 1 0 → v * 2 + b < 2 ^ (n - (u - 1))
one_more n u v b h some most is e =
    let z : n - (u - 1) ≡ suc (n - u) = omega arith in
    omega (arith, ap (λ (k : ℕ). 2 ^ k) z, pow-suc 2 (n - u), e, one_lt is)

pub sixteen_bits : (n u x : ℕ) → n ≤ 16 → x < 2 ^ (n - u) → x < 65536
sixteen_bits n u x h l = let few : n - u ≤ 16 = omega arith in omega (arith, l, pow_mono {i = n - u} {j = 16} few)

-- as `is_own` says it
pub own_is : (ts : List Word) (p : Word) (u d : ℕ) (tag : Word) (goes is : Bool) → tag ≡ get_or ts u [] → goes ≡ begins p (get_or ts u []) → d ≡ length p
    → is ≡ (goes && eqb (length tag) d) → is ≡ same (get_or ts u []) p
own_is ts p u d tag goes is et eg ed ei =
    ei ∙ ap₂ ◌&&◌ eg (ap₂ eqb (ap {B = ℕ} length et) ed) ∙ sym (same-begins p (get_or ts u []))

-- one tag more, from behind
pub own-more : (ts : List Word) (p : Word) (u v n : ℕ) (is : Bool) → v ≡ own_tags (drop u ts) p → 0 < u → u ≤ length ts
    → is ≡ same (get_or ts (u - 1) []) p → n ≡ cond is 1 0 → v * 2 + n ≡ own_tags (drop (u - 1) ts) p
unfolding vector_by
own-more ts p u v n is e h most ei en =
    let z : suc (u - 1) ≡ u = omega arith in
    let front : drop (u - 1) ts ≡ get_or ts (u - 1) [] ∷ drop u ts =
    drop-cons ts (u - 1) [] (omega arith) ∙ ap {B = List Word} (λ (k : ℕ). get_or ts (u - 1) [] ∷ drop k ts) z in
    let b : n ≡ cond (same (get_or ts (u - 1) []) p) 1 0 = en ∙ ap (λ (x : Bool). cond x 1 0) ei in
    omega (arith, e, b, ap (λ (l : List Word). own_tags l p) front)

-- none yet, and all
pub own-none : (ts : List Word) (p : Word) (n : ℕ) → length ts ≡ n → 0 ≡ own_tags (drop n ts) p
unfolding vector_by
own-none ts p n e = ap (λ (l : List Word). own_tags l p) (sym (drop_of_length-le ts {i = n} (le_of_eq e)))

pub own-all : (ts : List Word) (p : Word) (u v : ℕ) → v ≡ own_tags (drop u ts) p → u ≤ 0 → v ≡ own_tags ts p
own-all ts p u v e h = let z : u ≡ 0 = omega arith in e ∙ ap (λ (k : ℕ). own_tags (drop k ts) p) z
