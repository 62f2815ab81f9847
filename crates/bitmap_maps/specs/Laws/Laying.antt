-- Laying a map: the slot at the start, one tag more, and all of them.
use Rattle.std.specs.Prelude.{◌%◌, ◌*◌, ◌+◌, ◌/◌, ◌<◌, ◌^◌, ◌≤◌, ℕ, Bool, ◌&&◌, ◌||◌, false, true, List, [], ◌++◌, ◌∷◌, ◌⊎◌, ◌≡◌, ltb, length, set, take}
use Rattle.std.proofs.Math.Bool.{or_assoc, or-false}
use Rattle.std.proofs.Common.{inl, inr, ◌∙◌, ap₂, subst, div-add-mod', div-lt_iff_lt-mul, mod-lt, add-one, arith, lit<, take_all, take-suc}
use Rattle.std.proofs.Math.Path.{ap, refl, sym}
use Rattle.std.specs.Int.Bits.{bit_or}
use Rattle.std.proofs.Math.Dec.{eqb}
use Rattle.std.proofs.Math.ListN.{get_or, length-set}
use Rattle.std.proofs.Math.Seq.{get_or-set_other, get_or-set_same}
use borrow.Author.Tests.{eqb-false, eqb-true, le-ltb, lt-ltb, ne_eqb}
use Rattle.matching.specs.Laws.Bools.{and_both, and_l, and_r, decided, not-both}
use Rattle.matching.specs.Words.{Word, begins, begins_one}
use Rattle.bitmap.specs.Slots.{bits_from}
use Rattle.bitmap.specs.Steps.{number_at}
use Rattle.bitmap_maps.specs.Laid.{MapLaid, TagLaid, Unlaid, with_byte}
use Rattle.bitmap_maps.specs.Laws.Bits.{bits_none, bits_or, bits-same}
use Rattle.bitmap_maps.specs.Laws.Masks.{begins-child}

begins_one_snoc : (us : List Word) (v t : Word) → begins_one v (us ++ t ∷ []) ≡ (begins_one v us || begins v t)
unfolding begins_one
begins_one_snoc [] v t = or-false (begins v t)
begins_one_snoc (u ∷ us) v t = ap (λ (b : Bool). begins v u || b) (begins_one_snoc us v t) ∙ sym (or_assoc (begins v u) (begins_one v us) (begins v t))

-- no tag yet: a map of zeros
module _ (p : Word) (q : ℕ) (table : List ℕ) (u : Unlaid q table) where
  abbrev bare : List ℕ
  bare = set table (q * 19) 0

  zero-at : (j : ℕ) → j < 16 → number_at bare q j ≡ 0
  unfolding number_at
  zero-at j h = go (decided (eqb j 0))
    where
      go : (eqb j 0 ≡ true) ⊎ (eqb j 0 ≡ false) → get_or bare (q * 19 + j) 0 ≡ 0
      go (inl e) =
          let z : q * 19 + j ≡ q * 19 = omega (arith, eqb-true j 0 e) in
          ap (λ (i : ℕ). get_or bare i 0) z ∙ get_or-set_same table (q * 19) 0 0 (omega (arith, u.room))
      go (inr e) =
          let some : 0 < j = (let ne = eqb-false j 0 e in omega arith) in
          get_or-set_other table (q * 19) (q * 19 + j) 0 0 (λ z. omega arith) ∙ u.bare j some h

  pub laid_none : MapLaid [] p q bare bare
  unfolding begins_one
  laid_none = record { map = λ j h. zero-at j h ∙ sym (bits_none 16 (j * 16)); low = λ i h. refl; high = λ i h. refl; long = refl }

  -- what is laid over the cleared number is laid over the table
  pub laid_over : (us : List Word) (after : List ℕ) → MapLaid us p q bare after → MapLaid us p q table after
  laid_over us after laid = record {
    map = laid.map;
    low = λ i h. laid.low i h ∙ get_or-set_other table (q * 19) i 0 0 (λ z. omega arith);
    high = λ i h. laid.high i h ∙ get_or-set_other table (q * 19) i 0 0 (λ z. omega arith);
    long = laid.long ∙ length-set table (q * 19) 0;
  }

-- ---- one tag more

module _ (us : List Word) (p : Word) (q : ℕ) (before mid : List ℕ) (laid : MapLaid us p q before mid) (room : q * 19 + 18 < length mid) where
  -- the map's test, before and after
  abbrev old : ℕ → Bool
  old x = begins_one (p ++ x ∷ []) us

  abbrev new : Word → ℕ → Bool
  new tag x = begins_one (p ++ x ∷ []) (us ++ tag ∷ [])

  new_is : (tag : Word) (x : ℕ) → new tag x ≡ (old x || begins p tag && ltb (length p) (length tag) && eqb (get_or tag (length p) 0) x)
  new_is tag x = begins_one_snoc us (p ++ x ∷ []) tag ∙ ap (λ (b : Bool). old x || b) (begins-child p tag x)

  module _ (c : ℕ) (byte : c < 256) where
    abbrev with : ℕ → Bool
    with x = old x || eqb c x

    high_part : c / 16 < 16
    high_part = (div-lt_iff_lt-mul (lit< tt)).1 byte

    own : number_at (with_byte mid q c) q (c / 16) ≡ bits_from with (c / 16 * 16) 16
    unfolding number_at with_byte
    own =
        get_or-set_same mid (q * 19 + c / 16) (bit_or (number_at mid q (c / 16)) (2 ^ (c % 16))) 0 (omega (arith, high_part, room))
        ∙ ap (λ (x : ℕ). bit_or x (2 ^ (c % 16))) (laid.map (c / 16) high_part)
        ∙ bits_or old 16 (c / 16 * 16) (c % 16) (mod-lt c (lit< tt))
        ∙ ap (λ (y : ℕ). bits_from (λ x. old x || eqb y x) (c / 16 * 16) 16) (div-add-mod' c 16)

    other : (j : ℕ) → j < 16 → (j ≡ c / 16 → ⊥) → number_at (with_byte mid q c) q j ≡ bits_from with (j * 16) 16
    unfolding number_at with_byte
    other j h ne =
        get_or-set_other mid (q * 19 + c / 16) (q * 19 + j) (bit_or (number_at mid q (c / 16)) (2 ^ (c % 16))) 0 (λ z. ne (omega arith))
        ∙ laid.map j h
        ∙ sym (bits-same with old 16 (j * 16) (λ x l m. ap (λ (b : Bool). old x || b) (ne_eqb c x (λ z. ne (omega arith))) ∙ or-false (old x)))

    with_byte_lem : (g : ℕ → Bool) → ((x : ℕ) → g x ≡ with x) → (j : ℕ) → j < 16 → number_at (with_byte mid q c) q j ≡ bits_from g (j * 16) 16
    with_byte_lem g e j h = go (decided (eqb j (c / 16))) ∙ bits-same with g 16 (j * 16) (λ x l m. sym (e x))
      where
        go : (eqb j (c / 16) ≡ true) ⊎ (eqb j (c / 16) ≡ false) → number_at (with_byte mid q c) q j ≡ bits_from with (j * 16) 16
        go (inl i) = subst (λ (y : ℕ). number_at (with_byte mid q c) q y ≡ bits_from with (y * 16) 16) (sym (eqb-true j (c / 16) i)) own
        go (inr i) = other j h (eqb-false j (c / 16) i)

    -- other cells
    with-kept : (i : ℕ) → (i ≡ q * 19 + c / 16 → ⊥) → get_or (with_byte mid q c) i 0 ≡ get_or mid i 0
    unfolding with_byte
    with-kept i ne = get_or-set_other mid (q * 19 + c / 16) i (bit_or (number_at mid q (c / 16)) (2 ^ (c % 16))) 0 ne

    with-long : length (with_byte mid q c) ≡ length mid
    unfolding with_byte
    with-long = length-set mid (q * 19 + c / 16) (bit_or (number_at mid q (c / 16)) (2 ^ (c % 16)))

    laid-byte : (vs : List Word) → ((x : ℕ) → begins_one (p ++ x ∷ []) vs ≡ with x) → MapLaid vs p q before (with_byte mid q c)
    laid-byte vs e = record {
      map = with_byte_lem (λ x. begins_one (p ++ x ∷ []) vs) e;
      low = λ i h. with-kept i (λ z. omega arith) ∙ laid.low i h;
      high = λ i h. with-kept i (λ z. omega (arith, high_part)) ∙ laid.high i h;
      long = with-long ∙ laid.long;
    }

  pub laid-tag : (tag : Word) (d : ℕ) (goes : Bool) (after : List ℕ) → d ≡ length p → goes ≡ begins p tag → TagLaid tag q d goes mid after
      → MapLaid (us ++ tag ∷ []) p q before after
  laid-tag tag d goes after ed eg t = go (decided (goes && ltb d (length tag)))
    where
      test : (goes && ltb d (length tag)) ≡ (begins p tag && ltb (length p) (length tag))
      test = ap₂ (λ (b : Bool) (n : ℕ). b && ltb n (length tag)) eg ed

      newly : (b : Bool) → (goes && ltb d (length tag)) ≡ b → (x : ℕ) → new tag x ≡ (old x || b && eqb (get_or tag (length p) 0) x)
      newly b e x = new_is tag x ∙ ap (λ (y : Bool). old x || y && eqb (get_or tag (length p) 0) x) (sym test ∙ e)

      go : ((goes && ltb d (length tag)) ≡ true) ⊎ ((goes && ltb d (length tag)) ≡ false) → MapLaid (us ++ tag ∷ []) p q before after
      go (inl e) =
          let f : get_or tag (length p) 0 ≡ get_or tag d 0 = ap (λ (n : ℕ). get_or tag n 0) (sym ed) in
          subst (MapLaid (us ++ tag ∷ []) p q before) (sym (t.on e).1)
          (laid-byte (get_or tag d 0) (t.on e).0 (us ++ tag ∷ []) (λ x. newly true e x ∙ ap (λ (y : ℕ). old x || eqb y x) f))
      go (inr e) =
          subst (MapLaid (us ++ tag ∷ []) p q before) (sym (t.off e))
          record {
            map = λ j h. laid.map j h ∙ bits-same old (new tag) 16 (j * 16) (λ x l m. sym (newly false e x ∙ or-false (old x)));
            low = laid.low;
            high = laid.high;
            long = laid.long;
          }

-- the ways of one tag: it does not go through, it is no longer, or it leads on
pub tag_aside : (tag : Word) (q d : ℕ) (goes : Bool) (table : List ℕ) → goes ≡ false → TagLaid tag q d goes table table
tag_aside tag q d goes table e = record { on = λ i. absurd (not-both (and_l goes (ltb d (length tag)) i) e); off = λ i. refl }

pub tag_over : (tag : Word) (q d : ℕ) (goes : Bool) (table : List ℕ) → length tag ≤ d → TagLaid tag q d goes table table
tag_over tag q d goes table h = record { on = λ i. absurd (not-both (and_r goes (ltb d (length tag)) i) (le-ltb d (length tag) h)); off = λ i. refl }

pub tag_leads : (tag : Word) (q d : ℕ) (goes : Bool) (before after : List ℕ) → goes ≡ true → d < length tag → get_or tag d 0 < 256
    → after ≡ with_byte before q (get_or tag d 0) → TagLaid tag q d goes before after
tag_leads tag q d goes before after e h byte is =
    record { on = λ i. (byte, is); off = λ i. absurd (not-both (and_both goes (ltb d (length tag)) e (lt-ltb d (length tag) h)) i) }

-- as the loop goes on, from tag u to the next, and to the end
pub laid_more : (ts : List Word) (p : Word) (q u : ℕ) (before mid after : List ℕ) (d : ℕ) (goes : Bool) (tag : Word)
    → MapLaid (take u ts) p q before mid → q * 19 + 18 < length mid → u < length ts → tag ≡ get_or ts u [] → d ≡ length p → goes ≡ begins p (get_or ts u [])
    → TagLaid tag q d goes mid after → MapLaid (take (u + 1) ts) p q before after
laid_more ts p q u before mid after d goes tag laid room h et ed eg t =
    subst (λ (vs : List Word). MapLaid vs p q before after)
    (ap {B = List Word} (λ (w : Word). take u ts ++ w ∷ []) et ∙ sym (take-suc ts u [] h) ∙ ap (λ (n : ℕ). take n ts) (sym (add-one u)))
    (laid-tag (take u ts) p q before mid laid room tag d goes after ed (eg ∙ ap (begins p) (sym et)) t)

pub laid-all : (ts : List Word) (p : Word) (q u : ℕ) (before after : List ℕ) → MapLaid (take u ts) p q before after → length ts ≤ u
    → MapLaid ts p q before after
laid-all ts p q u before after laid h = subst (λ (vs : List Word). MapLaid vs p q before after) (take_all u ts h) laid
