-- Choosing tag by tag; and that what lies at the chosen places are the words of the tags of the kind, as it reads them.
use Rattle.std.specs.Prelude.{◌+◌, ◌-◌, ◌<◌, ◌≤◌, suc, ℕ, false, true, ◌⊎◌, ◌≡◌, eqb, drop, get_or, length, replicate, set}
use mathlib.Core.List.{List, [], ◌++◌, ◌∷◌, append_assoc, append-nil, map}
use Rattle.std.proofs.Common.{inl, inr, ◌∙◌, ap₂, sym, add-one, arith, eq-eqb, ne_eqb, length-drop, length-set, drop-cons, get_or-take, length-take-le, take-suc-set}
use Rattle.std.proofs.Math.Path.{ap, refl}
use Rattle.std.proofs.Math.ListN.{take}
use Rattle.matching.specs.Laws.Bools.{decided}
use Rattle.matching.specs.Tags.{Tag, Tags, chosen, is_kind, of_kind, word_as}
use Rattle.matching.specs.Kinds.{as_read}
use Rattle.matching.specs.Words.{Word}
use Rattle.tagset.specs.Answer.{as_tags, cut_at, tags_in}
use Rattle.tagset.specs.Laws.Places.{cut-map}
use Rattle.tagset.specs.declared.Places.{Places}
use Rattle.choosing.specs.Choosing.{Choosing, ChosenOf, PlacesFit, begins_of, ends_of, kinds_of, lying_in, own_begins, own_ends, own_words, picked, with_place}
use Rattle.choosing.specs.declared.Chosen.{Chosen}

-- ---- one number more

module _ (kind : ℕ) where
  picked_hit : (k : ℕ) (ks : List ℕ) (x : ℕ) (xs : List ℕ) → eqb k kind ≡ true → picked kind (k ∷ ks) (x ∷ xs) ≡ x ∷ picked kind ks xs
  unfolding picked
  picked_hit k ks x xs e = rw e refl

  picked_miss : (k : ℕ) (ks : List ℕ) (x : ℕ) (xs : List ℕ) → eqb k kind ≡ false → picked kind (k ∷ ks) (x ∷ xs) ≡ picked kind ks xs
  unfolding picked
  picked_miss k ks x xs e = rw e refl

  picked_none : (ks xs : List ℕ) → length xs ≤ 0 → picked kind ks xs ≡ []
  unfolding picked
  picked_none [] xs h = refl
  picked_none (k ∷ ks) [] h = refl
  picked_none (k ∷ ks) (x ∷ xs) h = absurd (omega arith)

  -- ---- what lies at the chosen places

  module _ (bytes : List ℕ) where
    cut-none : (froms : List ℕ) → cut_at bytes froms [] ≡ []
    unfolding cut_at
    cut-none [] = refl
    cut-none (a ∷ froms) = refl

    cut-picked : (ks froms tos : List ℕ)
        → cut_at bytes (picked kind ks froms) (picked kind ks tos) ≡ map (λ (t : Tag). t.word) (chosen (is_kind kind) (tags_in bytes froms tos ks))
    unfolding picked cut_at as_tags chosen
    cut-picked [] [] tos = refl
    cut-picked [] (a ∷ froms) [] = refl
    cut-picked [] (a ∷ froms) (e ∷ tos) = refl
    cut-picked (k ∷ ks) [] tos = refl
    cut-picked (k ∷ ks) (a ∷ froms) [] = cut-none (picked kind (k ∷ ks) (a ∷ froms))
    cut-picked (k ∷ ks) (a ∷ froms) (e ∷ tos) = go (decided (eqb k kind)) (cut-picked ks froms tos)
      where
        go : (eqb k kind ≡ true) ⊎ (eqb k kind ≡ false)
            → cut_at bytes (picked kind ks froms) (picked kind ks tos) ≡ map (λ (t : Tag). t.word) (chosen (is_kind kind) (tags_in bytes froms tos ks))
            → cut_at bytes (picked kind (k ∷ ks) (a ∷ froms)) (picked kind (k ∷ ks) (e ∷ tos))
            ≡ map (λ (t : Tag). t.word) (chosen (is_kind kind) (tags_in bytes (a ∷ froms) (e ∷ tos) (k ∷ ks)))
        go (inl h) ih = rw h (ap {B = List Word} (λ (l : List Word). take (e - a) (drop a bytes) ∷ l) ih)
        go (inr h) ih = rw h ih

  -- WHAT LIES AT THE CHOSEN PLACES, read as the kind reads: the words of the tags of the kind
  pub chosen-words : (bytes : List ℕ) (p : Places) (own : Chosen) → ChosenOf kind p own
      → own_words (word_as kind bytes) own ≡ of_kind kind (lying_in bytes p)
  unfolding of_kind
  chosen-words bytes p own g =
      rw (g.from, g.to)
      (cut-map (as_read kind) bytes (picked kind (kinds_of p) (begins_of p)) (picked kind (kinds_of p) (ends_of p))
      ∙ ap (map (map (as_read kind))) (cut-picked bytes (kinds_of p) (begins_of p) (ends_of p))
      ∙ words (chosen (is_kind kind) (lying_in bytes p)))
    where
      words : (tags : Tags) → map (map (as_read kind)) (map (λ (t : Tag). t.word) tags) ≡ map (λ (t : Tag). word_as kind t.word) tags
      words [] = refl
      words (t ∷ tags) = ap {B = List Word} (λ (l : List Word). word_as kind t.word ∷ l) (words tags)

  -- ---- choosing

  module _ (p : Places) where
    pub choosing_start : Choosing kind p 0 (record { count = 0; from = replicate 16 0; to = replicate 16 0 })
    choosing_start = record { few = omega arith; from = refl; to = refl; roomy = record { from = refl; to = refl } }

    pub choosing_all : (i : ℕ) (own : Chosen) → PlacesFit p → p.count ≤ i → i ≤ p.count → Choosing kind p i own → ChosenOf kind p own
    choosing_all i own fit h j g = record {
      few = omega (arith, g.few, fit.few);
      from = all p.from fit.fits_from (own_begins own) g.from;
      to = all p.to fit.fits_to (own_ends own) g.to;
      roomy = g.roomy;
    }
      where
        all : (xs : List ℕ) → p.count ≤ length xs → (l : List ℕ)
            → l ++ picked kind (drop i (kinds_of p)) (drop i (take p.count xs)) ≡ picked kind (kinds_of p) (take p.count xs)
            → l ≡ picked kind (kinds_of p) (take p.count xs)
        all xs room l e =
            let none : picked kind (drop i (kinds_of p)) (drop i (take p.count xs)) ≡ [] =
            picked_none (drop i (kinds_of p)) (drop i (take p.count xs))
            (omega (arith, length-drop i (take p.count xs), length-take-le p.count xs room)) in
            sym (append-nil l) ∙ ap {B = List ℕ} (λ (r : List ℕ). l ++ r) (sym none) ∙ e

    module _ (fit : PlacesFit p) (i : ℕ) (less : i < p.count) where
      -- what is left of so many numbers of an array begins with number i
      left : (xs : List ℕ) → p.count ≤ length xs → drop i (take p.count xs) ≡ get_or xs i 0 ∷ drop (i + 1) (take p.count xs)
      left xs room =
          rw (add-one i)
          (drop-cons (take p.count xs) i 0 (omega (arith, length-take-le p.count xs room))
          ∙ ap {B = List ℕ} (λ (x : ℕ). x ∷ drop (suc i) (take p.count xs)) (get_or-take p.count xs i 0 less))

      module _ (xs : List ℕ) (room : p.count ≤ length xs) where
        skipped : eqb (get_or p.kinds i 0) kind ≡ false → picked kind (drop i (kinds_of p)) (drop i (take p.count xs))
            ≡ picked kind (drop (i + 1) (kinds_of p)) (drop (i + 1) (take p.count xs))
        skipped e =
            ap₂ (picked kind) (left p.kinds fit.fits_kinds) (left xs room)
            ∙ picked_miss (get_or p.kinds i 0) (drop (i + 1) (kinds_of p)) (get_or xs i 0) (drop (i + 1) (take p.count xs)) e

        taken : eqb (get_or p.kinds i 0) kind ≡ true → (l : List ℕ) (n : ℕ) → n < length l
            → take (n + 1) (set l n (get_or xs i 0)) ++ picked kind (drop (i + 1) (kinds_of p)) (drop (i + 1) (take p.count xs))
            ≡ take n l ++ picked kind (drop i (kinds_of p)) (drop i (take p.count xs))
        taken e l n h =
            let rest = picked kind (drop (i + 1) (kinds_of p)) (drop (i + 1) (take p.count xs)) in
            ap {B = List ℕ} (λ (r : List ℕ). r ++ rest)
            (ap (λ (k : ℕ). take k (set l n (get_or xs i 0))) (add-one n) ∙ take-suc-set l n (get_or xs i 0) h)
            ∙ append_assoc (take n l) (get_or xs i 0 ∷ []) rest
            ∙ ap {B = List ℕ} (λ (r : List ℕ). take n l ++ r)
            (sym (ap₂ (picked kind) (left p.kinds fit.fits_kinds) (left xs room)
            ∙ picked_hit (get_or p.kinds i 0) (drop (i + 1) (kinds_of p)) (get_or xs i 0) (drop (i + 1) (take p.count xs)) e))

      pub choosing_miss : (own : Chosen) → Choosing kind p i own → (get_or p.kinds i 0 ≡ kind → ⊥) → Choosing kind p (i + 1) own
      choosing_miss own g d = let e = ne_eqb (get_or p.kinds i 0) kind d in record {
        few = omega (arith, g.few);
        from = ap {B = List ℕ} (λ (r : List ℕ). own_begins own ++ r) (sym (skipped p.from fit.fits_from e)) ∙ g.from;
        to = ap {B = List ℕ} (λ (r : List ℕ). own_ends own ++ r) (sym (skipped p.to fit.fits_to e)) ∙ g.to;
        roomy = g.roomy;
      }

      pub choosing_hit : (own : Chosen) → Choosing kind p i own → get_or p.kinds i 0 ≡ kind
          → Choosing kind p (i + 1) (with_place own (get_or p.from i 0) (get_or p.to i 0))
      choosing_hit own g q = let e = eq-eqb (get_or p.kinds i 0) kind q in record {
        few = omega (arith, g.few);
        from = taken p.from fit.fits_from e own.from own.count (omega (arith, g.few, g.roomy.from, fit.few)) ∙ g.from;
        to = taken p.to fit.fits_to e own.to own.count (omega (arith, g.few, g.roomy.to, fit.few)) ∙ g.to;
        roomy = record {
          from = length-set own.from own.count (get_or p.from i 0) ∙ g.roomy.from;
          to = length-set own.to own.count (get_or p.to i 0) ∙ g.roomy.to;
        };
      }
