-- When an entry fails and when two tags are equal, with kinds, lengths and letters written out (docs/RULES.md, 1 and 7).
use Rattle.std.specs.Prelude.{◌*◌, ◌+◌, ◌<◌, ◌≤◌, ℕ, false, true, List, ◌↔◌, ◌⊎◌, ◌≡◌, refl, get_or, length}
use Rattle.std.proofs.lemmas.Bool.{false≢true}
use Rattle.std.proofs.Common.{inl, inr, ◌∙◌, subst₂, sym, arith}
use Rattle.matching.specs.Kinds.{TagKind, is_among}
use Rattle.matching.specs.Laws.AsRules.{BothKinds, KindOne, SameWord, TakesAs, same-word_iff, split_takes, whole_takes}
use Rattle.matching.specs.Laws.Bools.{decided}
use Rattle.matching.specs.Laws.Kinds.{word_as-exact, word_as_folded}
use Rattle.matching.specs.Parts.{kinds_for, split_layout, whole_layout}
use Rattle.matching.specs.Tags.{Tag, word_as}
use Rattle.tagset.specs.Grammar.{kind_at, length_at}
use Rattle.tagset.specs.Refusals.{Equal, Fails, fewer_than_four, kind_here, no_length, other_kind, seventeenth, short_payload}
use Rattle.tagset.specs.declared.SetFault.{SetFault}
use Rattle.tagset.specs.declared.SetFault.TheVariants.{Cut, Kind, Length, Many}

-- the two numbers at the front of an entry, of two bytes each, the low byte first: written out, so that the grammar's are held against them
abbrev pub length_of : List ℕ → ℕ
length_of left = get_or left 0 0 + 256 * get_or left 1 0

abbrev pub number_of : List ℕ → ℕ
number_of left = get_or left 2 0 + 256 * get_or left 3 0

-- the first check that entry k fails, at the front of the bytes that are left, where these kinds are taken
pub data FailsAs (Taken : ℕ → Type 0) (k : ℕ) (left : List ℕ) : SetFault → Type 0 where
  is_cut : length left < 4 → FailsAs Taken k left (Cut k)
  is_many : 4 ≤ length left → k ≡ 16 → FailsAs Taken k left (Many k)
  is_kind : 4 ≤ length left → (k ≡ 16 → ⊥) → (Taken (number_of left) → ⊥) → FailsAs Taken k left (Kind k)
  is_length : 4 ≤ length left → (k ≡ 16 → ⊥) → Taken (number_of left) → (length_of left ≡ 0) ⊎ (32 < length_of left) → FailsAs Taken k left (Length k)
  is_short : 4 ≤ length left → (k ≡ 16 → ⊥) → Taken (number_of left) → 1 ≤ length_of left → length_of left ≤ 32 → length left < 4 + length_of left
      → FailsAs Taken k left (Cut k)

module _ (ks : List TagKind) (Taken : ℕ → Type 0) (t : TakesAs ks Taken) (k : ℕ) (left : List ℕ) where
  lower-one : Taken (kind_at left) → (kind_here ks left).shortest ≡ 1
  lower-one = t.shortest (kind_at left)

  upper_one : Taken (kind_at left) → (kind_here ks left).longest ≡ 32
  upper_one = t.longest (kind_at left)

  not_taken : is_among (kind_at left) ks ≡ false → Taken (kind_at left) → ⊥
  not_taken e h = false≢true (sym e ∙ (t.taken (kind_at left)).1 h)

  no-among : (Taken (kind_at left) → ⊥) → is_among (kind_at left) ks ≡ false
  no-among h = go (decided (is_among (kind_at left) ks))
    where
      go : (is_among (kind_at left) ks ≡ true) ⊎ (is_among (kind_at left) ks ≡ false) → is_among (kind_at left) ks ≡ false
      go (inl e) = absurd (h ((t.taken (kind_at left)).0 e))
      go (inr e) = e

  there : (fault : SetFault) → Fails ks k left fault → FailsAs Taken k left fault
  there fault (fewer_than_four h) = is_cut h
  there fault (seventeenth h m) = is_many h m
  there fault (other_kind h m e) = is_kind h m (not_taken e)
  there fault (no_length h m e l) = let z = (t.taken (kind_at left)).0 e in is_length h m z (wrong z l)
    where
      wrong : Taken (kind_at left) → (length_at left < (kind_here ks left).shortest) ⊎ ((kind_here ks left).longest < length_at left)
          → (length_at left ≡ 0) ⊎ (32 < length_at left)
      wrong z (inl l) = inl (omega (arith, l, lower-one z))
      wrong z (inr l) = inr (omega (arith, l, upper_one z))
  there fault (short_payload h m e a b r) =
      let z = (t.taken (kind_at left)).0 e in is_short h m z (omega (arith, a, lower-one z)) (omega (arith, b, upper_one z)) r

  back : (fault : SetFault) → FailsAs Taken k left fault → Fails ks k left fault
  back fault (is_cut h) = fewer_than_four h
  back fault (is_many h m) = seventeenth h m
  back fault (is_kind h m e) = other_kind h m (no-among e)
  back fault (is_length h m z l) = no_length h m ((t.taken (kind_at left)).1 z) (wrong l)
    where
      wrong : (length_at left ≡ 0) ⊎ (32 < length_at left) → (length_at left < (kind_here ks left).shortest) ⊎ ((kind_here ks left).longest < length_at left)
      wrong (inl l) = inl (omega (arith, l, lower-one z))
      wrong (inr l) = inr (omega (arith, l, upper_one z))
  back fault (is_short h m z a b r) =
      short_payload h m ((t.taken (kind_at left)).1 z) (omega (arith, a, lower-one z)) (omega (arith, b, upper_one z)) r

  pub fails_iff : (fault : SetFault) → Fails ks k left fault ↔ FailsAs Taken k left fault
  fails_iff fault = (there fault, back fault)

-- FOR THE SPLIT LAYOUT KIND is for others than 1 and 2, and for the whole-byte layout for others than 1; LENGTH is for 0 and for more than 32
pub split-fails_iff : (k : ℕ) (left : List ℕ) (fault : SetFault) → Fails (kinds_for split_layout) k left fault ↔ FailsAs BothKinds k left fault
split-fails_iff = fails_iff (kinds_for split_layout) BothKinds split_takes

pub whole-fails_iff : (k : ℕ) (left : List ℕ) (fault : SetFault) → Fails (kinds_for whole_layout) k left fault ↔ FailsAs KindOne k left fault
whole-fails_iff = fails_iff (kinds_for whole_layout) KindOne whole_takes

-- ---- REPEAT

-- two tags of kind 1 or 2 are the same: both exact with the same bytes, or both folded with the same letters
abbrev pub SameTag : Tag → Tag → Type 0
SameTag a b = ((a.kind ≡ 1) × (b.kind ≡ 1) × (a.word ≡ b.word)) ⊎ ((a.kind ≡ 2) × (b.kind ≡ 2) × SameWord a.word b.word)

-- TAGS ARE EQUAL, as REPEAT asks, exactly then
pub equal_iff : (a b : Tag) → BothKinds a.kind → Equal a b ↔ SameTag a b
equal_iff a b known = (there known, back)
  where
    as_read : {k : ℕ} → a.kind ≡ k → Equal a b → word_as k a.word ≡ word_as k b.word
    as_read {k} e q = subst₂ (λ (i j : ℕ). word_as i a.word ≡ word_as j b.word) e (sym q.kind ∙ e) q.read

    there : BothKinds a.kind → Equal a b → SameTag a b
    there (inl e) q = inl (e, sym q.kind ∙ e, sym (word_as-exact a.word) ∙ as_read e q ∙ word_as-exact b.word)
    there (inr e) q =
        inr (e, sym q.kind ∙ e, (same-word_iff a.word b.word).0 (sym (word_as_folded a.word) ∙ as_read e q ∙ word_as_folded b.word))

    back : SameTag a b → Equal a b
    back (inl (e, f, w)) = record { kind = e ∙ sym f; read = rw (e, f, w) refl }
    back (inr (e, f, w)) = record {
      kind = e ∙ sym f;
      read = rw (e, f) (word_as_folded a.word ∙ (same-word_iff a.word b.word).1 w ∙ sym (word_as_folded b.word));
    }
