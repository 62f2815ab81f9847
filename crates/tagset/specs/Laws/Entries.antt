-- Entries by their checks, and what the first entries of a set come to.
use Rattle.std.specs.Prelude.{◌+◌, ◌-◌, ◌<◌, ◌≤◌, suc, zero, ℕ, Bool, false, not, true, List, [], ◌++◌, ◌∷◌, ◌≢◌, ◌⊎◌, ◌≡◌, eqb, ltb, drop, length}
use Rattle.std.proofs.Common.{append-nil, inl, inr, ◌∙◌, ap, sym, arith, length-drop, length-take-le, eq-eqb, eqb-true, le-ltb, lt-ltb, ltb-false, ltb-true, ne_eqb}
use Rattle.std.proofs.Math.Path.{refl}
use Rattle.std.proofs.Math.Seq.{append_snoc}
use Rattle.std.proofs.lemmas.Bool.{eqb-false, not-false, not-true}
use Rattle.matching.specs.Laws.Bools.{or_cases, or_false, or_false-l, or_false-r, or_l, or_r}
use Rattle.matching.specs.Laws.States.{most}
use Rattle.matching.specs.Kinds.{TagKind, is_among}
use Rattle.matching.specs.Limits.{most_tags}
use Rattle.matching.specs.Tags.{Tag, Tags}
use Rattle.tagset.specs.Grammar.{EntryOf, SetOf, at_fault, bad_set, behind, entries_from, entry_by, entry_of, good_set, kind_at, length_at, tag_at, whole_tag}
use Rattle.tagset.specs.Grammar.{wrong_length}
use Rattle.tagset.specs.Refusals.{Fails, Passed, Whole, at_front, fewer_than_four, kind_here, no_length, one_more, other_kind, seventeenth, short_payload}
use Rattle.tagset.specs.declared.SetFault.{SetFault}

-- the tags of the first entries, before what the others come to
abbrev pub ahead : Tags → SetOf → SetOf
ahead ts (good_set us) = good_set (ts ++ us)
ahead ts (bad_set fault) = bad_set fault

-- ---- an entry

module _ (ks : List TagKind) where
  -- an entry passes or fails
  pub data EntryCase (k : ℕ) (left : List ℕ) : EntryOf → Type 0 where
    passes : Whole ks k left → EntryCase k left (whole_tag (tag_at left))
    fails : {fault : SetFault} → Fails ks k left fault → EntryCase k left (at_fault fault)

  few : (left : List ℕ) → wrong_length ks (kind_at left) (length_at left) ≡ true
      → (length_at left < (kind_here ks left).shortest) ⊎ ((kind_here ks left).longest < length_at left)
  few left e = go (or_cases (ltb (length_at left) (kind_here ks left).shortest) (ltb (kind_here ks left).longest (length_at left)) e)
    where
      go : (ltb (length_at left) (kind_here ks left).shortest ≡ true) ⊎ (ltb (kind_here ks left).longest (length_at left) ≡ true)
          → (length_at left < (kind_here ks left).shortest) ⊎ ((kind_here ks left).longest < length_at left)
      go (inl h) = inl (ltb-true _ _ h)
      go (inr h) = inr (ltb-true _ _ h)

  enough : (left : List ℕ) → wrong_length ks (kind_at left) (length_at left) ≡ false
      → ((kind_here ks left).shortest ≤ length_at left) × (length_at left ≤ (kind_here ks left).longest)
  enough left e = (
    ltb-false _ _ (or_false-l (ltb (length_at left) (kind_here ks left).shortest) (ltb (kind_here ks left).longest (length_at left)) e),
    ltb-false _ _ (or_false-r (ltb (length_at left) (kind_here ks left).shortest) (ltb (kind_here ks left).longest (length_at left)) e),
  )

  by_tests : (k : ℕ) (left : List ℕ) (a b c d e : Bool) → ltb (length left) 4 ≡ a → eqb k most_tags ≡ b → not (is_among (kind_at left) ks) ≡ c
      → wrong_length ks (kind_at left) (length_at left) ≡ d → ltb (length left) (4 + length_at left) ≡ e
      → EntryCase k left (entry_by k (tag_at left) a b c d e)
  by_tests k left true b c d e ea eb ec ed ee = fails (fewer_than_four (ltb-true _ _ ea))
  by_tests k left false true c d e ea eb ec ed ee = fails (seventeenth (ltb-false _ _ ea) (eqb-true _ _ eb))
  by_tests k left false false true d e ea eb ec ed ee =
      fails (other_kind (ltb-false _ _ ea) (eqb-false _ _ eb) (not-true (is_among (kind_at left) ks) ec))
  by_tests k left false false false true e ea eb ec ed ee =
      fails (no_length (ltb-false _ _ ea) (eqb-false _ _ eb) (not-false (is_among (kind_at left) ks) ec) (few left ed))
  by_tests k left false false false false e ea eb ec ed ee = go e ee
    where
      go : (e : Bool) → ltb (length left) (4 + length_at left) ≡ e → EntryCase k left (entry_by k (tag_at left) false false false false e)
      go true h =
          fails (short_payload (ltb-false _ _ ea) (eqb-false _ _ eb) (not-false (is_among (kind_at left) ks) ec) (enough left ed).0 (enough left ed).1
          (ltb-true _ _ h))
      go false h =
          passes
          (record {
            four = ltb-false _ _ ea;
            room = eqb-false _ _ eb;
            kind = not-false (is_among (kind_at left) ks) ec;
            some = (enough left ed).0;
            short = (enough left ed).1;
            rest = ltb-false _ _ h;
          })

  pub entry_case : (k : ℕ) (left : List ℕ) → EntryCase k left (entry_of ks k left)
  unfolding entry_of
  entry_case k left =
      by_tests k left (ltb (length left) 4) (eqb k most_tags) (not (is_among (kind_at left) ks)) (wrong_length ks (kind_at left) (length_at left))
      (ltb (length left) (4 + length_at left)) refl refl refl refl refl

-- the tests of a length, one by one
right_length : (ks : List TagKind) (left : List ℕ) → (kind_here ks left).shortest ≤ length_at left → length_at left ≤ (kind_here ks left).longest
    → wrong_length ks (kind_at left) (length_at left) ≡ false
right_length ks left s l = or_false _ _ (le-ltb (length_at left) (kind_here ks left).shortest s) (le-ltb (kind_here ks left).longest (length_at left) l)

pub whole_entry : {ks : List TagKind} {k : ℕ} {left : List ℕ} → Whole ks k left → entry_of ks k left ≡ whole_tag (tag_at left)
unfolding entry_of
whole_entry {ks} {k} {left} w =
    rw (
      le-ltb (length left) 4 w.four,
      ne_eqb k most_tags w.room,
      w.kind,
      right_length ks left w.some w.short,
      le-ltb (length left) (4 + length_at left) w.rest,
    )

pub entry_fails : {ks : List TagKind} {k : ℕ} {left : List ℕ} {fault : SetFault} → Fails ks k left fault → entry_of ks k left ≡ at_fault fault
unfolding entry_of
entry_fails {ks} {k} {left} (fewer_than_four h) = rw (lt-ltb (length left) 4 h)
entry_fails {ks} {k} {left} (seventeenth h e) = rw (le-ltb (length left) 4 h, eq-eqb k most_tags e)
entry_fails {ks} {k} {left} (other_kind h n d) = rw (le-ltb (length left) 4 h, ne_eqb k most_tags n, d)
entry_fails {ks} {k} {left} (no_length h n e w) =
    rw (le-ltb (length left) 4 h, ne_eqb k most_tags n, e, go w)
  where
    go : (length_at left < (kind_here ks left).shortest) ⊎ ((kind_here ks left).longest < length_at left) → wrong_length ks (kind_at left) (length_at left) ≡ true
    go (inl z) = or_l _ _ (lt-ltb (length_at left) (kind_here ks left).shortest z)
    go (inr z) = or_r (ltb (length_at left) (kind_here ks left).shortest) _ (lt-ltb (kind_here ks left).longest (length_at left) z)
entry_fails {ks} {k} {left} (short_payload h n e s l r) =
    rw (
      le-ltb (length left) 4 h,
      ne_eqb k most_tags n,
      e,
      right_length ks left s l,
      lt-ltb (length left) (4 + length_at left) r,
    )

pub payload_length : {ks : List TagKind} {k : ℕ} {left : List ℕ} → Whole ks k left → length (tag_at left).word ≡ length_at left
payload_length {ks} {k} {left} w = length-take-le (length_at left) (drop 4 left) (omega (arith, length-drop 4 left, w.rest))

-- ---- the entries

pub entries_end : (ks : List TagKind) (most k : ℕ) → entries_from ks (suc most) k [] ≡ good_set []
unfolding entries_from
entries_end ks most k = refl

pub entries_whole : {ks : List TagKind} (most : ℕ) {k : ℕ} {left : List ℕ} → Whole ks k left
    → entries_from ks (suc most) k left ≡ behind (tag_at left) (entries_from ks most (suc k) (drop (4 + length_at left) left))
unfolding entries_from
entries_whole {ks} most {k} {left} w = go left w
  where
    go : (left : List ℕ) → Whole ks k left → entries_from ks (suc most) k left ≡ behind (tag_at left) (entries_from ks most (suc k) (drop (4 + length_at left) left))
    go [] w = absurd (omega (arith, w.four))
    go (b ∷ l) w = rw (whole_entry w, payload_length w)

pub entries_fail : {ks : List TagKind} (most : ℕ) {k : ℕ} {left : List ℕ} {fault : SetFault} → 0 < length left → Fails ks k left fault
    → entries_from ks (suc most) k left ≡ bad_set fault
unfolding entries_from
entries_fail {ks} most {k} {left} {fault} h f = go left h f
  where
    go : (left : List ℕ) → 0 < length left → Fails ks k left fault → entries_from ks (suc most) k left ≡ bad_set fault
    go [] h f = absurd (omega arith)
    go (b ∷ l) h f = rw (entry_fails f)

ahead_nil : (s : SetOf) → ahead [] s ≡ s
ahead_nil (good_set us) = refl
ahead_nil (bad_set fault) = refl

ahead-behind : (ts : Tags) (t : Tag) (s : SetOf) → ahead ts (behind t s) ≡ ahead (ts ++ t ∷ []) s
ahead-behind ts t (good_set us) = ap good_set (sym (append_snoc ts t us))
ahead-behind ts t (bad_set fault) = refl

pub passed-few : {ks : List TagKind} {bytes : List ℕ} {k : ℕ} {ts : Tags} {left : List ℕ} → Passed ks bytes k ts left → k ≤ 16
passed-few at_front = omega arith
passed-few (one_more {k} p w) = let n : k ≢ 16 = w.room in omega (arith, passed-few p)

-- what a set comes to, from any entry on
pub passed_reads : {ks : List TagKind} {bytes : List ℕ} {k : ℕ} {ts : Tags} {left : List ℕ} → Passed ks bytes k ts left
    → entries_from ks 17 0 bytes ≡ ahead ts (entries_from ks (17 - k) k left)
passed_reads {ks} {bytes} at_front = sym (ahead_nil (entries_from ks 17 0 bytes))
passed_reads {ks} {bytes} (one_more {k} {tags = ts} {left} p w) =
    let e : 17 - k ≡ suc (17 - suc k) = omega (arith, passed-few p, w.room) in
    passed_reads p
    ∙ ap (λ (n : ℕ). ahead ts (entries_from ks n k left)) e
    ∙ ap (ahead ts) (entries_whole (17 - suc k) w)
    ∙ ahead-behind ts (tag_at left) (entries_from ks (17 - suc k) (suc k) (drop (4 + length_at left) left))

left_one : (k : ℕ) → k ≤ 16 → 17 - k ≡ suc (16 - k)
left_one k h = omega arith

pub passed-fails : {ks : List TagKind} {bytes : List ℕ} {k : ℕ} {ts : Tags} {left : List ℕ} {fault : SetFault} → Passed ks bytes k ts left → 0 < length left
    → Fails ks k left fault → entries_from ks 17 0 bytes ≡ bad_set fault
passed-fails {ks} {bytes} {k} {ts} {left} p h f =
    passed_reads p
    ∙ ap (λ (n : ℕ). ahead ts (entries_from ks n k left)) (left_one k (passed-few p))
    ∙ ap (ahead ts) (entries_fail (16 - k) h f)

pub passed-all : {ks : List TagKind} {bytes : List ℕ} {k : ℕ} {ts : Tags} → Passed ks bytes k ts [] → entries_from ks 17 0 bytes ≡ good_set ts
passed-all {ks} {bytes} {k} {ts} p =
    passed_reads p
    ∙ ap (λ (n : ℕ). ahead ts (entries_from ks n k [])) (left_one k (passed-few p))
    ∙ ap (ahead ts) (entries_end ks (16 - k) k)
    ∙ ap good_set (append-nil ts)

-- ---- every set is one of these

pub data EntriesCase (ks : List TagKind) (bytes : List ℕ) : SetOf → Type 0 where
  all_passed : {k : ℕ} {ts : Tags} → Passed ks bytes k ts [] → EntriesCase ks bytes (good_set ts)
  one_fails : {k : ℕ} {ts : Tags} {left : List ℕ} {fault : SetFault} → Passed ks bytes k ts left → 0 < length left → Fails ks k left fault
      → EntriesCase ks bytes (bad_set fault)

judge : (most : ℕ) {ks : List TagKind} {bytes : List ℕ} {k : ℕ} {ts : Tags} (left : List ℕ) → Passed ks bytes k ts left → k + most ≡ 17
    → EntriesCase ks bytes (ahead ts (entries_from ks most k left))
judge zero left p e = absurd (omega (arith, passed-few p))
judge (suc most) {ks} {bytes} {k} {ts} [] p e = rw (entries_end ks most k, append-nil ts) (all_passed p)
judge (suc most) {ks} {bytes} {k} {ts} (b ∷ l) p e =
    go (entry_of ks k (b ∷ l)) (entry_case ks k (b ∷ l)) (λ w. judge most (drop (4 + length_at (b ∷ l)) (b ∷ l)) (one_more p w) (omega arith))
  where
    more : SetOf
    more = entries_from ks most (suc k) (drop (4 + length_at (b ∷ l)) (b ∷ l))

    go : (o : EntryOf) → EntryCase ks k (b ∷ l) o → (Whole ks k (b ∷ l) → EntriesCase ks bytes (ahead (ts ++ tag_at (b ∷ l) ∷ []) more))
        → EntriesCase ks bytes (ahead ts (entries_from ks (suc most) k (b ∷ l)))
    go o (passes w) ih = rw (entries_whole most w, ahead-behind ts (tag_at (b ∷ l)) more) (ih w)
    go o (fails f) ih = rw (entries_fail most (omega arith) f) (one_fails p (omega arith) f)

pub entries_case : (ks : List TagKind) (bytes : List ℕ) → EntriesCase ks bytes (entries_from ks 17 0 bytes)
entries_case ks bytes = rw (ahead_nil (entries_from ks 17 0 bytes)) at (judge 17 {ks = ks} {bytes = bytes} bytes at_front refl)
