-- A set is refused, and accepted, exactly when the rules say so.
use Rattle.std.specs.Prelude.{◌<◌, ℕ, List, [], ◌∷◌, ◌↔◌, ◌≡◌, refl, length}
use Rattle.std.proofs.Common.{subst, sym, arith, length-append}
use Rattle.std.proofs.Math.Decide.{ℕ_discrete}
use Rattle.matching.specs.Kinds.{TagKind}
use Rattle.matching.specs.Tags.{Tags}
use Rattle.tagset.specs.Answer.{fault_number, fault_values}
use Rattle.tagset.specs.Grammar.{SetOf, bad_set, distinct, entries_from, good_set, on_tags, set_of, tag_at}
use Rattle.tagset.specs.Laws.Distinct.{DistinctCase, distinct_case, distinct-first, distinct_none, none_repeats, one_repeats}
use Rattle.tagset.specs.Laws.Entries.{EntriesCase, all_passed, entries_case, one_fails, passed-all, passed-fails}
use Rattle.tagset.specs.Refusals.{Accepted, Fails, Passed, Refused, RefusedAs, at_front, cut_as, empty_as, entry_fails, fewer_than_four, kind_as, length_as}
use Rattle.tagset.specs.Refusals.{many_as, no_bytes, no_length, one_more, other_kind, repeat_as, seventeenth, short_payload, tag_repeats}
use Rattle.tagset.specs.declared.SetFault.{SetFault}
use Rattle.tagset.specs.declared.SetFault.TheVariants.{Cut, Empty, Kind, Length, Many, Repeat}

-- ---- what the rules say, the definition does

pub some_bytes : (ks : List TagKind) (bytes : List ℕ) → 0 < length bytes → set_of ks bytes ≡ on_tags (entries_from ks 17 0 bytes) (distinct [] 0)
unfolding set_of
some_bytes ks [] h = absurd (omega arith)
some_bytes ks (b ∷ bytes) h = refl

left-some : {ks : List TagKind} {bytes : List ℕ} {k : ℕ} {ts : Tags} {left : List ℕ} → Passed ks bytes k ts left → 0 < length left → 0 < length bytes
left-some at_front h = h
left-some (one_more {k} {tags = ts} {left} p w) h = left-some p (omega (arith, w.four))

pub no_bytes_lem : (ks : List TagKind) (bytes : List ℕ) → length bytes ≡ 0 → set_of ks bytes ≡ bad_set Empty
unfolding set_of
no_bytes_lem ks [] h = refl
no_bytes_lem ks (b ∷ bytes) h = absurd (omega arith)

refused_so : (ks : List TagKind) (bytes : List ℕ) (fault : SetFault) → Refused ks bytes fault → set_of ks bytes ≡ bad_set fault
refused_so ks bytes fault (no_bytes h) = no_bytes_lem ks bytes h
refused_so ks bytes fault (entry_fails p h f) = rw (some_bytes ks bytes (left-some p h), passed-fails p h f)
refused_so ks bytes fault (tag_repeats {n} {tags = ts} {k} h p r) = rw (some_bytes ks bytes h, passed-all p, distinct-first ts k r)

accepted_so : (ks : List TagKind) (bytes : List ℕ) (ts : Tags) → Accepted ks bytes ts → set_of ks bytes ≡ good_set ts
accepted_so ks bytes ts a = rw (some_bytes ks bytes a.some, passed-all a.passed, distinct_none ts a.distinct)

-- ---- and what the definition does, the rules say

pub data SetCase (ks : List TagKind) (bytes : List ℕ) : SetOf → Type 0 where
  is_good : {ts : Tags} → Accepted ks bytes ts → SetCase ks bytes (good_set ts)
  is_bad : {fault : SetFault} → Refused ks bytes fault → SetCase ks bytes (bad_set fault)

pub passed-count : {ks : List TagKind} {bytes : List ℕ} {k : ℕ} {ts : Tags} {left : List ℕ} → Passed ks bytes k ts left → length ts ≡ k
passed-count at_front = refl
passed-count (one_more {k} {tags = ts} {left} p w) = omega (arith, passed-count p, length-append ts (tag_at left ∷ []))

on_entries : (ks : List TagKind) (bytes : List ℕ) → 0 < length bytes → (s : SetOf) → EntriesCase ks bytes s → SetCase ks bytes (on_tags s (distinct [] 0))
on_entries ks bytes h s (one_fails p l f) = is_bad (entry_fails p l f)
on_entries ks bytes h s (all_passed {k} {ts} p) = go (distinct [] 0 ts) (distinct_case ts)
  where
    go : (d : SetOf) → DistinctCase ts d → SetCase ks bytes d
    go d (none_repeats n) = is_good (record { some = h; passed = subst (λ (i : ℕ). Passed ks bytes i ts []) (sym (passed-count p)) p; distinct = n })
    go d (one_repeats f) = is_bad (tag_repeats h p f)

pub set_case : (ks : List TagKind) (bytes : List ℕ) → SetCase ks bytes (set_of ks bytes)
set_case ks bytes = go (ℕ_discrete (length bytes) 0)
  where
    go : Dec (length bytes ≡ 0) → SetCase ks bytes (set_of ks bytes)
    go (yes z) = rw (no_bytes_lem ks bytes z) (is_bad (no_bytes z))
    go (no n) =
        let h : 0 < length bytes = omega arith in
        rw (some_bytes ks bytes h) (on_entries ks bytes h (entries_from ks 17 0 bytes) (entries_case ks bytes))

refused_only : (ks : List TagKind) (bytes : List ℕ) (fault : SetFault) → (s : SetOf) → SetCase ks bytes s → s ≡ bad_set fault → Refused ks bytes fault
refused_only ks bytes fault s (is_good a) e = let z : ◌≡◌ {A = ℕ} 0 1 = cc in absurd (omega arith)
refused_only ks bytes fault s (is_bad r) e = subst (Refused ks bytes) (cc) r

accepted_only : (ks : List TagKind) (bytes : List ℕ) (ts : Tags) → (s : SetOf) → SetCase ks bytes s → s ≡ good_set ts → Accepted ks bytes ts
accepted_only ks bytes ts s (is_good a) e = subst (Accepted ks bytes) (cc) a
accepted_only ks bytes ts s (is_bad r) e = let z : ◌≡◌ {A = ℕ} 0 1 = cc in absurd (omega arith)

-- EACH FAULT IS GIVEN EXACTLY IF ITS CONDITION HOLDS AND NONE EARLIER DOES
pub refused_iff : (ks : List TagKind) (bytes : List ℕ) (fault : SetFault) → (set_of ks bytes ≡ bad_set fault) ↔ Refused ks bytes fault
refused_iff ks bytes fault = (refused_only ks bytes fault (set_of ks bytes) (set_case ks bytes), refused_so ks bytes fault)

-- a set is accepted with these tags exactly if none does
-- a good set has one list of tags
pub same_good : {x y : Tags} → good_set x ≡ good_set y → x ≡ y
same_good e = cc

pub accepted_iff : (ks : List TagKind) (bytes : List ℕ) (ts : Tags) → (set_of ks bytes ≡ good_set ts) ↔ Accepted ks bytes ts
accepted_iff ks bytes ts = (accepted_only ks bytes ts (set_of ks bytes) (set_case ks bytes), accepted_so ks bytes ts)

-- ---- and with its number

-- MANY is only ever of entry 16
many_sixteenth : {ks : List TagKind} {bytes : List ℕ} {fault : SetFault} → Refused ks bytes fault → (k : ℕ) → fault ≡ Many k → k ≡ 16
many_sixteenth (no_bytes h) k e = let z : ◌≡◌ {A = ℕ} 0 1 = cc in absurd (omega arith)
many_sixteenth (tag_repeats h p r) k e = let z : ◌≡◌ {A = ℕ} 0 1 = cc in absurd (omega arith)
many_sixteenth (entry_fails p h f) k e = go f e
  where
    go : {ks : List TagKind} {i : ℕ} {left : List ℕ} {fault : SetFault} → Fails ks i left fault → fault ≡ Many k → k ≡ 16
    go (fewer_than_four h) e = let z : ◌≡◌ {A = ℕ} 0 1 = cc in absurd (omega arith)
    go (seventeenth h q) e = cc
    go (other_kind h n d) e = let z : ◌≡◌ {A = ℕ} 0 1 = cc in absurd (omega arith)
    go (no_length h n d w) e = let z : ◌≡◌ {A = ℕ} 0 1 = cc in absurd (omega arith)
    go (short_payload h n d s l r) e = let z : ◌≡◌ {A = ℕ} 0 1 = cc in absurd (omega arith)

-- a fault, under its number and with its values, is a row of the table
pub numbered_as : (ks : List TagKind) (bytes : List ℕ) (fault : SetFault) → Refused ks bytes fault → RefusedAs ks bytes (fault_number fault) (fault_values fault)
numbered_as ks bytes (Cut k) r = cut_as r
numbered_as ks bytes (Many k) r = subst (λ (i : ℕ). Refused ks bytes (Many i) → RefusedAs ks bytes 2 (i ∷ [])) (sym (many_sixteenth r k refl)) many_as r
numbered_as ks bytes (Kind k) r = kind_as r
numbered_as ks bytes (Length k) r = length_as r
numbered_as ks bytes Empty r = empty_as r
numbered_as ks bytes (Repeat k) r = repeat_as r

-- a fault that a set is refused for, with this number and these values
pub record FaultWith (ks : List TagKind) (bytes : List ℕ) (number : ℕ) (values : List ℕ) : Type 0 where
  pub fault : SetFault
  pub refused : set_of ks bytes ≡ bad_set fault
  pub number_is : fault_number fault ≡ number
  pub values_are : fault_values fault ≡ values

pub as_fault : (ks : List TagKind) (bytes : List ℕ) (number : ℕ) (values : List ℕ) → RefusedAs ks bytes number values → FaultWith ks bytes number values
as_fault ks bytes number values (cut_as {entry} r) = record { fault = Cut entry; refused = refused_so ks bytes _ r; number_is = refl; values_are = refl }
as_fault ks bytes number values (many_as r) = record { fault = Many 16; refused = refused_so ks bytes _ r; number_is = refl; values_are = refl }
as_fault ks bytes number values (kind_as {entry} r) = record { fault = Kind entry; refused = refused_so ks bytes _ r; number_is = refl; values_are = refl }
as_fault ks bytes number values (length_as {entry} r) = record { fault = Length entry; refused = refused_so ks bytes _ r; number_is = refl; values_are = refl }
as_fault ks bytes number values (empty_as r) = record { fault = Empty; refused = refused_so ks bytes _ r; number_is = refl; values_are = refl }
as_fault ks bytes number values (repeat_as {entry} r) = record { fault = Repeat entry; refused = refused_so ks bytes _ r; number_is = refl; values_are = refl }
