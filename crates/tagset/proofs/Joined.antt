-- A whole set, as the code joins its entries and the test of equal tags.
use Prim.Native.Nat.{◌≤◌, ℕ}
use mathlib.Core.List.{List, []}
use mathlib.Core.Path.{◌∙◌, ◌≡◌, ap, subst, sym}
use native.Mathlib.Omega.{arith}
use lib.ListN.{length, take}
use Rattle.std.specs.Prelude.{Err, Ok, Result}
use Rattle.matching.specs.Kinds.{TagKind, kinds}
use Rattle.matching.specs.Tags.{Tags}
use Rattle.kinds.specs.Laws.Rows.{rows_short}
use Rattle.tagset.specs.Answer.{set_read, tags_in, tags_lie, verdict_of}
use Rattle.tagset.specs.Grammar.{SetOf, distinct, entries_from, good_set, on_tags, set_of}
use Rattle.tagset.specs.Laws.Distinct.{DistinctCase, distinct_case, none_repeats, one_repeats}
use Rattle.tagset.specs.Laws.Entries.{EntriesCase, all_passed, entries_case, one_fails, passed-all, passed-few}
use Rattle.tagset.specs.Laws.Exact.{no_bytes_lem, passed-count, some_bytes}
use Rattle.tagset.specs.Laws.Lent.{Lent, lent-tags}
use Rattle.tagset.specs.Laws.Places.{AllSized, Read, passed-read, sized_size, size_of}
use Rattle.tagset.specs.declared.Places.{Places}
use Rattle.tagset.specs.declared.SetFault.{SetFault}
use Rattle.tagset.specs.declared.SetFault.TheVariants.{Empty, Repeat}

-- the tags where every entry passed
pub record Lain (ks : List TagKind) (bytes : List ℕ) (p : Places) : Type 0 where
  pub tags : Tags
  pub reads : entries_from ks 17 0 bytes ≡ good_set tags
  pub lent : Lent bytes tags p
  pub sized : AllSized ks tags
  pub size : size_of tags ≡ length bytes
  pub few : length tags ≤ 16

pub lain : (ks : List TagKind) (bytes : List ℕ) (p : Places) → Ok p ≡ set_read (entries_from ks 17 0 bytes) → Lain ks bytes p
unfolding set_read
lain ks bytes p is = go (entries_from ks 17 0 bytes) (entries_case ks bytes) is
  where
    go : (s : SetOf) → EntriesCase ks bytes s → Ok p ≡ set_read s → Lain ks bytes p
    go s (all_passed {k} {ts} a) e =
        let r : Read ks bytes ts [] = passed-read a in
        let q : p ≡ tags_lie ts = cc in
        record {
          tags = ts;
          reads = passed-all a;
          lent = subst (Lent bytes ts) (sym q) (lent-tags bytes ts r.lies);
          sized = r.sized;
          size = omega (arith, r.size);
          few = omega (arith, passed-few a, passed-count a);
        }
    go s (one_fails a h f) e = let z : ◌≡◌ {A = ℕ} 0 1 = cc in absurd (omega arith)

pub joined-empty : (ks : List TagKind) (bytes : List ℕ) → length bytes ≡ 0 → Err Empty ≡ set_read (set_of ks bytes)
unfolding set_read
joined-empty ks bytes h = ap set_read (sym (no_bytes_lem ks bytes h))

module _ (ks : List TagKind) (bytes : List ℕ) (some : length bytes ≡ 0 → ⊥) where
  whole : set_of ks bytes ≡ on_tags (entries_from ks 17 0 bytes) (distinct [] 0)
  whole = some_bytes ks bytes (omega (arith, some))

  pub joined-fault : {f : SetFault} → Err f ≡ set_read (entries_from ks 17 0 bytes) → Err f ≡ set_read (set_of ks bytes)
  unfolding set_read
  joined-fault {f} bad = go (entries_from ks 17 0 bytes) (entries_case ks bytes) bad whole
    where
      go : (s : SetOf) → EntriesCase ks bytes s → Err f ≡ set_read s → set_of ks bytes ≡ on_tags s (distinct [] 0) → Err f ≡ set_read (set_of ks bytes)
      go s (all_passed a) e w = let z : ◌≡◌ {A = ℕ} 0 1 = cc in absurd (omega arith)
      go s (one_fails a h f) e w = rw w e

  -- the test of equal tags, over the places of entries that all passed
  module _ (p : Places) (good : Ok p ≡ set_read (entries_from ks 17 0 bytes)) (v : Result (Unit {0}) SetFault)
      (test : v ≡ verdict_of (distinct [] 0 (tags_in bytes (take p.count p.from) (take p.count p.to) (take p.count p.kinds)))) where
    l : Lain ks bytes p
    l = lain ks bytes p good

    test_tags : v ≡ verdict_of (distinct [] 0 l.tags)
    test_tags = test ∙ ap (λ (tags : Tags). verdict_of (distinct [] 0 tags)) l.lent.lies

    set-tags : set_of ks bytes ≡ distinct [] 0 l.tags
    set-tags = whole ∙ ap (λ (s : SetOf). on_tags s (distinct [] 0)) l.reads

    pub joined-good : v ≡ Ok tt → Ok p ≡ set_read (set_of ks bytes)
    joined-good e = go (distinct [] 0 l.tags) (distinct_case l.tags) set-tags test_tags
      where
        go : (s : SetOf) → DistinctCase l.tags s → set_of ks bytes ≡ s → v ≡ verdict_of s → Ok p ≡ set_read (set_of ks bytes)
        go s (none_repeats n) es ev = good ∙ ap set_read (l.reads ∙ sym es)
        go s (one_repeats f) es ev = let z : ◌≡◌ {A = ℕ} 0 1 = cc in absurd (omega arith)

    pub joined-repeat : {f : SetFault} → v ≡ Err f → Err f ≡ set_read (set_of ks bytes)
    unfolding set_read
    joined-repeat {f} e = go (distinct [] 0 l.tags) (distinct_case l.tags) set-tags test_tags
      where
        go : (s : SetOf) → DistinctCase l.tags s → set_of ks bytes ≡ s → v ≡ verdict_of s → Err f ≡ set_read (set_of ks bytes)
        go s (none_repeats n) es ev = let z : ◌≡◌ {A = ℕ} 0 1 = cc in absurd (omega arith)
        go s (one_repeats {k} g) es ev = let q : f ≡ Repeat k = cc in rw (es, q)

-- the entries that passed are short, so the set is
pub lain_short : (rows : ℕ) (bytes : List ℕ) (p : Places) → Lain (take rows kinds) bytes p → length bytes ≤ 576
lain_short rows bytes p l = omega (arith, sized_size (take rows kinds) (rows_short rows) l.tags l.sized, l.size, l.few)
