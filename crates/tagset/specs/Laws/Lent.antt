-- What a caller has in hand of a set that it read: its fault, or the places and kinds of its tags, lent as the first so many of three arrays.
use Rattle.std.specs.Prelude.{◌-◌, ◌≤◌, ℕ, Err, Ok, List, map, ◌≡◌, refl, length, replicate, take}
use Rattle.std.proofs.Common.{◌∙◌, ap, subst, sym, arith, length-append, length-take-le, take_at}
use Rattle.kinds.specs.Rows.{kinds_taken}
use Rattle.kinds.specs.declared.Takes.{Takes}
use Rattle.matching.specs.Kinds.{TagKind}
use Rattle.matching.specs.Tags.{Tag, Tags}
use Rattle.tagset.specs.Answer.{along, begin_of, begun, cut_at, end_of, ended, kind_of_tag, kinds_from, padded, set_read, tags_in, tags_lie}
use Rattle.tagset.specs.Grammar.{SetOf, bad_set, good_set, set_of}
use Rattle.tagset.specs.Laws.Places.{TagsOf, along-length, as_tags-words, cut_at-length, tags-of}
use Rattle.tagset.specs.declared.Places.{Places}
use Rattle.tagset.specs.declared.SetFault.{SetFault}

-- the first `count` places are where the tags lie
pub record Lent (bytes : List ℕ) (tags : Tags) (p : Places) : Type 0 where
  pub lies : tags_in bytes (take p.count p.from) (take p.count p.to) (take p.count p.kinds) ≡ tags
  pub many : length tags ≡ p.count
  pub fits_from : p.count ≤ length p.from
  pub fits_to : p.count ≤ length p.to
  pub fits_kinds : p.count ≤ length p.kinds

-- so it is with each array, whatever its numbers
module _ (f : ℕ → Tag → ℕ) (tags : Tags) where
  taken : take (length tags) (padded 16 (along f 0 tags)) ≡ along f 0 tags
  taken = take_at (along f 0 tags) (replicate (16 - length (along f 0 tags)) 0) (length tags) (along-length f 0 tags)

  fits : length tags ≤ length (padded 16 (along f 0 tags))
  fits = omega (arith, length-append (along f 0 tags) (replicate (16 - length (along f 0 tags)) 0), along-length f 0 tags)

pub lent-tags : (bytes : List ℕ) (tags : Tags) → tags_in bytes (begun 0 tags) (ended 0 tags) (kinds_from 0 tags) ≡ tags
    → Lent bytes tags (tags_lie tags)
unfolding tags_lie
lent-tags bytes tags lies = record {
  lies = rw (taken begin_of tags, taken end_of tags, taken kind_of_tag tags) lies;
  many = refl;
  fits_from = fits begin_of tags;
  fits_to = fits end_of tags;
  fits_kinds = fits kind_of_tag tags;
}

-- as many places are lent as there are tags
module _ {bytes : List ℕ} {tags : Tags} {p : Places} (l : Lent bytes tags p) where
  pub lent-from : p.count ≡ length (take p.count p.from)
  lent-from = sym (length-take-le p.count p.from l.fits_from)

  pub lent-to : p.count ≡ length (take p.count p.to)
  lent-to = sym (length-take-le p.count p.to l.fits_to)

  pub lent-kinds : p.count ≡ length (take p.count p.kinds)
  lent-kinds = sym (length-take-le p.count p.kinds l.fits_kinds)

  -- what lies at them are the words of the tags
  pub lent-words : cut_at bytes (take p.count p.from) (take p.count p.to) ≡ map (λ (t : Tag). t.word) tags
  lent-words =
      let froms = take p.count p.from in
      let tos = take p.count p.to in
      let cut : length (cut_at bytes froms tos) ≡ p.count = cut_at-length bytes froms tos (sym lent-from ∙ lent-to) ∙ sym lent-from in
      sym (as_tags-words (cut_at bytes froms tos) (take p.count p.kinds) (cut ∙ lent-kinds))
      ∙ ap (map (λ (t : Tag). t.word)) l.lies

-- ---- by the verdict

pub record GoodRead (ks : List TagKind) (bytes : List ℕ) (p : Places) : Type 0 where
  pub tags : Tags
  pub good : set_of ks bytes ≡ good_set tags
  pub known : TagsOf ks bytes tags
  pub lent : Lent bytes tags p

pub good-read : (ks : List TagKind) (bytes : List ℕ) (p : Places) → Ok p ≡ set_read (set_of ks bytes) → GoodRead ks bytes p
unfolding set_read
good-read ks bytes p is = go (set_of ks bytes) refl is
  where
    go : (s : SetOf) → set_of ks bytes ≡ s → Ok p ≡ set_read s → GoodRead ks bytes p
    go (good_set tags) e i =
        let o : TagsOf ks bytes tags = tags-of ks bytes tags e in
        let q : p ≡ tags_lie tags = cc in
        record { tags = tags; good = e; known = o; lent = subst (Lent bytes tags) (sym q) (lent-tags bytes tags o.lies) }
    go (bad_set f) e i = let z : ◌≡◌ {A = ℕ} 0 1 = cc in absurd (omega arith)

pub bad_read : (ks : List TagKind) (bytes : List ℕ) {fault : SetFault} → Err fault ≡ set_read (set_of ks bytes) → set_of ks bytes ≡ bad_set fault
unfolding set_read
bad_read ks bytes {fault} is = go (set_of ks bytes) refl is
  where
    go : (s : SetOf) → set_of ks bytes ≡ s → Err fault ≡ set_read s → set_of ks bytes ≡ bad_set fault
    go (good_set tags) e i = let z : ◌≡◌ {A = ℕ} 0 1 = cc in absurd (omega arith)
    go (bad_set f) e i = let q : f ≡ fault = cc in e ∙ ap bad_set q

-- the same of a reader that takes kinds which somebody else names otherwise
module _ {ks : List TagKind} (takes : Takes) (named : ks ≡ kinds_taken takes) (bytes : List ℕ) where
  read_so : set_read (set_of (kinds_taken takes) bytes) ≡ set_read (set_of ks bytes)
  read_so = ap (λ (l : List TagKind). set_read (set_of l bytes)) (sym named)

  pub taken-good : (p : Places) → Ok p ≡ set_read (set_of (kinds_taken takes) bytes) → GoodRead ks bytes p
  taken-good p is = good-read ks bytes p (is ∙ read_so)

  pub taken_bad : {fault : SetFault} → Err fault ≡ set_read (set_of (kinds_taken takes) bytes) → set_of ks bytes ≡ bad_set fault
  taken_bad is = bad_read ks bytes (is ∙ read_so)
