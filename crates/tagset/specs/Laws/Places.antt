-- The tags of a good set: how many, how long, of which kinds, and where they lie.
use Rattle.std.specs.Prelude.{◌*◌, ◌+◌, ◌-◌, ◌<◌, ◌≤◌, suc, zero, ℕ, false, true, List, [], ◌++◌, ◌∷◌, map, ◌⊎◌, ◌≡◌, refl, eqb, drop, get_or, length, take}
use Rattle.std.proofs.lemmas.Bool.{false≢true}
use Rattle.std.proofs.Common.{inl, inr, ◌∙◌, ap, ap₂, sym, arith, length-drop, drop-drop}
use Rattle.matching.specs.Kinds.{TagKind, exact_kind, is_among, kind_of}
use Rattle.matching.specs.Laws.Bools.{or_cases}
use Rattle.matching.specs.Laws.Layouts.{takes_part}
use Rattle.matching.specs.Laws.Slices.{map-drop, map-take}
use Rattle.matching.specs.Laws.Words.{below-drop, below-take, eqb_eq}
use Rattle.matching.specs.Limits.{longest_tag, most_tags}
use Rattle.matching.specs.Parts.{has_part, kinds_for, whole_layout}
use Rattle.matching.specs.Tags.{AllLawful, LawfulTags, Tag, Tags, exact, no_tag}
use Rattle.matching.specs.Words.{Below, Word}
use Rattle.tagset.specs.Answer.{along, as_tags, begin_of, begun, cut_at, end_of, ended, kind_of_tag, kinds_from, tags_in}
use Rattle.tagset.specs.Grammar.{good_set, length_at, set_of, tag_at}
use Rattle.tagset.specs.Laws.Entries.{passed-few, payload_length}
use Rattle.tagset.specs.Laws.Exact.{accepted_iff}
use Rattle.tagset.specs.Refusals.{Accepted, NoRepeats, Passed, Whole, at_front, one_more}

-- the bytes of the entries of tags
unfoldable pub size_of : Tags → ℕ
size_of [] = 0
size_of (t ∷ tags) = 4 + length t.word + size_of tags

pub size_snoc : (tags : Tags) (t : Tag) → size_of (tags ++ t ∷ []) ≡ size_of tags + (4 + length t.word)
unfolding size_of
size_snoc [] t = omega arith
size_snoc (u ∷ tags) t = omega (arith, size_snoc tags t)

-- ---- lists of places

pub along-length : (f : ℕ → Tag → ℕ) (at : ℕ) (tags : Tags) → length (along f at tags) ≡ length tags
unfolding along
along-length f at [] = refl
along-length f at (t ∷ tags) = ap suc (along-length f (at + 4 + length t.word) tags)

-- one more tag, whose entry begins at n
pub along_snoc : (f : ℕ → Tag → ℕ) (at : ℕ) (tags : Tags) (t : Tag) (n : ℕ) → n ≡ at + size_of tags
    → along f at (tags ++ t ∷ []) ≡ along f at tags ++ f n t ∷ []
unfolding along size_of
along_snoc f at [] t n e = let z : at ≡ n = omega arith in rw z
along_snoc f at (u ∷ tags) t n e = ap (λ (l : List ℕ). f at u ∷ l) (along_snoc f (at + 4 + length u.word) tags t n (omega arith))

pub cut_at_snoc : (bytes froms tos : List ℕ) (a e : ℕ) → length froms ≡ length tos
    → cut_at bytes (froms ++ a ∷ []) (tos ++ e ∷ []) ≡ cut_at bytes froms tos ++ take (e - a) (drop a bytes) ∷ []
unfolding cut_at
cut_at_snoc bytes [] [] a e h = refl
cut_at_snoc bytes [] (x ∷ tos) a e h = absurd (omega arith)
cut_at_snoc bytes (x ∷ froms) [] a e h = absurd (omega arith)
cut_at_snoc bytes (x ∷ froms) (y ∷ tos) a e h =
    ap (λ (l : List Word). take (y - x) (drop x bytes) ∷ l) (cut_at_snoc bytes froms tos a e (omega arith))

-- each that is begun and ended is a word
pub cut_at-long : (bytes froms tos : List ℕ) → length froms ≤ length tos → length (cut_at bytes froms tos) ≡ length froms
unfolding cut_at
cut_at-long bytes [] tos h = refl
cut_at-long bytes (a ∷ froms) [] h = absurd (omega arith)
cut_at-long bytes (a ∷ froms) (e ∷ tos) h = ap suc (cut_at-long bytes froms tos (omega arith))

pub cut_at-length : (bytes froms tos : List ℕ) → length froms ≡ length tos → length (cut_at bytes froms tos) ≡ length froms
cut_at-length bytes froms tos h = cut_at-long bytes froms tos (omega (arith, h))

-- a tag, by its number
pub cut_at-at : (bytes froms tos : List ℕ) (t : ℕ) → t < length froms → t < length tos
    → get_or (cut_at bytes froms tos) t [] ≡ take (get_or tos t 0 - get_or froms t 0) (drop (get_or froms t 0) bytes)
unfolding cut_at
cut_at-at bytes [] tos t h k = absurd (omega arith)
cut_at-at bytes (a ∷ froms) [] t h k = absurd (omega arith)
cut_at-at bytes (a ∷ froms) (e ∷ tos) zero h k = refl
cut_at-at bytes (a ∷ froms) (e ∷ tos) (suc t) h k = cut_at-at bytes froms tos t (omega arith) (omega arith)

pub cut_at-none : (bytes froms tos : List ℕ) (t : ℕ) → (length froms ≤ t) ⊎ (length tos ≤ t) → get_or (cut_at bytes froms tos) t [] ≡ []
unfolding cut_at
cut_at-none bytes [] tos t h = refl
cut_at-none bytes (a ∷ froms) [] t h = refl
cut_at-none bytes (a ∷ froms) (e ∷ tos) zero (inl h) = absurd (omega arith)
cut_at-none bytes (a ∷ froms) (e ∷ tos) zero (inr h) = absurd (omega arith)
cut_at-none bytes (a ∷ froms) (e ∷ tos) (suc t) (inl h) = cut_at-none bytes froms tos t (inl (omega arith))
cut_at-none bytes (a ∷ froms) (e ∷ tos) (suc t) (inr h) = cut_at-none bytes froms tos t (inr (omega arith))

-- bytes made others, and cut: cut, and made others
pub cut-map : (f : ℕ → ℕ) (bytes froms tos : List ℕ) → cut_at (map f bytes) froms tos ≡ map (map f) (cut_at bytes froms tos)
unfolding cut_at
cut-map f bytes [] tos = refl
cut-map f bytes (a ∷ froms) [] = refl
cut-map f bytes (a ∷ froms) (e ∷ tos) =
    ap₂ {C = List Word} (λ (t : Word) (ts : List Word). t ∷ ts) (ap (take (e - a)) (map-drop f a bytes) ∙ map-take f (e - a) (drop a bytes))
    (cut-map f bytes froms tos)

-- ---- words and their kinds

-- tag i
pub as_tags-at : (ws : List Word) (ks : List ℕ) (i : ℕ) → length ws ≡ length ks → i < length ws
    → get_or (as_tags ws ks) i no_tag ≡ record { kind = get_or ks i 0; word = get_or ws i [] }
unfolding as_tags
as_tags-at [] ks i e h = absurd (omega arith)
as_tags-at (v ∷ ws) [] i e h = absurd (omega arith)
as_tags-at (v ∷ ws) (x ∷ ks) zero e h = refl
as_tags-at (v ∷ ws) (x ∷ ks) (suc i) e h = as_tags-at ws ks i (omega arith) (omega arith)

pub as_tags_snoc : (ws : List Word) (ks : List ℕ) (w : Word) (k : ℕ) → length ws ≡ length ks
    → as_tags (ws ++ w ∷ []) (ks ++ k ∷ []) ≡ as_tags ws ks ++ record { kind = k; word = w } ∷ []
unfolding as_tags
as_tags_snoc [] [] w k e = refl
as_tags_snoc [] (x ∷ ks) w k e = absurd (omega arith)
as_tags_snoc (v ∷ ws) [] w k e = absurd (omega arith)
as_tags_snoc (v ∷ ws) (x ∷ ks) w k e = ap (λ (l : Tags). record { kind = x; word = v } ∷ l) (as_tags_snoc ws ks w k (omega arith))

pub as_tags-length : (ws : List Word) (ks : List ℕ) → length ws ≡ length ks → length (as_tags ws ks) ≡ length ws
unfolding as_tags
as_tags-length [] ks e = refl
as_tags-length (v ∷ ws) [] e = absurd (omega arith)
as_tags-length (v ∷ ws) (x ∷ ks) e = ap suc (as_tags-length ws ks (omega arith))

-- the words, and the kinds, of such tags
pub as_tags-words : (ws : List Word) (ks : List ℕ) → length ws ≡ length ks → map (λ (t : Tag). t.word) (as_tags ws ks) ≡ ws
unfolding as_tags
as_tags-words [] ks e = refl
as_tags-words (v ∷ ws) [] e = absurd (omega arith)
as_tags-words (v ∷ ws) (x ∷ ks) e = ap {B = List Word} (λ (l : List Word). v ∷ l) (as_tags-words ws ks (omega arith))

pub as_tags-kinds : (ws : List Word) (ks : List ℕ) → length ws ≡ length ks → map (λ (t : Tag). t.kind) (as_tags ws ks) ≡ ks
unfolding as_tags
as_tags-kinds [] [] e = refl
as_tags-kinds [] (x ∷ ks) e = absurd (omega arith)
as_tags-kinds (v ∷ ws) [] e = absurd (omega arith)
as_tags-kinds (v ∷ ws) (x ∷ ks) e = ap {B = List ℕ} (λ (l : List ℕ). x ∷ l) (as_tags-kinds ws ks (omega arith))

-- ---- the tags of the entries that passed

-- a tag is of a kind that is taken, and has a length of that kind
pub record Sized (ks : List TagKind) (t : Tag) : Type 0 where
  pub known : is_among t.kind ks ≡ true
  pub some : (kind_of t.kind ks).shortest ≤ length t.word
  pub short : length t.word ≤ (kind_of t.kind ks).longest

abbrev pub AllSized : List TagKind → Tags → Type 0
AllSized ks [] = Unit {0}
AllSized ks (t ∷ tags) = Sized ks t × AllSized ks tags

-- no kind that is taken has longer tags than the longest
abbrev pub ShortKinds : List TagKind → Type 0
ShortKinds ks = (number : ℕ) → (kind_of number ks).longest ≤ longest_tag

sized_snoc : (ks : List TagKind) (tags : Tags) (t : Tag) → AllSized ks tags → Sized ks t → AllSized ks (tags ++ t ∷ [])
sized_snoc ks [] t a h = (h, tt)
sized_snoc ks (u ∷ tags) t a h = (a.0, sized_snoc ks tags t a.1 h)

pub sized_size : (ks : List TagKind) → ShortKinds ks → (tags : Tags) → AllSized ks tags → size_of tags ≤ 36 * length tags
unfolding size_of
sized_size ks h [] a = omega arith
sized_size ks h (t ∷ tags) a = omega (arith, sized_size ks h tags a.1, a.0.short, h t.kind)

-- each tag's bytes are bytes
abbrev AllBytes : Tags → Type 0
AllBytes [] = Unit {0}
AllBytes (t ∷ tags) = Below 256 t.word × AllBytes tags

all-bytes_snoc : (tags : Tags) (t : Tag) → AllBytes tags → Below 256 t.word → AllBytes (tags ++ t ∷ [])
all-bytes_snoc [] t a h = (h, tt)
all-bytes_snoc (u ∷ tags) t a h = (a.0, all-bytes_snoc tags t a.1 h)

-- what the entries that passed say of their tags
pub record Read (ks : List TagKind) (bytes : List ℕ) (tags : Tags) (left : List ℕ) : Type 0 where
  pub behind : left ≡ drop (size_of tags) bytes
  pub size : size_of tags + length left ≡ length bytes
  pub sized : AllSized ks tags
  pub lies : tags_in bytes (begun 0 tags) (ended 0 tags) (kinds_from 0 tags) ≡ tags

passed-more : {ks : List TagKind} {bytes : List ℕ} {k : ℕ} {tags : Tags} {left : List ℕ} → Read ks bytes tags left → Whole ks k left
    → Read ks bytes (tags ++ tag_at left ∷ []) (drop (4 + length_at left) left)
passed-more {ks} {bytes} {k} {tags} {left} r w =
    let n : length (tag_at left).word ≡ length_at left = payload_length w in
    let z : size_of (tags ++ tag_at left ∷ []) ≡ size_of tags + (4 + length_at left) = size_snoc tags (tag_at left) ∙ ap (λ (i : ℕ). size_of tags + (4 + i)) n in
    let even : length (begun 0 tags) ≡ length (ended 0 tags) = along-length begin_of 0 tags ∙ sym (along-length end_of 0 tags) in
    let kinded : length (cut_at bytes (begun 0 tags) (ended 0 tags)) ≡ length (kinds_from 0 tags) =
    cut_at-length bytes (begun 0 tags) (ended 0 tags) even ∙ along-length begin_of 0 tags ∙ sym (along-length kind_of_tag 0 tags) in
    record {
      behind =
          ap (drop (4 + length_at left)) r.behind ∙ drop-drop (4 + length_at left) (size_of tags) bytes ∙ ap (λ (i : ℕ). drop i bytes) (sym z);
      size = omega (arith, z, r.size, w.rest, length-drop (4 + length_at left) left);
      sized = sized_snoc ks tags (tag_at left) r.sized (record { known = w.kind; some = omega (arith, n, w.some); short = omega (arith, n, w.short) });
      lies =
          rw (
            along_snoc begin_of 0 tags (tag_at left) (size_of tags) (omega arith),
            along_snoc end_of 0 tags (tag_at left) (size_of tags) (omega arith),
            along_snoc kind_of_tag 0 tags (tag_at left) (size_of tags) (omega arith),
          )
          (ap (λ (ws : List Word). as_tags ws (kinds_from 0 tags ++ (tag_at left).kind ∷ []))
          (cut_at_snoc bytes (begun 0 tags) (ended 0 tags) (size_of tags + 4) (size_of tags + 4 + length (tag_at left).word) even
          ∙ ap (λ (t : Word). cut_at bytes (begun 0 tags) (ended 0 tags) ++ t ∷ []) cut)
          ∙ as_tags_snoc (cut_at bytes (begun 0 tags) (ended 0 tags)) (kinds_from 0 tags) (tag_at left).word (tag_at left).kind kinded
          ∙ ap (λ (l : Tags). l ++ tag_at left ∷ []) r.lies);
    }
  where
    cut : take (size_of tags + 4 + length (tag_at left).word - (size_of tags + 4)) (drop (size_of tags + 4) bytes) ≡ (tag_at left).word
    cut =
        let n : size_of tags + 4 + length (tag_at left).word - (size_of tags + 4) ≡ length_at left = omega (arith, payload_length w) in
        let e : drop (size_of tags + 4) bytes ≡ drop 4 left = sym (drop-drop 4 (size_of tags) bytes) ∙ ap (drop 4) (sym r.behind) in
        rw (n, e)

pub passed-read : {ks : List TagKind} {bytes : List ℕ} {k : ℕ} {tags : Tags} {left : List ℕ} → Passed ks bytes k tags left → Read ks bytes tags left
unfolding size_of cut_at along as_tags
passed-read at_front = record { behind = refl; size = omega arith; sized = tt; lies = refl }
passed-read (one_more p w) = passed-more (passed-read p) w

passed-bytes : {ks : List TagKind} {bytes : List ℕ} {k : ℕ} {tags : Tags} {left : List ℕ} → Below 256 bytes → Passed ks bytes k tags left
    → AllBytes tags × Below 256 left
passed-bytes b at_front = (tt, b)
passed-bytes b (one_more {k} {tags} {left} p w) =
    let h = passed-bytes b p in (
      all-bytes_snoc tags (tag_at left) h.0 (below-take 256 (length_at left) (drop 4 left) (below-drop 256 4 left h.1)),
      below-drop 256 (4 + length_at left) left h.1,
    )

-- ---- a good set

-- what is known of the tags of a good set
pub record TagsOf (ks : List TagKind) (bytes : List ℕ) (tags : Tags) : Type 0 where
  -- 1 to 16 tags, each of a kind that is taken and of a length of that kind, no two of one kind equal
  pub some : 0 < length tags
  pub few : length tags ≤ most_tags
  pub sized : AllSized ks tags
  pub distinct : NoRepeats tags
  -- the set has at most 16 * (4 + 32) bytes
  pub short : ShortKinds ks → length bytes ≤ 576
  pub lawful : ShortKinds ks → Below 256 bytes → LawfulTags tags
  -- the tags lie where the reading says
  pub lies : tags_in bytes (begun 0 tags) (ended 0 tags) (kinds_from 0 tags) ≡ tags

some-tags : (tags : Tags) (n : ℕ) → size_of tags + 0 ≡ n → 0 < n → 0 < length tags
unfolding size_of
some-tags [] n e h = omega arith
some-tags (t ∷ tags) n e h = omega arith

all-lawful : (ks : List TagKind) → ShortKinds ks → (tags : Tags) → AllSized ks tags → AllBytes tags → AllLawful tags
all-lawful ks h [] a b = tt
all-lawful ks h (t ∷ tags) a b = (record { short = omega (arith, a.0.short, h t.kind); bytes = b.0 }, all-lawful ks h tags a.1 b.1)

pub tags-accepted : {ks : List TagKind} {bytes : List ℕ} {tags : Tags} → Accepted ks bytes tags → TagsOf ks bytes tags
unfolding LawfulTags
tags-accepted {ks} {bytes} {tags} a =
    let r : Read ks bytes tags [] = passed-read a.passed in
    let few : length tags ≤ most_tags = passed-few a.passed in
    record {
      some = some-tags tags (length bytes) r.size a.some;
      few = few;
      sized = r.sized;
      distinct = a.distinct;
      short = λ h. omega (arith, r.size, sized_size ks h tags r.sized);
      lawful = λ h b. (few, all-lawful ks h tags r.sized (passed-bytes b a.passed).0);
      lies = r.lies;
    }

pub tags-of : (ks : List TagKind) (bytes : List ℕ) (tags : Tags) → set_of ks bytes ≡ good_set tags → TagsOf ks bytes tags
tags-of ks bytes tags good = tags-accepted ((accepted_iff ks bytes tags).0 good)

-- the whole-byte layout takes none but exact tags, so they are the exact tags of their words
pub whole-exact : (tags : Tags) → AllSized (kinds_for whole_layout) tags → tags ≡ exact (map (λ (t : Tag). t.word) tags)
unfolding has_part
whole-exact [] a = refl
whole-exact (t ∷ tags) a =
    ap₂ {C = Tags} (λ (k : ℕ) (l : Tags). record { kind = k; word = t.word } ∷ l)
    (sym (only (or_cases (eqb exact_kind t.kind) false (takes_part whole_layout t.kind a.0.known)))) (whole-exact tags a.1)
  where
    only : (eqb exact_kind t.kind ≡ true) ⊎ (false ≡ true) → exact_kind ≡ t.kind
    only (inl e) = eqb_eq exact_kind t.kind e
    only (inr e) = absurd (false≢true e)

-- a run of numbers that are each below m, as a lent slice of bytes is for 256
pub below_all : (m : ℕ) (l : List ℕ) → ((i : ℕ) → i < length l → get_or l i 0 < m) → Below m l
below_all m [] h = tt
below_all m (x ∷ l) h = (h 0 (omega arith), below_all m l (λ i k. h (suc i) (omega arith)))
