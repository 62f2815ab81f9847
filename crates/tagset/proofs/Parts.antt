-- Parts of a set, and words compared letter by letter.
use Prim.Native.Nat.{◌+◌, ◌-◌, ◌<◌, ◌≤◌, min, suc, zero, ℕ}
use mathlib.Core.Bool.{Bool, ◌&&◌, ◌||◌, false, true}
use mathlib.Core.List.{List, [], ◌∷◌, map}
use mathlib.Core.Path.{◌∙◌, ◌≡◌, ap, refl, sym}
use native.Mathlib.Decide.{dec_le}
use native.Mathlib.Numerals.{add-one}
use native.Mathlib.Omega.{arith}
use lib.Dec.{eqb}
use lib.ListN.{drop, drop_of_length-le, get_or, length, length-drop, length-take, take}
use lib.Pointwise.{pointwise}
use lib.Seq.{drop-cons, get_or-take, length-take-le, take_all, take-nil}
use borrow.Author.Tests.{eq-eqb, ne_eqb}
use Rattle.matching.specs.Laws.Bools.{is_false, or_l}
use Rattle.matching.specs.Laws.Words.{same_eq}
use Rattle.matching.specs.Kinds.{as_read}
use Rattle.matching.specs.Tags.{Tag, Tags, no_tag, word_as}
use Rattle.matching.specs.Words.{Word, same}
use Rattle.tagset.specs.Answer.{cut_at, tags_in}
use Rattle.tagset.specs.Grammar.{among_tags, same_tag}
use Rattle.tagset.specs.Laws.Places.{as_tags-at, as_tags-length, cut-map, cut_at-length}
use Rattle.tagset.specs.Lying.{Cut}

-- ---- same, as `==` of two slices says it

pub same_bytes : (v w : Word) → pointwise eqb v w ≡ same v w
unfolding same
same_bytes [] [] = refl
same_bytes [] (y ∷ w) = refl
same_bytes (x ∷ v) [] = refl
same_bytes (x ∷ v) (y ∷ w) = ap (λ (b : Bool). eqb x y && b) (same_bytes v w)

-- ---- among, from tag to tag

among-step : (x t : Tag) (tags : Tags) → among_tags x (t ∷ tags) ≡ (same_tag x t || among_tags x tags)
unfolding among_tags
among-step x t tags = refl

module _ (x : Tag) (tags : Tags) (t i : ℕ) (lt : t < length tags) (left : i < t) where
  front : drop i (take t tags) ≡ get_or tags i no_tag ∷ drop (suc i) (take t tags)
  front =
      drop-cons (take t tags) i no_tag (omega (arith, length-take-le t tags (omega arith)))
      ∙ ap (λ (u : Tag). u ∷ drop (suc i) (take t tags)) (get_or-take t tags i no_tag left)

  pub among-here : same_tag x (get_or tags i no_tag) ≡ true → true ≡ among_tags x (drop i (take t tags))
  among-here h =
      sym (ap (among_tags x) front ∙ among-step x (get_or tags i no_tag) (drop (suc i) (take t tags))
      ∙ or_l (same_tag x (get_or tags i no_tag)) (among_tags x (drop (suc i) (take t tags))) h)

  pub among_later : same_tag x (get_or tags i no_tag) ≡ false → among_tags x (drop i (take t tags)) ≡ among_tags x (drop (i + 1) (take t tags))
  among_later h = rw (add-one i, front, among-step x (get_or tags i no_tag) (drop (suc i) (take t tags)), h)

pub among-end : (x : Tag) (tags : Tags) (t i : ℕ) → t ≤ i → false ≡ among_tags x (drop i (take t tags))
unfolding among_tags
among-end x tags t i h = sym (rw (drop_of_length-le (take t tags) {i = i} (omega (arith, length-take t tags))))

-- ---- tags that lie at places

get_d_map : (f : Word → Word) (ws : List Word) (i : ℕ) → i < length ws → get_or (map f ws) i [] ≡ f (get_or ws i [])
get_d_map f [] i h = absurd (omega arith)
get_d_map f (w ∷ ws) zero h = refl
get_d_map f (w ∷ ws) (suc i) h = get_d_map f ws i (omega arith)

module _ (set from to kinds : List ℕ) (l : Cut set from to kinds) where
  cut-long : length (cut_at set from to) ≡ length from
  cut-long = cut_at-length set from to (sym l.ends)

  even : length (cut_at set from to) ≡ length kinds
  even = cut-long ∙ sym l.kinded

  pub tags-long : length (tags_in set from to kinds) ≡ length from
  tags-long = as_tags-length (cut_at set from to) kinds even ∙ cut-long

  module _ (i : ℕ) (h : i < length from) where
    its : get_or (tags_in set from to kinds) i no_tag ≡ record { kind = get_or kinds i 0; word = get_or (cut_at set from to) i [] }
    its = as_tags-at (cut_at set from to) kinds i even (omega (arith, cut-long))

    pub kind-at : get_or kinds i 0 ≡ (get_or (tags_in set from to kinds) i no_tag).kind
    kind-at = sym (ap (λ (t : Tag). t.kind) its)

    -- a tag's bytes as a kind reads them, cut from the set read so
    pub word_at : (kind : ℕ) → get_or (cut_at (word_as kind set) from to) i [] ≡ word_as kind (get_or (tags_in set from to kinds) i no_tag).word
    word_at kind =
        ap (λ (ws : List Word). get_or ws i []) (cut-map (as_read kind) set from to)
        ∙ get_d_map (word_as kind) (cut_at set from to) i (omega (arith, cut-long))
        ∙ ap (λ (t : Tag). word_as kind t.word) (sym its)

    -- the test of one tag: by its kind, then by its bytes
    module _ (kind : ℕ) (tag : Word) where
      abbrev u : Tag
      u = get_or (tags_in set from to kinds) i no_tag

      pub other-kind : (get_or kinds i 0 ≡ kind → ⊥) → false ≡ (eqb u.kind kind && same tag (word_as kind u.word))
      other-kind n = sym (rw (ne_eqb u.kind kind (λ e. n (kind-at ∙ e))) refl)

      pub own-kind : get_or kinds i 0 ≡ kind → (earlier : Word) → earlier ≡ get_or (cut_at (word_as kind set) from to) i []
          → (r : Bool) → r ≡ same tag earlier → r ≡ (eqb u.kind kind && same tag (word_as kind u.word))
      own-kind e earlier is r says =
          says ∙ ap (same tag) (is ∙ word_at kind)
          ∙ sym (ap (λ (b : Bool). b && same tag (word_as kind u.word)) (eq-eqb u.kind kind (sym kind-at ∙ e)))

-- ---- a tag compared with those before it

-- those before i are other tags
pub record Comparing (set from to kinds : List ℕ) (t kind : ℕ) (tag : Word) (i : ℕ) : Type 0 where
  pub cut : Cut set from to kinds
  pub within : t < length from
  pub own : kind ≡ (get_or (tags_in set from to kinds) t no_tag).kind
  pub bytes : tag ≡ word_as kind (get_or (tags_in set from to kinds) t no_tag).word
  pub few : i ≤ t
  pub left : among_tags (get_or (tags_in set from to kinds) t no_tag) (take t (tags_in set from to kinds))
      ≡ among_tags (get_or (tags_in set from to kinds) t no_tag) (drop i (take t (tags_in set from to kinds)))

module _ (set from to kinds : List ℕ) (l : Cut set from to kinds) (t : ℕ) (h : t < length (tags_in set from to kinds)) where
  pub comparing_start : (tag : Word) → tag ≡ get_or (cut_at (word_as (get_or kinds t 0) set) from to) t []
      → Comparing set from to kinds t (get_or kinds t 0) tag 0
  comparing_start tag e =
      let within : t < length from = omega (arith, h, tags-long set from to kinds l) in
      record {
        cut = l;
        within = within;
        own = kind-at set from to kinds l t within;
        bytes = e ∙ word_at set from to kinds l t within (get_or kinds t 0);
        few = omega arith;
        left = refl;
      }

module _ (set from to kinds : List ℕ) (t kind : ℕ) (tag : Word) (i : ℕ) (g : Comparing set from to kinds t kind tag i) where
  pub comparing_few : t < length (tags_in set from to kinds)
  comparing_few = omega (arith, g.within, tags-long set from to kinds g.cut)

  same-is : (r : Bool) → r ≡ (eqb (get_or (tags_in set from to kinds) i no_tag).kind kind && same tag (word_as kind (get_or (tags_in set from to kinds) i no_tag).word))
      → r ≡ same_tag (get_or (tags_in set from to kinds) t no_tag) (get_or (tags_in set from to kinds) i no_tag)
  same-is r e =
      let x = get_or (tags_in set from to kinds) t no_tag in
      let y = get_or (tags_in set from to kinds) i no_tag in
      e ∙ ap (λ (w : Word). eqb y.kind kind && same w (word_as kind y.word)) g.bytes
      ∙ ap (λ (k : ℕ). eqb y.kind k && same (word_as k x.word) (word_as k y.word)) g.own

  module _ (more : i < t) (r : Bool)
      (says : r ≡ (eqb (get_or (tags_in set from to kinds) i no_tag).kind kind && same tag (word_as kind (get_or (tags_in set from to kinds) i no_tag).word))) where
    pub comparing_hit : r ≡ true → true ≡ among_tags (get_or (tags_in set from to kinds) t no_tag) (take t (tags_in set from to kinds))
    comparing_hit e =
        among-here (get_or (tags_in set from to kinds) t no_tag) (tags_in set from to kinds) t i comparing_few more (sym (same-is r says) ∙ e) ∙ sym g.left

    pub comparing_on : r ≡ false → Comparing set from to kinds t kind tag (i + 1)
    comparing_on e = record {
      cut = g.cut;
      within = g.within;
      own = g.own;
      bytes = g.bytes;
      few = omega arith;
      left = g.left
          ∙ among_later (get_or (tags_in set from to kinds) t no_tag) (tags_in set from to kinds) t i comparing_few more (sym (same-is r says) ∙ e);
    }

  pub comparing_end : t ≤ i → false ≡ among_tags (get_or (tags_in set from to kinds) t no_tag) (take t (tags_in set from to kinds))
  comparing_end h = among-end (get_or (tags_in set from to kinds) t no_tag) (tags_in set from to kinds) t i h ∙ sym g.left

-- ---- a part cut, and same from letter to letter
-- Laws that the pages name, though no proof needs them any more.

-- a part that is cut to what there is
pub part_cut : (l : List ℕ) (a e end begin : ℕ) → end ≡ min e (length l) → begin ≡ min a end → take (end - begin) (drop begin l) ≡ take (e - a) (drop a l)
part_cut l a e end begin he hb = go (dec_le a end) (dec_le e (length l))
  where
    go : Dec (a ≤ end) → Dec (e ≤ length l) → take (end - begin) (drop begin l) ≡ take (e - a) (drop a l)
    go (yes h) (yes k) =
        let x : begin ≡ a = omega arith in
        let y : end ≡ e = omega arith in
        rw (x, y)
    go (yes h) (no k) =
        let x : begin ≡ a = omega arith in
        let y : end ≡ length l = omega arith in
        rw (x, y)
        (take_all (length l - a) (drop a l) (omega (arith, length-drop a l)) ∙ sym (take_all (e - a) (drop a l) (omega (arith, length-drop a l))))
    go (no h) (yes k) =
        let x : end - begin ≡ 0 = omega arith in
        let y : e - a ≡ 0 = omega arith in
        rw (x, y)
    go (no h) (no k) =
        let x : end - begin ≡ 0 = omega arith in
        let y : drop a l ≡ [] = drop_of_length-le l {i = a} (omega arith) in
        rw (x, y) (sym (take-nil (e - a)))

same-lengths : (v w : Word) → same v w ≡ true → length v ≡ length w
same-lengths v w e = ap {B = ℕ} length (same_eq v w e)

pub same_uneven : (v w : Word) → (length v ≡ length w → ⊥) → false ≡ same v w
same_uneven v w n = sym (is_false (same v w) (λ e. n (same-lengths v w e)))

same_cons : (x y : ℕ) (v w : Word) → same (x ∷ v) (y ∷ w) ≡ (eqb x y && same v w)
unfolding same
same_cons x y v w = refl

module _ (v w : Word) (i : ℕ) (even : length v ≡ length w) (left : i < length v) where
  step : same (drop i v) (drop i w) ≡ (eqb (get_or v i 0) (get_or w i 0) && same (drop (suc i) v) (drop (suc i) w))
  step =
      rw (drop-cons v i 0 left, drop-cons w i 0 (omega arith))
      (same_cons (get_or v i 0) (get_or w i 0) (drop (suc i) v) (drop (suc i) w))

  pub same-differ : (get_or v i 0 ≡ get_or w i 0 → ⊥) → false ≡ same (drop i v) (drop i w)
  same-differ n = sym (rw (step, ne_eqb (get_or v i 0) (get_or w i 0) n))

  pub same_agree : get_or v i 0 ≡ get_or w i 0 → same (drop i v) (drop i w) ≡ same (drop (i + 1) v) (drop (i + 1) w)
  same_agree e = rw (add-one i, step, eq-eqb (get_or v i 0) (get_or w i 0) e)

pub same_end : (v w : Word) (i : ℕ) → length v ≡ length w → length v ≤ i → true ≡ same (drop i v) (drop i w)
unfolding same
same_end v w i even h = sym (rw (drop_of_length-le v h, drop_of_length-le w (rw even at h)))
