-- A layout read part by part: over runs as building left them, as the tags say; and what every reading keeps, over any runs.
use Prim.Native.Nat.{◌+◌, ◌<◌, ◌≤◌, max, suc, ℕ}
use Rattle.std.specs.Prelude.{Bool, ◌&&◌, ◌||◌, false, true, ◌⊎◌, ◌≡◌, refl, eqb, drop, length, take}
use mathlib.Core.List.{List, [], ◌++◌, ◌∷◌}
use Rattle.std.proofs.Common.{inl, inr, ◌∙◌, subst, sym, arith, length-append, length-drop, drop_at, length-take-le, take_at}
use Rattle.std.proofs.Math.Path.{ap, ap₂, fun_ext}
use Rattle.std.proofs.Math.Dec.{eqb_refl}
use Rattle.matching.specs.Enough.{SlotsFor}
use Rattle.matching.specs.Kinds.{as_read, exact_kind}
use Rattle.matching.proofs.Laws.AnyPlace.{nexts-below}
use Rattle.matching.specs.Laws.AnyTable.{nexts-length}
use Rattle.matching.proofs.Laws.AnyTable.{moved, moved_rising, moved-tags}
use Rattle.matching.specs.Laws.Bits.{numbers_where_hit, numbers_where_miss}
use Rattle.matching.specs.Laws.Bools.{and_both, and_l, and_r, both_ways, decided, is_false, is_true, not-both}
use Rattle.matching.specs.Laws.Inputs.{follows_place}
use Rattle.matching.specs.Laws.Layouts.{LeftIn, PartLeft, Sliced, first-length, left-holds, other-lengths, place_in-others, place_in-own}
use Rattle.matching.specs.Laws.OnePart.{kind_at}
use Rattle.matching.proofs.Laws.OnePart.{part-goes}
use Rattle.matching.specs.Laws.Readings.{table_step-goes}
use Rattle.matching.specs.Laws.Stepping.{Every, Rising, every-both, every_map, every-reading, le_is, lt_is, read_by_damaged, read_by-full}
use Rattle.matching.specs.Laws.Stepping.{read_by_keeps, read_by-ordered, read_by-tags, read_by-took, went}
use Rattle.matching.specs.Laws.Unions.{every-union, union_rising, union_where}
use Rattle.matching.specs.Laws.Words.{eqb_eq}
use Rattle.matching.specs.Limits.{most_tags}
use Rattle.matching.specs.Occurrence.{numbers_where}
use Rattle.matching.specs.Parts.{Layout, Part, Runs, beside, expected_in, first_length, first_run, has_part, lengths, part_built, part_slots, part_step, place_below, place_in}
use Rattle.matching.specs.Parts.{read_in, slots_over, step_in, union, width}
use Rattle.matching.specs.Reading.{all_below, flagged, nexts, place_after, read, table_step}
use Rattle.matching.specs.Stepping.{Step, expected_by, goes_to, read_by, took_byte}
use Rattle.matching.specs.Table.{vector_in}
use Rattle.matching.specs.Tags.{LawfulTags, Tag, Tags, ends_by, is_kind, of_kind, tags_at, word_as}
use Rattle.matching.specs.Words.{Below, Word}
use Rattle.matching.specs.Laws.Parts.{found_by, beside-goes, BothGo, both_go, both_go_lem, AllTaken, WentIn, KeptIn, one-part}

-- ---- over runs as left

none_found : {A : Type 0} (i : ℕ) (ts : List A) → numbers_where (λ t. false) i ts ≡ []
unfolding numbers_where
none_found i [] = refl
none_found i (t ∷ ts) = none_found (suc i) ts

-- a part's tags and those of the others are those of all
one_more : (p : Part) (ps : Layout) (tags : Tags) (v : Word) → union (kind_at p.kind tags v) (found_by ps tags v) ≡ found_by (p ∷ ps) tags v
unfolding has_part
one_more p ps tags v =
    union_where (λ t. is_kind p.kind t && ends_by t v) (λ t. has_part ps t.kind && ends_by t v) 0 tags
    ∙ ap (λ (g : Tag → Bool). numbers_where g 0 tags) (fun_ext both)
  where
    spread : (a b c : Bool) → ((a && c) || (b && c)) ≡ ((a || b) && c)
    spread true true true = refl
    spread true true false = refl
    spread true false true = refl
    spread true false false = refl
    spread false true true = refl
    spread false true false = refl
    spread false false true = refl
    spread false false false = refl

    same : (a b : ℕ) → eqb a b ≡ eqb b a
    same a b = both_ways (eqb a b) (eqb b a) (λ e. turned a b e) (λ e. turned b a e)
      where
        turned : (a b : ℕ) → eqb a b ≡ true → eqb b a ≡ true
        turned a b e = subst (λ (x : ℕ). eqb x a ≡ true) (eqb_eq a b e) (is_true (eqb a a) (eqb_refl a))

    both : (t : Tag) → ((is_kind p.kind t && ends_by t v) || (has_part ps t.kind && ends_by t v))
        ≡ ((eqb p.kind t.kind || has_part ps t.kind) && ends_by t v)
    both t = spread (is_kind p.kind t) (has_part ps t.kind) (ends_by t v)
        ∙ ap (λ (b : Bool). (b || has_part ps t.kind) && ends_by t v) (same t.kind p.kind)

-- ---- one step of a part, and of two side by side

part-is : (p : Part) (run place : List ℕ) (c : ℕ) → part_step p run place c ≡ table_step p.bits (part_slots p (length run)) run place (as_read p.kind c)
unfolding part_step
part-is p run place c = refl

-- ---- over runs as left

module _ (tags : Tags) (lawful : LawfulTags tags) where
  layout_goes : (layout : Layout) (runs : Runs) → Sliced layout → LeftIn layout tags runs → (v : Word) (c : ℕ) → Below 256 v → c < 256
      → step_in layout runs (place_in layout tags v) c ≡ goes_to (place_in layout tags (v ++ c ∷ [])) (found_by layout tags (v ++ c ∷ []))
  unfolding step_in has_part place_in
  layout_goes [] runs z l v c hv hc = ap (goes_to []) (sym (none_found 0 tags))
  layout_goes (p ∷ ps) runs z l v c hv hc =
      ap₂ beside first (ap (λ (q : List ℕ). step_in ps (drop 1 runs) q c) (place_in-others p ps tags v) ∙ layout_goes ps (drop 1 runs) z.1 l.1 v c hv hc)
      ∙ beside-goes (own (v ++ c ∷ [])) (place_in ps tags (v ++ c ∷ [])) (kind_at p.kind tags (v ++ c ∷ [])) (found_by ps tags (v ++ c ∷ []))
      ∙ ap (goes_to (place_in (p ∷ ps) tags (v ++ c ∷ []))) (one_more p ps tags (v ++ c ∷ []))
    where
      own : Word → List ℕ
      own u = place_after p.bits (of_kind p.kind tags) 0 p.machines (word_as p.kind u)

      first : part_step p (first_run runs) (take p.machines (place_in (p ∷ ps) tags v)) c ≡ goes_to (own (v ++ c ∷ [])) (kind_at p.kind tags (v ++ c ∷ []))
      first =
          ap (λ (q : List ℕ). part_step p (first_run runs) q c) (place_in-own p ps tags v)
          ∙ part-is p (first_run runs) (own v) c
          ∙ part-goes p.kind tags p.bits p.machines (part_slots p (length (first_run runs))) (first_run runs) z.0
          (left-holds p tags (first_run runs) l.0) lawful v c hv hc

found_all : (layout : Layout) (tags : Tags) (v : Word) (i : ℕ) → AllTaken layout tags
    → numbers_where (λ t. has_part layout t.kind && ends_by t v) i tags ≡ numbers_where (λ t. ends_by t v) i tags
unfolding numbers_where
found_all layout [] v i h = refl
found_all layout (t ∷ tags) v i h = go (decided (ends_by t v)) (found_all layout tags v (suc i) h.1)
  where
    go : (ends_by t v ≡ true) ⊎ (ends_by t v ≡ false)
        → numbers_where (λ t. has_part layout t.kind && ends_by t v) (suc i) tags ≡ numbers_where (λ t. ends_by t v) (suc i) tags
        → numbers_where (λ t. has_part layout t.kind && ends_by t v) i (t ∷ tags) ≡ numbers_where (λ t. ends_by t v) i (t ∷ tags)
    go (inl e) ih =
        numbers_where_hit (λ t. has_part layout t.kind && ends_by t v) i t tags (and_both (has_part layout t.kind) (ends_by t v) h.0 e)
        ∙ ap {B = List ℕ} (λ (l : List ℕ). i ∷ l) ih ∙ sym (numbers_where_hit (λ t. ends_by t v) i t tags e)
    go (inr e) ih =
        numbers_where_miss (λ t. has_part layout t.kind && ends_by t v) i t tags
        (is_false (has_part layout t.kind && ends_by t v) (λ q. not-both (and_r (has_part layout t.kind) (ends_by t v) q) e))
        ∙ ih ∙ sym (numbers_where_miss (λ t. ends_by t v) i t tags e)

-- THE READING THEOREM: over runs as building left them, and from the place after v, a reading of w is as expected: it takes each byte up to the first whose
-- matches find no room, finds the tags that end there by their kinds, and is never damaged
pub read_left : (layout : Layout) (tags : Tags) (runs : Runs) → Sliced layout → LawfulTags tags → AllTaken layout tags → LeftIn layout tags runs
    → (v w : Word) (count room : ℕ) → Below 256 v → Below 256 w
    → read_in layout runs (place_in layout tags v) count room w ≡ expected_in layout tags v count room w
unfolding read_in expected_in expected_by tags_at
read_left layout tags runs z lawful all l v w count room hv hw =
    follows_place 256 (step_in layout runs) (tags_at tags) (place_in layout tags)
    (λ u c hu hc. layout_goes tags lawful layout runs z l u c hu hc
    ∙ ap (goes_to (place_in layout tags (u ++ c ∷ []))) (found_all layout tags (u ++ c ∷ []) 0 all))
    w v count room hv hw

-- ---- over any runs

pub went_in : (layout : Layout) (runs : Runs) (place : List ℕ) (c : ℕ) (to tags : List ℕ) → step_in layout runs place c ≡ goes_to to tags
    → WentIn layout runs place to tags
unfolding step_in width place_below slots_over
went_in [] runs place c to tags e =
    let p : to ≡ [] = cc in
    let q : tags ≡ [] = cc in
    record {
      wide = λ h. ap length p;
      below = λ h. refl;
      rising = subst Rising (sym q) tt;
      low = subst (Every (λ i. i < most_tags)) (sym q) tt;
    }
went_in (p ∷ ps) runs place c to tags e =
    go (both_go_lem (part_step p (first_run runs) (take p.machines place) c) (step_in ps (drop 1 runs) (drop p.machines place) c) to tags e)
    (went_in ps (drop 1 runs) (drop p.machines place) c)
  where
    s : ℕ
    s = part_slots p (first_length (lengths runs))

    go : BothGo (part_step p (first_run runs) (take p.machines place) c) (step_in ps (drop 1 runs) (drop p.machines place) c) to tags
        → ((on more : List ℕ) → step_in ps (drop 1 runs) (drop p.machines place) c ≡ goes_to on more
        → WentIn ps (drop 1 runs) (drop p.machines place) on more)
        → WentIn (p ∷ ps) runs place to tags
    go (both_go x y these those a b f g) ih =
        let m = moved p.bits (part_slots p (length (first_run runs))) (first_run runs) (take p.machines place) (as_read p.kind c) x these
        (sym (part-is p (first_run runs) (take p.machines place) c) ∙ a) in
        let r = ih y those b in
        let sized : length place ≡ p.machines + width ps → length x ≡ p.machines =
        λ h. ap length (sym m.there) ∙ nexts-length p.bits (part_slots p (length (first_run runs))) (first_run runs) 0 (take p.machines place)
        (as_read p.kind c)
        ∙ length-take-le p.machines place (omega (arith, h)) in
        let left : length place ≡ p.machines + width ps → length (drop p.machines place) ≡ width ps =
        λ h. omega (arith, length-drop p.machines place, h) in
        record {
          wide = λ h. omega (arith, ap length f, length-append x y, sized h, r.wide (left h));
          below = λ h. subst (λ (z : List ℕ).
              (all_below s (take p.machines z) && place_below ps (slots_over ps (drop 1 (lengths runs))) (drop p.machines z)) ≡ true) f
              (rw (take_at x y p.machines (sized h), drop_at x y p.machines (sized h), first-length runs, other-lengths runs)
              (and_both (all_below (part_slots p (length (first_run runs))) x) (place_below ps (slots_over ps (lengths (drop 1 runs))) y)
              m.below (r.below (left h))));
          rising = subst Rising g (union_rising these those
              (moved_rising p.bits (part_slots p (length (first_run runs))) (first_run runs) (take p.machines place) (as_read p.kind c) x these
              (sym (part-is p (first_run runs) (take p.machines place) c) ∙ a)));
          low = subst (Every (λ i. i < most_tags)) g (every-union (λ i. i < most_tags) these those
              (moved-tags p.bits (part_slots p (length (first_run runs))) (first_run runs) (take p.machines place) (as_read p.kind c) x these
              (sym (part-is p (first_run runs) (take p.machines place) c) ∙ a)) r.low);
        }

pub kept_in : (layout : Layout) (runs : Runs) (place : List ℕ) (count room : ℕ) (w : Word)
    → KeptIn layout runs place count room w (read_in layout runs place count room w)
unfolding read_in
kept_in layout runs place count room w =
    let step = step_in layout runs in
    let g = went step w place count room in
    let r = read_by step place count room w in
    record {
      part = g.part;
      fits = g.fits;
      wide = read_by_keeps step (λ p. length p ≡ width layout) (λ p c to tags h e. (went_in layout runs p c to tags e).wide h) w place count room;
      below = λ h b. (read_by_keeps step (λ p. (length p ≡ width layout) × (place_below layout (slots_over layout (lengths runs)) p ≡ true))
          (λ p c to tags x e. (let k = went_in layout runs p c to tags e in (k.wide x.0, k.below x.0))) w place count room (h, b)).1;
      records = every_map _ _ r.found (λ o h. (h.0.0, h.0.1, h.1))
          (every-both (λ o. (count < o.end) × (o.end ≤ count + r.taken)) (λ o. o.tag < most_tags) r.found g.between
          (read_by-tags step (λ i. i < most_tags) (λ p c to tags e. (went_in layout runs p c to tags e).low) w place count room));
      idle = g.idle;
      whole = g.whole;
      ordered = read_by-ordered step (λ p c to tags e. (went_in layout runs p c to tags e).rising) w place count room;
    }

-- ---- over runs as left, from ANY place: unused slots hold zeros, so no next number is out of range

part-goes-on : (p : Part) (tags : Tags) (run place : List ℕ) (c : ℕ) → PartLeft p tags run → 0 < part_slots p (length run) → length place ≡ p.machines
    → all_below (part_slots p (length run)) place ≡ true → (to : List ℕ) × (found : List ℕ) × (part_step p run place c ≡ goes_to to found)
unfolding part_built
part-goes-on p tags run place c l some wide below =
    let s = part_slots p (length run) in
    let us = of_kind p.kind tags in
    let to = nexts p.bits s run 0 place (as_read p.kind c) in
    let sound : all_below s to ≡ true =
    subst (λ (x : List ℕ). all_below s (nexts p.bits s x 0 place (as_read p.kind c)) ≡ true) (sym l.is)
    (nexts-below p.bits p.machines s us (vector_in p.kind p.bits tags) l.rest some l.enough place 0 (as_read p.kind c)
    (omega (arith, wide)) below) in
    (to, flagged p.bits s run to, part-is p run place c ∙ table_step-goes p.bits s run place (as_read p.kind c) sound)

pub goes_on : (layout : Layout) (tags : Tags) (runs : Runs) (place : List ℕ) (c : ℕ) → LeftIn layout tags runs → SlotsFor layout (slots_over layout (lengths runs))
    → length place ≡ width layout → place_below layout (slots_over layout (lengths runs)) place ≡ true
    → (to : List ℕ) × (found : List ℕ) × (step_in layout runs place c ≡ goes_to to found)
unfolding step_in width place_below slots_over
goes_on [] tags runs place c l some wide below = ([], [], refl)
goes_on (p ∷ ps) tags runs place c l some wide below =
    let s = part_slots p (first_length (lengths runs)) in
    let own = take p.machines place in
    let others = drop p.machines place in
    let a = part-goes-on p tags (first_run runs) own c l.0
    (subst (λ (n : ℕ). 0 < part_slots p n) (first-length runs) some.0) (length-take-le p.machines place (omega (arith, wide)))
    (subst (λ (n : ℕ). all_below (part_slots p n) own ≡ true) (first-length runs)
    (and_l (all_below s own) (place_below ps (slots_over ps (drop 1 (lengths runs))) others) below)) in
    let b = goes_on ps tags (drop 1 runs) others c l.1
    (subst (λ (ls : List ℕ). SlotsFor ps (slots_over ps ls)) (other-lengths runs) some.1) (omega (arith, length-drop p.machines place, wide))
    (subst (λ (ls : List ℕ). place_below ps (slots_over ps ls) others ≡ true) (other-lengths runs)
    (and_r (all_below s own) (place_below ps (slots_over ps (drop 1 (lengths runs))) others) below)) in
    (a.0 ++ b.0, union a.1 b.1, ap₂ beside a.2 b.2 ∙ beside-goes a.0 b.0 a.1 b.1)

-- a rising list of numbers below some number has no more than so many
rising_few : (most from : ℕ) (l : List ℕ) → Rising l → Every (λ i. i < most) l → Every (λ i. from ≤ i) l → length l + from ≤ max most from
rising_few most from [] r h k = omega arith
rising_few most from (i ∷ l) r h k =
    omega (arith, rising_few most (suc i) l r.1 h.1 (every_map (λ j. i < j) _ l (λ j x. omega (arith, x)) r.0), h.0, k.0)

pub step-few : (layout : Layout) (runs : Runs) (place : List ℕ) (c : ℕ) (to tags : List ℕ) → step_in layout runs place c ≡ goes_to to tags
    → length tags ≤ most_tags
step-few layout runs place c to tags e =
    let w = went_in layout runs place c to tags e in
    omega (arith, rising_few most_tags 0 tags w.rising w.low (every_map (λ i. i < most_tags) _ tags (λ i h. omega arith) w.low))

-- so a reading from any place, with room for a record of each tag, advances
pub reads_on : (layout : Layout) (tags : Tags) (runs : Runs) (place : List ℕ) → LeftIn layout tags runs → SlotsFor layout (slots_over layout (lengths runs))
    → length place ≡ width layout → place_below layout (slots_over layout (lengths runs)) place ≡ true
    → (count room c : ℕ) (w : Word) → most_tags ≤ room → 0 < (read_in layout runs place count room (c ∷ w)).taken
unfolding read_in took_byte
reads_on layout tags runs place l some wide below count room c w r =
    let g = goes_on layout tags runs place c l some wide below in
    let few = step-few layout runs place c g.0 g.1 g.2 in
    rw (read_by-took (step_in layout runs) place count room c w g.0 g.1 g.2 (le_is (length g.1) room (omega (arith, few, r)))) (omega arith)

-- ---- a layout of one part for exact tags is read as its table is

pub one-part-read : (p : Part) (run place : List ℕ) (count room : ℕ) (w : Word) → p.kind ≡ exact_kind → length place ≡ p.machines
    → read_in (p ∷ []) (run ∷ []) place count room w ≡ read p.bits (part_slots p (length run)) run place count room w
unfolding read_in read read_by
one-part-read p run place count room w e h =
    every-reading step (λ q count room w r. length q ≡ p.machines → read_by both q count room w ≡ r) (record {
      none = λ q count room h. refl;
      wrong = λ q count room c w s h. read_by_damaged both q count room c w (one-part p run q c e h ∙ s);
      full = λ q count room c w to tags s l h. read_by-full both q count room c w to tags (one-part p run q c e h ∙ s) (lt_is (length tags) room l);
      took = λ q count room c w to tags r s l ih h.
          read_by-took both q count room c w to tags (one-part p run q c e h ∙ s) (le_is (length tags) room l)
          ∙ ap (took_byte (suc count) tags)
          (ih (ap length (sym (moved p.bits slots run q c to tags s).there) ∙ nexts-length p.bits slots run 0 q c ∙ h));
    }) w place count room h
  where
    slots : ℕ
    slots = part_slots p (length run)

    step : Step (List ℕ)
    step = table_step p.bits slots run

    both : Step (List ℕ)
    both = step_in (p ∷ []) (run ∷ [])
