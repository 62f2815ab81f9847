-- Layouts: when there are slots enough, what building leaves, and the place of an input.
use Rattle.std.specs.Prelude.{◌*◌, ◌+◌, ◌<◌, ◌≤◌, suc, zero, ℕ, Bool, ◌&&◌, false, true, List, [], ◌++◌, ◌∷◌, ◌↔◌, ◌⊎◌, ◌≡◌, refl, eqb, ltb, drop, get_or, length, replicate, take}
use Rattle.std.proofs.Common.{inl, inr, ◌∙◌, ap, ap₂, subst, sym, suc-add, zero-add, arith, lt→ltb, length-append, length-drop}
use Rattle.std.proofs.Math.Decide.{dec_lt}
use Rattle.std.proofs.lemmas.List.{length-replicate}
use Rattle.std.proofs.Math.Seq.{drop_at, take_at}
use Rattle.matching.specs.Enough.{EnoughFor, EnoughIn, LowestIn, ShortIn, SlotsFor, in_first, in_others}
use Rattle.matching.specs.Kinds.{TagKind, exact_kind, is_among, kind_of, kinds, tag_kind}
use Rattle.matching.specs.Laws.Bools.{and_both, decided, is_true, not-both, or_cases}
use Rattle.matching.specs.Laws.Built.{place_after-start}
use Rattle.matching.specs.Laws.Kinds.{chosen_hit, chosen_miss, every-chosen, kind_of-short, kinds-short}
use Rattle.matching.specs.Laws.Readings.{Holds}
use Rattle.matching.specs.Laws.Slots.{slots-fit}
use Rattle.matching.specs.Laws.Tables.{Judged, all_fit, built-holds, built-length, judged, one-short}
use Rattle.matching.specs.Laws.Words.{eqb_eq}
use Rattle.matching.specs.Limits.{longest_tag}
use Rattle.matching.specs.Machine.{states}
use Rattle.matching.specs.Parts.{Layout, Part, Runs, first_length, first_run, has_part, kinds_for, lengths, named, or_else, part_built, part_room, part_slots, part_table}
use Rattle.matching.specs.Parts.{place_below, place_in, room_in, split_layout, start_in, tables_for, whole_layout, width}
use Rattle.matching.specs.Reading.{all_below, place_after}
use Rattle.matching.specs.Slicing.{Slicing}
use Rattle.matching.specs.Table.{Room, built, enough_slots, room_from, short_of_slots, slot_size, tags_for, vector_in}
use Rattle.matching.specs.Tags.{Tags, chosen, of_kind, word_as}
use Rattle.matching.specs.Words.{Word}

-- each part's machines read the eight bits of a byte
abbrev pub Sliced : Layout → Type 0
Sliced [] = Unit {0}
Sliced (p ∷ ps) = Slicing p.bits p.machines × Sliced ps

-- ---- slots enough

-- either way
pub data JudgedIn (tags : Tags) (layout : Layout) (lens : List ℕ) : Room → Type 0 where
  all_enough : EnoughIn layout tags lens → JudgedIn tags layout lens enough_slots
  some_short : {name needs : ℕ} → ShortIn tags layout lens name needs → JudgedIn tags layout lens (short_of_slots name needs)

pub judged_in : (tags : Tags) (layout : Layout) (lens : List ℕ) → JudgedIn tags layout lens (room_in layout tags lens)
unfolding room_in part_room
judged_in tags [] lens = all_enough tt
judged_in tags (p ∷ ps) lens =
    go (room_from p.bits (part_slots p (first_length lens)) (of_kind p.kind tags) 0 p.machines)
    (judged p.bits (part_slots p (first_length lens)) (of_kind p.kind tags) p.machines 0)
    (room_in ps tags (drop 1 lens)) (judged_in tags ps (drop 1 lens))
  where
    go : (r : Room) → Judged p.bits (part_slots p (first_length lens)) (of_kind p.kind tags) 0 p.machines r
        → (others : Room) → JudgedIn tags ps (drop 1 lens) others → JudgedIn tags (p ∷ ps) lens (or_else (named p r) others)
    go r (all_fit f) others (all_enough h) = all_enough (λ m l. f m (omega arith) (omega arith), h)
    go r (all_fit f) others (some_short h) = some_short (in_others p ps lens (λ m l. f m (omega arith) (omega arith)) h)
    go r (one-short j l) others h = some_short (in_first p ps lens j l)

-- only one way
enough_or_short : (p : Part) (tags : Tags) (s m : ℕ) → EnoughFor p tags s → LowestIn p tags s m → ⊥
enough_or_short p tags s m f l = omega (arith, f m (omega (arith, l.below)), l.short)

lowest-one : (p : Part) (tags : Tags) (s i j : ℕ) → LowestIn p tags s i → LowestIn p tags s j → i ≡ j
lowest-one p tags s i j a b = go (dec_lt i j) (dec_lt j i)
  where
    go : Dec (i < j) → Dec (j < i) → i ≡ j
    go (yes h) o = absurd (omega (arith, b.others i (omega arith) h, a.short))
    go (no h) (yes o) = absurd (omega (arith, a.others j (omega arith) o, b.short))
    go (no h) (no o) = omega arith

not-enough : (tags : Tags) (layout : Layout) (lens : List ℕ) (name needs : ℕ) → EnoughIn layout tags lens → ShortIn tags layout lens name needs → ⊥
not-enough tags layout lens name needs f (in_first p ps l m w) = enough_or_short p tags (part_slots p (first_length l)) m f.0 w
not-enough tags layout lens name needs f (in_others p ps l h x) = not-enough tags ps (drop 1 l) name needs f.1 x

short-one : (tags : Tags) (layout : Layout) (lens : List ℕ) (a b c d : ℕ) → ShortIn tags layout lens a b → ShortIn tags layout lens c d
    → (a ≡ c) × (b ≡ d)
short-one tags layout lens a b c d (in_first p ps l i x) (in_first p' ps' l' j y) =
    let e = lowest-one p tags (part_slots p (first_length l)) i j x y in
    (ap (λ (m : ℕ). p.name + m) e, ap (λ (m : ℕ). states (tags_for p.bits (of_kind p.kind tags) m)) e)
short-one tags layout lens a b c d (in_first p ps l i x) (in_others p' ps' l' h y) = absurd (enough_or_short p tags (part_slots p (first_length l)) i h x)
short-one tags layout lens a b c d (in_others p ps l h x) (in_first p' ps' l' i y) = absurd (enough_or_short p tags (part_slots p (first_length l)) i h y)
short-one tags layout lens a b c d (in_others p ps l h x) (in_others p' ps' l' h' y) = short-one tags ps (drop 1 l) a b c d x y

module _ (tags : Tags) (layout : Layout) (lens : List ℕ) where
  pub enough_in_iff : (room_in layout tags lens ≡ enough_slots) ↔ EnoughIn layout tags lens
  enough_in_iff = (λ e. there (room_in layout tags lens) (judged_in tags layout lens) e, λ f. back (room_in layout tags lens) (judged_in tags layout lens) f)
    where
      there : (r : Room) → JudgedIn tags layout lens r → r ≡ enough_slots → EnoughIn layout tags lens
      there r (all_enough f) e = f
      there r (some_short x) e = absurd (let z : ◌≡◌ {A = ℕ} 0 1 = cc in omega arith)

      back : (r : Room) → JudgedIn tags layout lens r → EnoughIn layout tags lens → r ≡ enough_slots
      back r (all_enough f) g = refl
      back r (some_short {name} {needs} x) g = absurd (not-enough tags layout lens name needs g x)

  pub short_in_iff : (name needs : ℕ) → (room_in layout tags lens ≡ short_of_slots name needs) ↔ ShortIn tags layout lens name needs
  short_in_iff name needs =
      (λ e. there (room_in layout tags lens) (judged_in tags layout lens) e, λ f. back (room_in layout tags lens) (judged_in tags layout lens) f)
    where
      there : (r : Room) → JudgedIn tags layout lens r → r ≡ short_of_slots name needs → ShortIn tags layout lens name needs
      there r (all_enough f) e = absurd (let z : ◌≡◌ {A = ℕ} 0 1 = cc in omega arith)
      there r (some_short {name = n} {needs = k} x) e =
          let p : n ≡ name = cc in
          let q : k ≡ needs = cc in
          subst (λ (y : ℕ). ShortIn tags layout lens name y) q (subst (λ (y : ℕ). ShortIn tags layout lens y k) p x)

      back : (r : Room) → JudgedIn tags layout lens r → ShortIn tags layout lens name needs → r ≡ short_of_slots name needs
      back r (all_enough f) x = absurd (not-enough tags layout lens name needs f x)
      back r (some_short {name = n} {needs = k} y) x = let e = short-one tags layout lens n k name needs y x in ap₂ short_of_slots e.0 e.1

-- ---- what building leaves

pub part_length : (p : Part) (tags : Tags) (run : List ℕ) → length (part_table p tags run) ≡ length run
unfolding part_table part_built
part_length p tags run =
    let s = part_slots p (length run) in
    let us = of_kind p.kind tags in
    let mark = vector_in p.kind p.bits tags in
    omega (
      arith,
      length-append (built p.bits p.machines s us mark) (drop (p.machines * (s * slot_size p.bits)) run),
      built-length p.bits p.machines s us mark,
      length-drop (p.machines * (s * slot_size p.bits)) run,
      slots-fit p.bits p.machines (length run),
    )

-- a run as building left it: the part's machines, as many slots as there are, and whatever stands behind them
pub record PartLeft (p : Part) (tags : Tags) (run : List ℕ) : Type 0 where
  pub rest : List ℕ
  pub is : run ≡ part_built p tags (part_slots p (length run)) ++ rest
  pub enough : EnoughFor p tags (part_slots p (length run))

-- the runs of all parts
abbrev pub LeftIn : Layout → Tags → Runs → Type 0
LeftIn [] tags runs = Unit {0}
LeftIn (p ∷ ps) tags runs = PartLeft p tags (first_run runs) × LeftIn ps tags (drop 1 runs)

part_left : (p : Part) (tags : Tags) (run : List ℕ) → EnoughFor p tags (part_slots p (length run)) → PartLeft p tags (part_table p tags run)
unfolding part_table
part_left p tags run f =
    let same : part_slots p (length run) ≡ part_slots p (length (part_table p tags run)) = ap (part_slots p) (sym (part_length p tags run)) in
    let rest = drop (p.machines * (part_slots p (length run) * slot_size p.bits)) run in
    record { rest = rest; is = ap (λ (s : ℕ). part_built p tags s ++ rest) same; enough = subst (EnoughFor p tags) same f }

pub first-length : (runs : Runs) → first_length (lengths runs) ≡ length (first_run runs)
first-length [] = refl
first-length (run ∷ runs) = refl

pub other-lengths : (runs : Runs) → drop 1 (lengths runs) ≡ lengths (drop 1 runs)
other-lengths [] = refl
other-lengths (run ∷ runs) = refl

-- BUILT RUNS are as left
pub tables-left : (layout : Layout) (tags : Tags) (runs : Runs) → EnoughIn layout tags (lengths runs) → LeftIn layout tags (tables_for layout tags runs)
unfolding tables_for
tables-left [] tags runs f = tt
tables-left (p ∷ ps) tags runs f = (
  part_left p tags (first_run runs) (subst (λ (n : ℕ). EnoughFor p tags (part_slots p n)) (first-length runs) f.0),
  tables-left ps tags (drop 1 runs) (subst (EnoughIn ps tags) (other-lengths runs) f.1),
)

-- and as long as they were, where there is one for each part
pub tables-lengths : (layout : Layout) (tags : Tags) (runs : Runs) → length runs ≡ length layout → lengths (tables_for layout tags runs) ≡ lengths runs
unfolding tables_for
tables-lengths [] tags [] e = refl
tables-lengths [] tags (run ∷ runs) e = absurd (omega (arith, e))
tables-lengths (p ∷ ps) tags [] e = absurd (omega (arith, e))
tables-lengths (p ∷ ps) tags (run ∷ runs) e = ap₂ ◌∷◌ (part_length p tags run) (tables-lengths ps tags runs (omega (arith, e)))

-- ---- places

pub place_after-length : (n : ℕ) (ts : List Word) (m k : ℕ) (v : Word) → length (place_after n ts m k v) ≡ k
unfolding place_after
place_after-length n ts m zero v = refl
place_after-length n ts m (suc k) v = ap suc (place_after-length n ts (suc m) k v)

replicate_add : (m n : ℕ) → replicate {A = ℕ} (m + n) 0 ≡ replicate m 0 ++ replicate n 0
replicate_add zero n = ap (λ (k : ℕ). replicate {A = ℕ} k 0) (zero-add n)
replicate_add (suc m) n = ap (λ (k : ℕ). replicate {A = ℕ} k 0) (suc-add m n) ∙ ap {B = List ℕ} (λ (l : List ℕ). 0 ∷ l) (replicate_add m n)

-- at the opening every machine is in state 0
pub place_in-start : (layout : Layout) (tags : Tags) → place_in layout tags [] ≡ start_in layout
unfolding place_in width
place_in-start [] tags = refl
place_in-start (p ∷ ps) tags =
    ap₂ ◌++◌ (place_after-start p.bits (of_kind p.kind tags) 0 p.machines) (place_in-start ps tags)
    ∙ sym (replicate_add p.machines (width ps))

-- each has a slot for it, where there is a slot at all
zeros-below : (s n : ℕ) → 0 < s → all_below s (replicate n 0) ≡ true
unfolding all_below
zeros-below s zero h = refl
zeros-below s (suc n) h = and_both (ltb 0 s) (all_below s (replicate n 0)) (is_true (ltb 0 s) (lt→ltb 0 s h)) (zeros-below s n h)

pub start-below : (layout : Layout) (slots : List ℕ) → SlotsFor layout slots → place_below layout slots (start_in layout) ≡ true
unfolding place_below width
start-below [] slots h = refl
start-below (p ∷ ps) slots h =
    let n = p.machines in
    let split : replicate {A = ℕ} (n + width ps) 0 ≡ replicate n 0 ++ replicate (width ps) 0 = replicate_add n (width ps) in
    let long : length (replicate {A = ℕ} n 0) ≡ n = length-replicate n 0 in
    subst (λ (l : List ℕ). (all_below (get_or slots 0 0) (take n l) && place_below ps (drop 1 slots) (drop n l)) ≡ true) (sym split)
    (and_both (all_below (get_or slots 0 0) (take n (replicate n 0 ++ replicate (width ps) 0)))
    (place_below ps (drop 1 slots) (drop n (replicate n 0 ++ replicate (width ps) 0)))
    (rw (take_at (replicate n 0) (replicate (width ps) 0) n long) (zeros-below (get_or slots 0 0) n h.0))
    (rw (drop_at (replicate n 0) (replicate (width ps) 0) n long) (start-below ps (drop 1 slots) h.1)))

module _ (p : Part) (ps : Layout) (tags : Tags) (v : Word) where
  abbrev own : List ℕ
  own = place_after p.bits (of_kind p.kind tags) 0 p.machines (word_as p.kind v)

  pub place_in-own : take p.machines (place_in (p ∷ ps) tags v)
      ≡ place_after p.bits (of_kind p.kind tags) 0 p.machines (word_as p.kind v)
  unfolding place_in
  place_in-own = take_at own (place_in ps tags v) p.machines
      (place_after-length p.bits (of_kind p.kind tags) 0 p.machines (word_as p.kind v))

  pub place_in-others : drop p.machines (place_in (p ∷ ps) tags v) ≡ place_in ps tags v
  unfolding place_in
  place_in-others = drop_at own (place_in ps tags v) p.machines
      (place_after-length p.bits (of_kind p.kind tags) 0 p.machines (word_as p.kind v))

pub left-holds : (p : Part) (tags : Tags) (run : List ℕ) → PartLeft p tags run
    → Holds p.bits p.machines (part_slots p (length run)) (of_kind p.kind tags) (vector_in p.kind p.bits tags) run
unfolding part_built
left-holds p tags run l =
    let s = part_slots p (length run) in
    let mark = vector_in p.kind p.bits tags in
    subst (Holds p.bits p.machines s (of_kind p.kind tags) mark) (sym l.is)
    (built-holds p.bits p.machines s (of_kind p.kind tags) mark l.rest l.enough)

-- ---- kinds

chosen_takes : (layout : Layout) (number : ℕ) (ks : List TagKind) → is_among number (chosen (λ k. has_part layout k.number) ks) ≡ true
    → has_part layout number ≡ true
unfolding is_among chosen
chosen_takes layout number [] e = absurd (not-both e refl)
chosen_takes layout number (k ∷ ks) e = go (decided (has_part layout k.number)) (chosen_takes layout number ks)
  where
    ok : TagKind → Bool
    ok x = has_part layout x.number

    go : (has_part layout k.number ≡ true) ⊎ (has_part layout k.number ≡ false)
        → (is_among number (chosen (λ k. has_part layout k.number) ks) ≡ true → has_part layout number ≡ true) → has_part layout number ≡ true
    go (inl h) more =
        first (or_cases (eqb k.number number) (is_among number (chosen ok ks)) (rw (chosen_hit ok k ks h) at e))
      where
        first : (eqb k.number number ≡ true) ⊎ (is_among number (chosen ok ks) ≡ true) → has_part layout number ≡ true
        first (inl q) = subst (λ (x : ℕ). has_part layout x ≡ true) (eqb_eq k.number number q) h
        first (inr q) = more q
    go (inr h) more = more (rw (chosen_miss ok k ks h) at e)

-- a layout has a part for each kind that it takes
pub takes_part : (layout : Layout) (number : ℕ) → is_among number (kinds_for layout) ≡ true → has_part layout number ≡ true
unfolding kinds_for
takes_part layout number e = chosen_takes layout number kinds e

-- and none of its kinds has longer tags than the longest
pub takes_short : (layout : Layout) (number : ℕ) → (kind_of number (kinds_for layout)).longest ≤ longest_tag
unfolding kinds_for
takes_short layout number =
    kind_of-short longest_tag number (chosen (λ k. has_part layout k.number) kinds)
    (every-chosen (λ k. has_part layout k.number) (λ k. k.longest ≤ longest_tag) kinds kinds-short)

-- ---- the two layouts

pub split-kinds : kinds_for split_layout ≡ kinds
unfolding kinds_for has_part chosen
split-kinds = refl

pub whole_kinds : kinds_for whole_layout ≡ tag_kind exact_kind 1 longest_tag ∷ []
unfolding kinds_for has_part chosen
whole_kinds = refl

pub split-sliced : Sliced split_layout
split-sliced = (record { machines = omega arith; byte = refl }, (record { machines = omega arith; byte = refl }, tt))

pub whole-sliced : Sliced whole_layout
whole-sliced = (record { machines = omega arith; byte = refl }, tt)
