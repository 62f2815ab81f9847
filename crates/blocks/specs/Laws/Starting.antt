-- What is known of the parts when a reading starts, and that it stays so as bytes are read.
use Rattle.std.specs.Prelude.{◌*◌, ◌+◌, ◌<◌, ◌≤◌, suc, zero, ℕ, Bool, ◌&&◌, false, ◌≡◌, drop, get_or, length, take, Option, None, Some, MatchOption, is_some}
use Rattle.std.proofs.Math.Bool.{true}
use mathlib.Core.Bool.{true≢false}
use denote.Ref.{Bor}
use Rattle.std.proofs.Math.ListN.{length-replicate}
use mathlib.Core.List.{List, [], ◌++◌, ◌∷◌, append-nil}
use Rattle.std.proofs.Common.{◌∙◌, subst, sym, arith, drop_of_length-le, length-append, length-drop, drop_at, drop-drop, length-take-le, take_all, take_at}
use Rattle.std.proofs.Math.Path.{ap, refl}
use Rattle.std.proofs.Math.Seq.{take-take}
use Rattle.matching.specs.Kinds.{as_read}
use Rattle.matching.specs.Laws.AnyTable.{nexts-length}
use Rattle.matching.proofs.Laws.AnyTable.{moved}
use Rattle.matching.specs.Laws.Bools.{and_both, and_l, and_r, both_ways}
use Rattle.matching.specs.Laws.Layouts.{first-length, other-lengths}
use Rattle.matching.specs.Laws.Parts.{BothGo, both_go_lem, both_go}
use Rattle.matching.specs.Laws.Slots.{slots-room}
use Rattle.matching.specs.Laws.Stepping.{Every, read_by_keeps}
use Rattle.matching.specs.Limits.{most_slots}
use Rattle.matching.specs.Parts.{Layout, Part, Runs, first_run, lengths, part_slots, part_step, place_below, slots_over, split_layout, step_in}
use Rattle.matching.specs.Reading.{all_below}
use Rattle.matching.specs.Stepping.{goes_to, read_by}
use Rattle.matching.specs.Words.{Word}
use Rattle.passing.specs.Laws.Below.{full}
use Rattle.passing.specs.Steps.{Ready, Starts}
use Rattle.blocks.specs.Laws.Parts.{as_table, tail_at}
use Rattle.blocks.specs.Parts.{Begins, EachFits, Fits, PartFits, Rests, Stands}
use Rattle.blocks.specs.Sleep.{Still, starts_in}

-- each part has eight machines of one bit
abbrev Eights : Layout → Type 0
Eights layout = Every (λ p. (p.bits ≡ 1) × (p.machines ≡ 8)) layout

split_eights : Eights split_layout
split_eights = ((refl, refl), ((refl, refl), tt))

-- ---- at the start

-- the first part's machines are in states of their own
first-ready : (p : Part) (ps : Layout) (runs : Runs) (slots place : List ℕ) → (p.bits ≡ 1) × (p.machines ≡ 8) → Stands (p ∷ ps) runs slots place
    → (get_or slots 0 0 ≡ part_slots p (length (first_run runs))) × Ready 1 8 (get_or slots 0 0) (first_run runs) (take 8 place)
unfolding slots_over place_below
first-ready p ps runs slots place e st =
    let s : get_or slots 0 0 ≡ part_slots p (length (first_run runs)) = ap (λ (l : List ℕ). get_or l 0 0) st.slots_are ∙ ap (part_slots p) (first-length runs) in
    let wide : length (take 8 place) ≡ 8 = length-take-le 8 place (omega (arith, st.wide)) in
    let below : all_below (get_or slots 0 0) (take 8 place) ≡ true =
    rw e.1 at (and_l (all_below (get_or slots 0 0) (take p.machines place)) (place_below ps (drop 1 slots) (drop p.machines place)) st.below) in (
      s,
      record {
        room = rw (e.0, e.1) at (slots-room p.bits p.machines (length (first_run runs)) (get_or slots 0 0) s);
        few = omega arith;
        long = wide;
        below = rw (full (take 8 place) wide) below;
      },
    )

others_stand : (p : Part) (ps : Layout) (runs : Runs) (slots place : List ℕ) → (p.bits ≡ 1) × (p.machines ≡ 8) → Stands (p ∷ ps) runs slots place
    → Stands ps (drop 1 runs) (drop 1 slots) (drop 8 place)
unfolding slots_over place_below
others_stand p ps runs slots place e st = record {
  slots_are = ap (drop 1) st.slots_are ∙ ap (slots_over ps) (other-lengths runs);
  below = rw e.1 at (and_r (all_below (get_or slots 0 0) (take p.machines place)) (place_below ps (drop 1 slots) (drop p.machines place)) st.below);
  wide = omega (arith, length-drop 8 place, st.wide);
}

ready_at : (layout : Layout) (runs : Runs) (slots place : List ℕ) → Eights layout → Stands layout runs slots place → (g : ℕ) → g < length layout
    → Ready 1 8 (get_or slots g 0) (get_or runs g []) (take 8 (drop (g * 8) place))
ready_at [] runs slots place z st g h = absurd (omega arith)
ready_at (p ∷ ps) runs slots place z st zero h = (first-ready p ps runs slots place z.0 st).1
ready_at (p ∷ ps) runs slots place z st (suc g) h =
    let ih = ready_at ps (drop 1 runs) (drop 1 slots) (drop 8 place) z.1 (others_stand p ps runs slots place z.0 st) g (omega arith) in
    let e : 8 + g * 8 ≡ suc g * 8 = omega arith in
    rw (tail_at runs g [], tail_at slots g 0, drop-drop (g * 8) 8 place, e) at ih

pub split-ready : (runs : Runs) (slots place : List ℕ) → Stands split_layout runs slots place → (g : ℕ) → g < 2
    → Ready 1 8 (get_or slots g 0) (get_or runs g []) (take 8 (drop (g * 8) place))
split-ready runs slots place = ready_at split_layout runs slots place split_eights

-- no part has more slots than the limit
slots-few : (layout : Layout) (lens : List ℕ) (g : ℕ) → get_or (slots_over layout lens) g 0 ≤ most_slots
unfolding slots_over
slots-few [] lens g = omega arith
slots-few (p ∷ ps) lens zero = omega arith
slots-few (p ∷ ps) lens (suc g) = slots-few ps (drop 1 lens) g

pub stands_few : (layout : Layout) (runs : Runs) (slots place : List ℕ) → Stands layout runs slots place → (g : ℕ) → get_or slots g 0 ≤ most_slots
stands_few layout runs slots place st g = rw st.slots_are (slots-few layout (lengths runs) g)

-- with what is known of each part there is all that a walk asks
each_from : (layout : Layout) (runs : Runs) (slots : List ℕ) (awake : List Bool) (starts place : List ℕ) → Eights layout
    → Stands layout runs slots place
    → ((g : ℕ) → g < length layout → get_or awake g false ≡ false → Still (get_or slots g 0) (get_or runs g []) (take 8 (drop (g * 8) place)))
    → ((g : ℕ) → g < length layout → get_or awake g false ≡ true → Starts 1 (get_or slots g 0) (take 128 (drop (g * 128) starts)))
    → EachFits layout runs slots awake starts place
each_from [] runs slots awake starts [] z st stills begins = refl
each_from [] runs slots awake starts (x ∷ place) z st stills begins = absurd (omega (arith, st.wide))
each_from (p ∷ ps) runs slots awake starts place z st stills begins =
    let r = first-ready p ps runs slots place z.0 st in (
      record {
        bits = z.0.0;
        machines = z.0.1;
        slots = r.0;
        ready = r.1;
        steps = begins 0 (omega arith);
        still = stills 0 (omega arith);
      },
      each_from ps (drop 1 runs) (drop 1 slots) (drop 1 awake) (drop 128 starts) (drop 8 place) z.1 (others_stand p ps runs slots place z.0 st)
          (λ g h a.
          let e : 8 + g * 8 ≡ suc g * 8 = omega arith in
          rw (tail_at runs g [], tail_at slots g 0, drop-drop (g * 8) 8 place, e) (stills (suc g) (omega (arith, h)) (rw (tail_at awake g false) at a)))
          (λ g h a.
          let e : 128 + g * 128 ≡ suc g * 128 = omega arith in
          rw (tail_at slots g 0, drop-drop (g * 128) 128 starts, e) (begins (suc g) (omega (arith, h)) (rw (tail_at awake g false) at a))),
    )

pub fits-split : (runs : Runs) (slots known : List ℕ) (awake : List Bool) (starts place : List ℕ) → Stands split_layout runs slots place
    → known ≡ slots → Rests split_layout runs slots awake place → Begins split_layout known awake starts → Fits split_layout runs known awake starts place
fits-split runs slots known awake starts place st e rests begins =
    subst (λ (l : List ℕ). Begins split_layout l awake starts → Fits split_layout runs l awake starts place) (sym e)
    (λ b. record { each = each_from split_layout runs slots awake starts place split_eights st rests.of_part b.of_part; long = b.long }) begins

-- ---- and stays so

-- one part's step
part_keeps : (p : Part) (run : List ℕ) (s : ℕ) (awake : Bool) (starts place : List ℕ) (c : ℕ) (to tags : List ℕ) → PartFits p run s awake starts place
    → part_step p run place c ≡ goes_to to tags → (length to ≡ 8) × PartFits p run s awake starts to
part_keeps p run s awake starts place c to tags f e =
    let m = moved 1 s run place (as_read p.kind c) to tags (sym (as_table p run s starts place f place c) ∙ e) in
    let wide : length to ≡ 8 = ap length (sym m.there) ∙ nexts-length 1 s run 0 place (as_read p.kind c) ∙ f.ready.long in (
      wide,
      record {
        bits = f.bits;
        machines = f.machines;
        slots = f.slots;
        ready = record { room = f.ready.room; few = f.ready.few; long = wide; below = rw (full to wide) m.below };
        steps = f.steps;
        still = λ a.
            let g = sym e ∙ as_table p run s starts place f place c ∙ f.still a (as_read p.kind c) in
            let there : place ≡ to = cc in
            subst (Still s run) there (f.still a);
      },
    )

each_keeps : (layout : Layout) (runs : Runs) (slots : List ℕ) (awake : List Bool) (starts place : List ℕ) (c : ℕ) (to tags : List ℕ)
    → EachFits layout runs slots awake starts place → step_in layout runs place c ≡ goes_to to tags → EachFits layout runs slots awake starts to
unfolding step_in
each_keeps [] runs slots awake starts place c to tags f e = cc
each_keeps (p ∷ ps) runs slots awake starts place c to tags f e =
    go (both_go_lem (part_step p (first_run runs) (take p.machines place) c) (step_in ps (drop 1 runs) (drop p.machines place) c) to tags e)
    (each_keeps ps (drop 1 runs) (drop 1 slots) (drop 1 awake) (drop 128 starts) (drop 8 place) c)
  where
    go : BothGo (part_step p (first_run runs) (take p.machines place) c) (step_in ps (drop 1 runs) (drop p.machines place) c) to tags
        → ((on more : List ℕ) → EachFits ps (drop 1 runs) (drop 1 slots) (drop 1 awake) (drop 128 starts) (drop 8 place)
        → step_in ps (drop 1 runs) (drop 8 place) c ≡ goes_to on more → EachFits ps (drop 1 runs) (drop 1 slots) (drop 1 awake) (drop 128 starts) on)
        → EachFits (p ∷ ps) runs slots awake starts to
    go (both_go x y these those a b q z) ih =
        let k = part_keeps p (first_run runs) (get_or slots 0 0) (get_or awake 0 false) (take 128 starts) (take 8 place) c x these f.0
        (subst (λ (n : ℕ). part_step p (first_run runs) (take n place) c ≡ goes_to x these) f.0.machines a) in
        subst (EachFits (p ∷ ps) runs slots awake starts) q
        (rw (take_at x y 8 k.0, drop_at x y 8 k.0) (k.1, ih y those f.1 (subst (λ (n : ℕ). step_in ps (drop 1 runs) (drop n place) c ≡ goes_to y those) f.0.machines b)))

pub fits_read : (layout : Layout) (runs : Runs) (slots : List ℕ) (awake : List Bool) (starts place : List ℕ) (count room : ℕ) (w : Word)
    → Fits layout runs slots awake starts place → Fits layout runs slots awake starts (read_by (step_in layout runs) place count room w).place
fits_read layout runs slots awake starts place count room w f = record {
  each = read_by_keeps (step_in layout runs) (EachFits layout runs slots awake starts)
      (λ q c to tags h e. each_keeps layout runs slots awake starts q c to tags h e) w place count room f.each;
  long = f.long;
}

-- ---- the two parts of the split layout, one after the other

module _ (slots place own : List ℕ) (eo : own ≡ take 8 place) (t : Bool) (et : t ≡ all_below (get_or slots 0 0) (take 8 own)) where
  first_below : all_below (get_or slots 0 0) (take 8 place) ≡ t
  first_below = sym (et ∙ ap (λ (l : List ℕ). all_below (get_or slots 0 0) l) (ap (take 8) eo ∙ take-take 8 8 place (omega arith)))

  pub states-wrong : t ≡ false → false ≡ place_below split_layout slots place
  unfolding place_below
  states-wrong e = rw (first_below, e) refl

  pub states_right : t ≡ true → (others : List ℕ) → others ≡ take 8 (drop 8 place) → (u : Bool) → u ≡ all_below (get_or slots 1 0) (take 8 others)
      → u ≡ place_below split_layout slots place
  unfolding place_below
  states_right e others er u eu =
      let second : all_below (get_or (drop 1 slots) 0 0) (take 8 (drop 8 place)) ≡ u =
      rw (tail_at slots 0 0) (sym (eu ∙ ap (λ (l : List ℕ). all_below (get_or slots 1 0) l) (ap (take 8) er ∙ take-take 8 8 (drop 8 place) (omega arith)))) in
      rw (first_below, e, second) (sym (both_ways (u && true) u (λ q. and_l u true q) (λ q. and_both u true q refl)))

-- two parts, each still where it is not awake
pub rests_split : (runs : Runs) (slots place : List ℕ) (one other : Bool) → (one ≡ false → Still (get_or slots 0 0) (get_or runs 0 []) (take 8 place))
    → (other ≡ false → Still (get_or slots 1 0) (get_or runs 1 []) (take 8 (drop 8 place))) → Rests split_layout runs slots (one ∷ other ∷ []) place
rests_split runs slots place one other a b = record { of_part = each }
  where
    each : (g : ℕ) → g < 2 → get_or (one ∷ other ∷ []) g false ≡ false → Still (get_or slots g 0) (get_or runs g []) (take 8 (drop (g * 8) place))
    each zero h e = a e
    each (suc zero) h e = b e
    each (suc (suc g)) h e = absurd (omega arith)

-- the starts of two parts, laid one behind the other
pub begins-split : (slots : List ℕ) (awake : List Bool) (a b : List ℕ) → length a ≡ 128 → length b ≡ 128 → (get_or awake 0 false ≡ true → Starts 1 (get_or slots 0 0) a)
    → (get_or awake 1 false ≡ true → Starts 1 (get_or slots 1 0) b) → Begins split_layout slots awake (a ++ b)
begins-split slots awake a b la lb first second = record { of_part = each; long = omega (arith, length-append a b, la, lb) }
  where
    each : (g : ℕ) → g < 2 → get_or awake g false ≡ true → Starts 1 (get_or slots g 0) (take 128 (drop (g * 128) (a ++ b)))
    each zero h e = rw (take_at a b 128 la) (first e)
    each (suc zero) h e = rw (drop_at a b 128 la, take_all 128 b (omega (arith, lb))) (second e)
    each (suc (suc g)) h e = absurd (omega arith)

-- the second written behind the first, in a run of just their numbers
pub begins-put : (slots : List ℕ) (awake : List Bool) (l a b : List ℕ) → length l ≡ 256 → length a ≡ 128 → length b ≡ 128
    → (get_or awake 0 false ≡ true → Starts 1 (get_or slots 0 0) a) → (get_or awake 1 false ≡ true → Starts 1 (get_or slots 1 0) b)
    → Begins split_layout slots awake (take 128 (a ++ drop 128 l) ++ (b ++ drop 128 (drop 128 (a ++ drop 128 l))))
begins-put slots awake l a b ll la lb first second =
    let none : drop 128 (drop 128 l) ≡ [] = drop_of_length-le (drop 128 l) {i = 128} (omega (arith, length-drop 128 l, ll)) in
    rw (take_at a (drop 128 l) 128 la, drop_at a (drop 128 l) 128 la, none, append-nil b) (begins-split slots awake a b la lb first second)

-- ---- both, as the code makes them: for each its starts, or it is still

pub known-long : (s : ℕ) (table place : List ℕ) (known : Option (Bor (List ℕ))) → MatchOption known (Still s table place) (λ starts. Starts 1 s starts.now)
    → length (starts_in known) ≡ 128
known-long s table place None k = length-replicate {A = ℕ} 128 0
known-long s table place (Some starts) k = k.long

known-still : (s : ℕ) (table place : List ℕ) (known : Option (Bor (List ℕ))) → MatchOption known (Still s table place) (λ starts. Starts 1 s starts.now)
    → is_some known ≡ false → Still s table place
known-still s table place None k e = k
known-still s table place (Some starts) k e = absurd (true≢false e)

known-starts : (s : ℕ) (table place : List ℕ) (known : Option (Bor (List ℕ))) → MatchOption known (Still s table place) (λ starts. Starts 1 s starts.now)
    → is_some known ≡ true → Starts 1 s (starts_in known)
known-starts s table place None k e = absurd (true≢false (sym e))
known-starts s table place (Some starts) k e = k

pair-is : (l : List ℕ) (a b : ℕ) → l ≡ a ∷ b ∷ [] → get_or l 0 0 ∷ get_or l 1 0 ∷ [] ≡ l
pair-is l a b e = rw e

pub known_split : (first second slots place : List ℕ) (a b : Option (Bor (List ℕ))) → Stands split_layout (first ∷ second ∷ []) slots place
    → MatchOption a (Still (get_or slots 0 0) first (take 8 place)) (λ starts. Starts 1 (get_or slots 0 0) starts.now)
    → MatchOption b (Still (get_or slots 1 0) second (take 8 (drop 8 place))) (λ starts. Starts 1 (get_or slots 1 0) starts.now)
    → Fits split_layout (first ∷ second ∷ []) (get_or slots 0 0 ∷ get_or slots 1 0 ∷ []) (is_some a ∷ is_some b ∷ []) (starts_in a ++ starts_in b) place
unfolding slots_over
known_split first second slots place a b st ka kb =
    fits-split (first ∷ second ∷ []) slots (get_or slots 0 0 ∷ get_or slots 1 0 ∷ []) (is_some a ∷ is_some b ∷ []) (starts_in a ++ starts_in b) place st
    (pair-is slots _ _ st.slots_are)
    (rests_split _ slots place (is_some a) (is_some b) (known-still _ _ _ a ka) (known-still _ _ _ b kb))
    (begins-split _ _ (starts_in a) (starts_in b) (known-long _ _ _ a ka) (known-long _ _ _ b kb) (known-starts _ _ _ a ka) (known-starts _ _ _ b kb))
