-- What is known of each part, and a layout walked part by part, the last first.
use Rattle.std.specs.Prelude.{◌*◌, ◌+◌, ◌-◌, ◌<◌, ◌≤◌, suc, zero, ℕ, Bool, false, true, List, [], ◌++◌, ◌∷◌, map, ◌≡◌, refl, drop, get_or, length, replicate, take}
use Rattle.std.proofs.Common.{◌∙◌, ap, subst, sym, arith, length-drop, length-take, drop-drop, length-take-le}
use Rattle.std.proofs.Math.Path.{ap₂}
use Rattle.std.proofs.Math.Nat.{sub-zero}
use Rattle.matching.specs.Kinds.{as_read, folded_kind, lower}
use Rattle.kinds.specs.Laws.Folding.{folded_front}
use Rattle.matching.specs.Laws.Kinds.{word_as-exact}
use Rattle.matching.specs.Laws.Slices.{map-take}
use Rattle.matching.specs.Parts.{Layout, Part, Runs, part_step, split_layout}
use Rattle.matching.specs.Reading.{table_step}
use Rattle.matching.specs.Tags.{word_as}
use Rattle.matching.specs.Words.{Word}
use Rattle.passing.specs.Laws.Starts.{one-even}
use Rattle.passing.specs.Steps as steps
use Rattle.blocks.specs.Laws.Noting.{ored-none, rows_none}
use Rattle.blocks.specs.Laws.Running.{came-read, ran-still}
use Rattle.blocks.specs.Noting.{tag_rows}
use Rattle.blocks.specs.Parts.{EachFits, Fits, Lettered, PartFits, no_part}
use Rattle.blocks.specs.Running.{Came, Ran}
use Rattle.blocks.specs.Walking.{Noted, NotedIf}
use Rattle.blocks.specs.declared.walks.Walked.{Walked}

-- of two, the first; and what is not the first is the second
pub first_of : (g : ℕ) (a b : List ℕ) → g ≡ 0 → a ≡ get_or (a ∷ b ∷ []) g []
first_of g a b e = rw e refl

pub second-of : (g : ℕ) (a b : List ℕ) → g < 2 → (g ≡ 0 → ⊥) → b ≡ get_or (a ∷ b ∷ []) g []
second-of zero a b h n = absurd (n refl)
second-of (suc zero) a b h n = refl
second-of (suc (suc g)) a b h n = absurd (omega arith)

-- ---- what is part g's own

module _ (awake : Bool) (g s to : ℕ) (runs : Runs) (table : List ℕ) (et : table ≡ get_or runs g []) (place own : List ℕ) (ep : own ≡ take 8 (drop (g * 8) place))
    (bytes : List ℕ) where
  pub own_able : (starts : List ℕ)
      → (awake ≡ true → steps.Step 1 s (get_or runs g []) (take 128 (drop (g * 128) starts)) (take 8 (drop (g * 8) place)) × ((to ≤ length bytes) × (to ≤ 256)))
      → awake ≡ true → steps.Step 1 s table (take (g * 128 + 128 - g * 128) (drop (g * 128) starts)) own × ((to ≤ length bytes) × (to ≤ 256))
  own_able starts able e =
      let n : g * 128 + 128 - g * 128 ≡ 128 = omega arith in
      rw (n, et, ep) (able e)

  pub own-noted : (r : Walked 8) (h₀ h : List ℕ) → NotedIf awake (table_step 1 s table) own bytes to r h₀ h
      → NotedIf awake (table_step 1 s (get_or runs g [])) (take 8 (drop (g * 8) place)) bytes to r h₀ h
  own-noted r h₀ h n = rw (et, ep) at n

-- ---- one part

module _ (p : Part) (run : List ℕ) (s : ℕ) (starts place : List ℕ) where
  -- its machines read a byte as its kind does
  pub as_table : {awake : Bool} → PartFits p run s awake starts place → (q : List ℕ) (c : ℕ) → part_step p run q c ≡ table_step 1 s run q (as_read p.kind c)
  unfolding part_step
  as_table f q c = ap₂ (λ (n k : ℕ). table_step n k run q (as_read p.kind c)) f.bits (sym f.slots)

  -- a walk over bytes as it reads them is a walk over the bytes; asleep, it is one that stays
  pub part-walk : (awake : Bool) → PartFits p run s awake starts place → (w bytes : Word) (to : ℕ) → to ≤ length w
      → (awake ≡ true → bytes ≡ word_as p.kind w) → (r : Walked 8) (h₀ h : List ℕ) → to ≤ length h₀
      → NotedIf awake (table_step 1 s run) place bytes to r h₀ h → Noted (part_step p run) place (take to w) r h₀ h
  part-walk true f w bytes to most e r h₀ h room n = record {
    vs = n.vs;
    came = came-read (table_step 1 s run) (part_step p run) (as_read p.kind) (as_table f)
        (subst (λ (v : Word). Came (table_step 1 s run) place v r.at r.place (tag_rows n.vs)) (ap (take to) (e refl) ∙ map-take (as_read p.kind) to w) n.came);
    wide = n.wide;
    noted = n.noted;
    quiet = n.quiet;
  }
  part-walk false f w bytes to most e r h₀ h room n =
      subst (λ (x : Walked 8). Noted (part_step p run) place (take to w) x h₀ h) (sym n.0) (record {
        vs = replicate to 0;
        came = record {
          most = omega (arith, front);
          at = place;
          ran = subst (λ (rows : List (List ℕ)). Ran (part_step p run) place (take to (take to w)) place rows)
              (ap (λ (k : ℕ). replicate {A = List ℕ} k []) (length-take-le to (take to w) (omega (arith, front))) ∙ sym (rows_none to))
              (ran-still (part_step p run) place (λ c. as_table f place c ∙ f.still refl (as_read p.kind c)) (take to (take to w)));
          there = λ z. refl;
          wrong = λ l. absurd (omega (arith, l, front));
        };
        wide = refl;
        noted = n.1 ∙ sym (ored-none to h₀ room);
        quiet = λ z. n.1;
      })
    where
      front : length (take to w) ≡ to
      front = length-take-le to w most

  -- a step can be taken where it is awake
  pub part_step_lem : {awake : Bool} → PartFits p run s awake starts place → awake ≡ true → steps.Step 1 s run starts place
  part_step_lem f e = record { even = one-even; begins = f.steps e; ready = f.ready }

-- ---- part g of a layout

pub tail_at : {A : Type 0} (l : List A) (g : ℕ) (d : A) → get_or (drop 1 l) g d ≡ get_or l (suc g) d
tail_at [] g d = refl
tail_at (x ∷ l) g d = refl

each_at : (layout : Layout) (runs : Runs) (slots : List ℕ) (awake : List Bool) (starts place : List ℕ) → EachFits layout runs slots awake starts place
    → (g : ℕ) → g < length layout
    → PartFits (get_or layout g no_part) (get_or runs g []) (get_or slots g 0) (get_or awake g false) (take 128 (drop (g * 128) starts)) (take 8 (drop (g * 8) place))
each_at [] runs slots awake starts place f g h = absurd (omega arith)
each_at (p ∷ ps) runs slots awake starts place f zero h = f.0
each_at (p ∷ ps) runs slots awake starts place f (suc g) h =
    let ih = each_at ps (drop 1 runs) (drop 1 slots) (drop 1 awake) (drop 128 starts) (drop 8 place) f.1 g (omega arith) in
    let z : 8 + g * 8 ≡ suc g * 8 = omega arith in
    let y : 128 + g * 128 ≡ suc g * 128 = omega arith in
    rw (tail_at runs g [], tail_at slots g 0, tail_at awake g false, drop-drop (g * 128) 128 starts, y, drop-drop (g * 8) 8 place, z) at ih

each_sized : (layout : Layout) (runs : Runs) (slots : List ℕ) (awake : List Bool) (starts place : List ℕ) → EachFits layout runs slots awake starts place
    → length place ≡ length layout * 8
each_sized [] runs slots awake starts place f = ap length f
each_sized (p ∷ ps) runs slots awake starts place f =
    omega (
      arith,
      each_sized ps (drop 1 runs) (drop 1 slots) (drop 1 awake) (drop 128 starts) (drop 8 place) f.1,
      length-drop 8 place,
      length-take 8 place,
      f.0.ready.long,
    )

module _ (layout : Layout) (runs : Runs) (slots : List ℕ) (awake : List Bool) (starts place : List ℕ) (f : Fits layout runs slots awake starts place) where
  pub fits-at : (g : ℕ) → g < length layout
      → PartFits (get_or layout g no_part) (get_or runs g []) (get_or slots g 0) (get_or awake g false) (take 128 (drop (g * 128) starts)) (take 8 (drop (g * 8) place))
  fits-at = each_at layout runs slots awake starts place f.each

  pub fits_sized : length place ≡ length layout * 8
  fits_sized = each_sized layout runs slots awake starts place f.each

-- ---- the bytes that the two parts of the split layout read: those of the block, and folded ones

pub letters-split : (awake : List Bool) (block near : Word) → (get_or awake 1 false ≡ true → near ≡ word_as folded_kind block)
    → Lettered split_layout awake (block ∷ near ∷ []) block
letters-split awake block near e = record { of_part = each }
  where
    each : (g : ℕ) → g < 2 → get_or awake g false ≡ true → get_or (block ∷ near ∷ []) g [] ≡ word_as (get_or split_layout g no_part).kind block
    each zero h a = sym (word_as-exact block)
    each (suc zero) h a = e a
    each (suc (suc g)) h a = absurd (omega arith)

-- a folded copy at the front of an array
pub near_front : (block zeros near : Word) → near ≡ map lower block ++ drop (length block) zeros → take (length block - 0) (drop 0 near) ≡ word_as folded_kind block
near_front block zeros near e = rw sub-zero (folded_front block near (drop (length block) zeros) e)
