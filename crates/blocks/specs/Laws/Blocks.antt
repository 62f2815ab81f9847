-- The parts of a layout over a block, the last first.
use Rattle.std.specs.Prelude.{◌*◌, ◌+◌, ◌<◌, ◌≤◌, suc, zero, ℕ, Bool, ◌||◌, false, true, ◌≡◌, refl, get_or, replicate, take}
use mathlib.Core.List.{List, [], ◌++◌, ◌∷◌}
use Rattle.std.proofs.Common.{◌∙◌, ap, subst, sym, add-zero, add-one, arith, length-drop, take-append-drop, drop_at, drop-cons, drop-drop, get_or-drop, take_at, take-take}
use Rattle.std.proofs.Math.ListN.{drop, drop_of_length-le, length, length-replicate}
use Rattle.std.proofs.lemmas.List.{length-map}
use Rattle.std.proofs.Math.Seq.{length-sets, length-take-le}
use Rattle.std.proofs.lemmas.List.Edits.{sets}
use Rattle.matching.specs.Kinds.{as_read}
use Rattle.matching.specs.Laws.AnyTable.{nexts-length}
use Rattle.matching.proofs.Laws.AnyTable.{moved}
use Rattle.matching.specs.Laws.Bools.{or_false-l, or_false-r}
use Rattle.matching.specs.Laws.Kinds.{word_as-length}
use Rattle.matching.specs.Parts.{Layout, Part, Runs, first_run, part_slots, part_step, step_in}
use Rattle.matching.specs.Reading.{ones_of, table_step}
use Rattle.matching.specs.Words.{Word}
use Rattle.passing.specs.Steps as steps
use Rattle.blocks.specs.Laws.Beside.{Beside, came-beside}
use Rattle.blocks.specs.Laws.Noting.{ored-long, rows_none, rows-ored, rows_take}
use Rattle.blocks.specs.Laws.Parts.{fits-at, fits_sized, part_step_lem, part-walk}
use Rattle.blocks.specs.Laws.Places.{put-behind}
use Rattle.blocks.specs.Laws.Running.{ran-long, ran-still}
use Rattle.blocks.specs.Noting.{ored, tag_rows, unions}
use Rattle.blocks.specs.Parts.{Fits, Lettered, PartFits, Walks, clean, no_part}
use Rattle.blocks.specs.Running.{Came, Ran}
use Rattle.blocks.specs.Walking.{Noted, NotedIf}
use Rattle.blocks.specs.declared.walks.Walked.{Walked}

-- the first part's step stands beside that of the others
layout_beside : (p : Part) (ps : Layout) (runs : Runs) → Beside (part_step p (first_run runs)) (step_in ps (drop 1 runs)) (step_in (p ∷ ps) runs) p.machines
unfolding step_in part_step
layout_beside p ps runs = record {
  keeps = λ q c to tags l e.
      ap length (sym (moved p.bits s run q (as_read p.kind c) to tags e).there) ∙ nexts-length p.bits s run 0 q (as_read p.kind c) ∙ l;
  joins = λ x y c l. rw (take_at x y p.machines l, drop_at x y p.machines l) refl;
}
  where
    run : List ℕ
    run = first_run runs

    s : ℕ
    s = part_slots p (length run)

-- parts `left`, `left` + 1, .. have walked the block up to byte end; h has what they noted, and place, from there on, where they are
pub record Walking (layout : Layout) (runs : Runs) (start : List ℕ) (block : Word) (h place : List ℕ) (end : ℕ) (loud : Bool) (left : ℕ) : Type 0 where
  pub most : left ≤ length layout
  pub came : Came (step_in (drop left layout) (drop left runs)) (drop (left * 8) start) block end (drop (left * 8) place) (tag_rows (take end h))
  pub wide : length place ≡ length layout * 8
  pub long : length h ≡ 256
  pub quiet : loud ≡ false → h ≡ clean

pub clean-front : (n k : ℕ) → n ≤ k → take n (replicate {A = ℕ} k 0) ≡ replicate n 0
clean-front zero k h = refl
clean-front (suc n) zero h = absurd (omega arith)
clean-front (suc n) (suc k) h = ap {B = List ℕ} (λ (l : List ℕ). 0 ∷ l) (clean-front n k (omega arith))

module _ (layout : Layout) (runs : Runs) (start : List ℕ) (sized : length start ≡ length layout * 8) (block : Word) (few : length block ≤ 256) where
  pub walking_start : Walking layout runs start block clean start (length block) false (length layout)
  unfolding step_in
  walking_start =
      let none : drop (length layout) layout ≡ [] = drop_of_length-le layout {i = length layout} (omega arith) in
      let end : drop (length layout * 8) start ≡ [] = drop_of_length-le start {i = length layout * 8} (omega (arith, sized)) in
      let front : length (take (length block) block) ≡ length block = length-take-le (length block) block (omega arith) in
      record {
        most = omega arith;
        came = rw (none, end) (record {
          most = omega arith;
          at = [];
          ran = rw (clean-front (length block) 256 few, rows_none (length block))
              (subst (λ (k : ℕ). Ran (step_in [] (drop (length layout) runs)) [] (take (length block) block) [] (replicate k [])) front (ran-still (step_in [] (drop (length layout) runs)) [] (λ c. refl) (take (length block) block)));
          there = λ z. refl;
          wrong = λ l. absurd (omega (arith, l));
        });
        wide = sized;
        long = length-replicate {A = ℕ} 256 0;
        quiet = λ e. refl;
      }

  -- one part more: it walks the bytes up to the one to which those after it came
  module _ (h place : List ℕ) (end : ℕ) (loud : Bool) (g : ℕ) (less : g < length layout) (w : Walking layout runs start block h place end loud (suc g)) where
    abbrev own : Part
    own = get_or layout g no_part

    module _ (machines : own.machines ≡ 8) (r : Walked 8) (h' : List ℕ)
        (n : Noted (part_step own (get_or runs g [])) (take 8 (drop (g * 8) start)) (take end block) r h h') where
      sized_own : length r.place ≡ 8
      sized_own = n.wide ∙ length-take-le 8 (drop (g * 8) start) (omega (arith, length-drop (g * 8) start, sized, less))

      next : suc g * 8 ≡ g * 8 + 8
      next = omega arith

      vs-long : length n.vs ≡ r.at
      vs-long =
          sym (length-map n.vs (ones_of 0 16)) ∙ ran-long (part_step own (get_or runs g [])) n.came.ran
          ∙ length-take-le r.at (take end block) n.came.most

      upto : r.at ≤ end
      upto = omega (arith, n.came.most, length-take-le end block w.came.most)

      -- what the parts after it noted up to there, and what it noted
      rows : unions (tag_rows n.vs) (take r.at (tag_rows (take end h))) ≡ tag_rows (take r.at h')
      rows =
          ap (unions (tag_rows n.vs)) (rows_take r.at (take end h) ∙ ap tag_rows (take-take r.at end h upto))
          ∙ subst (λ (k : ℕ). unions (tag_rows n.vs) (tag_rows (take k h)) ≡ tag_rows (take k (ored n.vs h))) vs-long
          (rows-ored n.vs h (omega (arith, vs-long, upto, w.came.most, few, w.long)))
          ∙ ap (λ (l : List ℕ). tag_rows (take r.at l)) (sym n.noted)

      part-first : first_run (drop g runs) ≡ get_or runs g []
      part-first = get_or-drop g runs 0 [] ∙ ap (λ (k : ℕ). get_or runs k []) (add-zero g)

      others : drop 1 (drop g runs) ≡ drop (suc g) runs
      others = drop-drop 1 g runs ∙ ap (λ (k : ℕ). drop k runs) (add-one g)

      behind : drop 8 (drop (g * 8) start) ≡ drop (suc g * 8) start
      behind = drop-drop 8 (g * 8) start ∙ ap (λ (k : ℕ). drop k start) (sym next)

      end-there : g * 8 + length r.place ≡ suc g * 8
      end-there = omega (arith, sized_own)

      placed : drop (g * 8) (sets place (g * 8) r.place) ≡ r.place ++ drop (suc g * 8) place
      placed =
          put-behind place (g * 8) r.place (omega (arith, sized_own, w.wide, less))
          ∙ ap {B = List ℕ} (λ (k : ℕ). r.place ++ drop k place) end-there

      abbrev whole : List ℕ
      whole = drop (g * 8) start

      split : take 8 whole ++ drop (suc g * 8) start ≡ whole
      split = ap {B = List ℕ} (λ (l : List ℕ). take 8 whole ++ l) (sym behind) ∙ take-append-drop 8 whole

      first-came : Came (part_step own (first_run (drop g runs))) (take 8 whole) (take end block) r.at r.place (tag_rows n.vs)
      first-came = subst (λ (run : List ℕ). Came (part_step own run) (take 8 whole) (take end block) r.at r.place (tag_rows n.vs)) (sym part-first) n.came

      others-came : Came (step_in (drop (suc g) layout) (drop 1 (drop g runs))) (drop (suc g * 8) start) block end (drop (suc g * 8) place) (tag_rows (take end h))
      others-came =
          subst (λ (rs : Runs). Came (step_in (drop (suc g) layout) rs) (drop (suc g * 8) start) block end (drop (suc g * 8) place) (tag_rows (take end h)))
          (sym others) w.came

      both-came : Came (step_in (own ∷ drop (suc g) layout) (drop g runs)) (take 8 whole ++ drop (suc g * 8) start) block r.at
          (r.place ++ drop (suc g * 8) place) (unions (tag_rows n.vs) (take r.at (tag_rows (take end h))))
      both-came =
          came-beside (layout_beside own (drop (suc g) layout) (drop g runs)) others-came first-came
          (length-take-le 8 whole (omega (arith, length-drop (g * 8) start, sized, less)) ∙ sym machines)

      pub walking_more : Walking layout runs start block h' (sets place (g * 8) r.place) r.at (loud || r.loud) g
      walking_more = record {
        most = omega arith;
        came = rw (drop-cons layout g no_part less, placed, ← rows)
            (subst (λ (l : List ℕ). Came (step_in (own ∷ drop (suc g) layout) (drop g runs)) l block r.at (r.place ++ drop (suc g * 8) place)
            (unions (tag_rows n.vs) (take r.at (tag_rows (take end h))))) split both-came);
        wide = length-sets place (g * 8) r.place ∙ w.wide;
        long = ap length n.noted ∙ ored-long n.vs h ∙ w.long;
        quiet = λ e. n.quiet (or_false-r loud r.loud e) ∙ w.quiet (or_false-l loud r.loud e);
      }

-- ---- a turn of the loop over the parts

module _ (layout : Layout) (runs : Runs) (slots : List ℕ) (awake : List Bool) (starts start : List ℕ) (fits : Fits layout runs slots awake starts start)
    (bytes : Runs) (block : Word) (letters : Lettered layout awake bytes block) (few : length block ≤ 256) where
  sized : length start ≡ length layout * 8
  sized = fits_sized layout runs slots awake starts start fits

  pub turn_start : (h : List ℕ) → h ≡ clean → Walking layout runs start block h start (length block) false (length layout)
  turn_start h e = rw e (walking_start layout runs start sized block few)

  module _ (h place : List ℕ) (end : ℕ) (loud : Bool) (left : ℕ) (w : Walking layout runs start block h place end loud left)
      (g : ℕ) (e : left ≡ suc g) (letter : List ℕ) (eb : letter ≡ get_or bytes g []) where
    less : g < length layout
    less = omega (arith, w.most, e)

    abbrev states : List ℕ
    states = take 8 (drop (g * 8) start)

    part-fits : PartFits (get_or layout g no_part) (get_or runs g []) (get_or slots g 0) (get_or awake g false) (take 128 (drop (g * 128) starts)) states
    part-fits = fits-at layout runs slots awake starts start fits g less

    pub turn_able : get_or awake g false ≡ true
        → steps.Step 1 (get_or slots g 0) (get_or runs g []) (take 128 (drop (g * 128) starts)) states × ((end ≤ length letter) × (end ≤ 256))
    turn_able a =
        let z : length letter ≡ length block = ap length (eb ∙ letters.of_part g less a) ∙ word_as-length (get_or layout g no_part).kind block in (
          part_step_lem (get_or layout g no_part) (get_or runs g []) (get_or slots g 0) (take 128 (drop (g * 128) starts)) states part-fits a,
          (omega (arith, z, w.came.most), omega (arith, w.came.most)),
        )

    pub turn_more : (r : Walked 8) (h' : List ℕ) → NotedIf (get_or awake g false) (table_step 1 (get_or slots g 0) (get_or runs g [])) states letter end r h h'
        → (place' : List ℕ) → place' ≡ sets place (g * 8) r.place → Walking layout runs start block h' place' r.at (loud || r.loud) g
    turn_more r h' n place' e' =
        rw e'
        (walking_more layout runs start sized block few h place end loud g less (rw e at w) part-fits.machines r h'
        (part-walk (get_or layout g no_part) (get_or runs g []) (get_or slots g 0) (take 128 (drop (g * 128) starts)) states (get_or awake g false) part-fits
        block letter end w.came.most (λ a. eb ∙ letters.of_part g less a) r h h' (omega (arith, w.long, w.came.most)) n))

  pub turn_end : (h place : List ℕ) (end : ℕ) (loud : Bool) (left : ℕ) → Walking layout runs start block h place end loud left → left ≡ 0
      → Walks layout runs start block h (record { at = end; place = place; loud = loud })
  turn_end h place end loud left w e =
      let z = rw e at w in
      record { came = z.came; long = z.long; quiet = z.quiet }
