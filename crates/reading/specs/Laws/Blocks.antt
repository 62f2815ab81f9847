-- A block read: walked as far as it goes, its records written as far as they fit, and walked again where that is not all.
use Rattle.std.specs.Prelude.{◌*◌, ◌+◌, ◌-◌, ◌/◌, ◌<◌, ◌≤◌, suc, ℕ, Bool, ◌≡◌, drop, get_or, take}
use mathlib.Core.List.{List, [], ◌∷◌, append-nil}
use Rattle.std.proofs.Common.{◌∙◌, ap₂, sym, arith, drop_of_length-le, length-drop, take-append-drop, drop-cons, get_or-drop, get_or-take, length-take-le, take-take}
use Rattle.std.proofs.Math.Path.{ap, refl, subst}
use Rattle.std.proofs.Math.Nat.{add-zero}
use Rattle.std.proofs.Math.ListN.{length}
use Rattle.std.proofs.Math.Seq.{length-sets}
use Rattle.std.proofs.lemmas.Bool.{lt-leb}
use Rattle.matching.specs.Laws.Stepping.{read_by_damaged, read_by-full, went}
use Rattle.matching.specs.Laws.Stepping as stepping
use Rattle.matching.specs.Parts.{Runs, read_in, split_layout, step_in}
use Rattle.matching.specs.Reading.{Outcome}
use Rattle.matching.specs.Occurrence.{Occurrence, flat}
use Rattle.matching.specs.Stepping.{OutcomeOf, Step, goes_to, halted, is_damaged, read_by}
use Rattle.matching.specs.Words.{Word}
use Rattle.matching.specs.declared.Stop.{Stop}
use Rattle.matching.specs.declared.Stop.TheVariants.{All, Damaged, Full}
use Rattle.passing.specs.Quiet.{ahead}
use Rattle.blocks.specs.Laws.Running.{came-whole, ran-cut, ran_first, ran-long, ran-read, ran-same}
use Rattle.blocks.specs.Laws.Starting.{fits_read}
use Rattle.blocks.specs.Parts.{Fits, clean}
use Rattle.blocks.specs.Running.{Came, Ran, records_of}
use Rattle.reading.specs.Laws.Walks.{Ended, by_all, by-block, by-long, by-start, by-stopped}
use Rattle.reading.specs.Noted.{WroteTo}
use Rattle.reading.specs.Walks.{BlockRead, BlockTells, Blockwise, GoingBy}
use Rattle.reading.specs.declared.noted.Wrote.{Wrote}
use Rattle.reading.specs.declared.went.Went.{Went}

module _ (step : Step (List ℕ)) (p : List ℕ) (w : Word) (e : ℕ) (q : List ℕ) (rows : List (List ℕ)) (came : Came step p w e q rows)
    (count : ℕ) (l₀ l : List ℕ) (from : ℕ) (r : Wrote) (wrote : WroteTo rows count l₀ l from r) where
  abbrev at : ℕ
  at = r.at

  abbrev room : ℕ
  room = length l₀ / 2 - from

  abbrev out : OutcomeOf (List ℕ)
  out = read_by step p count room w

  rows_long : length rows ≡ e
  rows_long = ran-long step came.ran ∙ length-take-le e w came.most

  upto : at ≤ e
  upto = omega (arith, wrote.writing.most, rows_long)

  inside : at ≤ length w
  inside = omega (arith, upto, came.most)

  -- the place at the byte up to which records are written
  abbrev middle : List ℕ
  middle = (ran-cut step at came.ran).middle

  first : Ran step p (take at w) middle (take at rows)
  first = subst (λ (v : Word). Ran step p v middle (take at rows)) (take-take at e w upto) (ran-cut step at came.ran).first

  abbrev done : List Occurrence
  done = records_of count (take at rows)

  abbrev left : OutcomeOf (List ℕ)
  left = read_by step middle (count + at) (room - length done) (drop at w)

  front : out ≡ ahead at done left
  front =
      ap (read_by step p count room) (sym (take-append-drop at w))
      ∙ ran-read step first count room (drop at w) (omega (arith, wrote.writing.fits, wrote.writing.records))
      ∙ rw (length-take-le at w inside)

  -- what is answered, where the rest stops at once
  told : (place : List ℕ) (why : Stop) → left ≡ halted place why → BlockTells (record { taken = at; place = place; records = r.records; stop = why }) from l₀ l out
  unfolding ahead halted
  told place why h =
      let is : out ≡ ahead at done (halted place why) = front ∙ ap (ahead at done) h in
      let found : out.found ≡ done = ap (λ (o : OutcomeOf (List ℕ)). o.found) is ∙ append-nil done in
      let taken : out.taken ≡ at = ap (λ (o : OutcomeOf (List ℕ)). o.taken) is ∙ add-zero at in
      let there : out.place ≡ place = ap (λ (o : OutcomeOf (List ℕ)). o.place) is in
      let stop : out.stop ≡ why = ap (λ (o : OutcomeOf (List ℕ)). o.stop) is in
      (rw (taken, there, stop, found, wrote.writing.records) refl, rw found wrote.writing.list)

  pub block-all : length w ≤ at → BlockTells (record { taken = at; place = q; records = r.records; stop = All }) from l₀ l out
  unfolding read_by
  block-all more =
      let z : at ≡ e = omega (arith, upto, came.most) in
      let end : e ≡ length w = omega (arith, more, upto, came.most) in
      let same : middle ≡ came.at = (ran-same step (subst (λ (n : ℕ). Ran step p (take n w) middle (take at rows)) z first) came.ran).0 in
      told q All (rw (drop_of_length-le w {i = at} more, same, ← came.there end) refl)

  -- where it is walked again up to there, that gives the place
  module _ (less : at < length w) (e₂ : ℕ) (q₂ : List ℕ) (rows₂ : List (List ℕ)) (again : Came step p (take at w) e₂ q₂ rows₂) where
    there : q₂ ≡ middle
    there = (came-whole step again first).1

    next : drop at w ≡ get_or w at 0 ∷ drop (suc at) w
    next = drop-cons w at 0 less

    pub block-full : at < e → BlockTells (record { taken = at; place = q₂; records = r.records; stop = Full }) from l₀ l out
    block-full h =
        let front_long : length (take e w) ≡ e = length-take-le e w came.most in
        let s = ran_first step (ran-cut step at came.ran).second (omega (arith, length-drop at (take e w), front_long, h)) in
        let byte : get_or (drop at (take e w)) 0 0 ≡ get_or w at 0 =
        get_or-drop at (take e w) 0 0 ∙ ap (λ (i : ℕ). get_or (take e w) i 0) (add-zero at) ∙ get_or-take e w at 0 h in
        let tags : get_or (drop at rows) 0 [] ≡ get_or rows at [] = get_or-drop at rows 0 [] ∙ ap (λ (i : ℕ). get_or rows i []) (add-zero at) in
        let goes : step middle (get_or w at 0) ≡ goes_to s.0 (get_or rows at []) = ap (step middle) (sym byte) ∙ s.1 ∙ ap (goes_to s.0) tags in
        let full = lt-leb (length (get_or rows at [])) (room - length done)
        (omega (arith, wrote.full (omega (arith, h, rows_long)), wrote.writing.records)) in
        told q₂ Full (rw (there, next) (read_by-full step middle (count + at) (room - length done) (get_or w at 0) (drop (suc at) w) s.0 (get_or rows at []) goes full))

    pub block-wrong : e ≤ at → BlockTells (record { taken = at; place = q₂; records = r.records; stop = Damaged }) from l₀ l out
    block-wrong h =
        let z : at ≡ e = omega (arith, upto) in
        let same : middle ≡ came.at = (ran-same step (subst (λ (n : ℕ). Ran step p (take n w) middle (take at rows)) z first) came.ran).0 in
        let damaged : step middle (get_or w at 0) ≡ is_damaged = ap₂ step same (ap (λ (i : ℕ). get_or w i 0) z) ∙ came.wrong (omega (arith, less, z)) in
        told q₂ Damaged (rw (there, next) (read_by_damaged step middle (count + at) (room - length done) (get_or w at 0) (drop (suc at) w) damaged))

-- ---- a block after another

module _ (runs : Runs) (slots : List ℕ) (awake : List Bool) (starts : List ℕ) (count : ℕ) (piece l₀ start : List ℕ) where
  abbrev step : Step (List ℕ)
  step = step_in split_layout runs

  pub blockwise_start : Fits split_layout runs slots awake starts start → (hits : List ℕ) → hits ≡ clean
      → Blockwise runs slots awake starts count piece l₀ start l₀ hits start 0 0
  blockwise_start f hits e = record { going = by-start step count piece l₀ start; fits = f; forgets = e }

  module _ (l hits place : List ℕ) (w i : ℕ) (g : Blockwise runs slots awake starts count piece l₀ start l hits place w i) where
    pub blockwise_long : length l ≡ length l₀
    blockwise_long = by-long step count piece l₀ start l place w i g.going

    pub blockwise_room : 2 * w ≤ length l
    blockwise_room = omega (arith, g.going.fits, blockwise_long)

    pub blockwise_end : length piece ≤ i → Ended (read_in split_layout runs start count (length l₀ / 2) piece) l₀ l place All w i
    unfolding read_in
    blockwise_end = by_all step count piece l₀ start l place w i g.going

    -- one block, which begins at byte i and ends before byte `to`
    module _ (to : ℕ) (low : i ≤ to) (most : to ≤ length piece) (r : Went (List ℕ)) (l' hits' : List ℕ)
        (b : BlockRead r w l l' hits' (read_in split_layout runs place (count + i) (length l / 2 - w) (take (to - i) (drop i piece)))) where
      abbrev outcome : Outcome
      outcome = read_in split_layout runs place (count + i) (length l / 2 - w) (take (to - i) (drop i piece))

      inner : i + (to - i) ≤ length piece
      inner = omega arith

      sized : length (take (to - i) (drop i piece)) ≡ to - i
      sized = length-take-le (to - i) (drop i piece) (omega (arith, length-drop i piece))

      did : stepping.Went step place (count + i) (length l / 2 - w) (take (to - i) (drop i piece)) outcome
      unfolding read_in
      did = went step (take (to - i) (drop i piece)) place (count + i) (length l / 2 - w)

      same_taken : r.taken ≡ outcome.taken
      same_taken = ap (λ (x : Went (List ℕ)). x.taken) b.tells.0

      same_stop : r.stop ≡ outcome.stop
      same_stop = ap (λ (x : Went (List ℕ)). x.stop) b.tells.0

      pub blockwise_part : r.taken ≤ to - i
      blockwise_part = omega (arith, same_taken, did.part, sized)

      pub blockwise_all : r.stop ≡ All → r.taken ≡ to - i
      blockwise_all e = same_taken ∙ did.whole.0 (sym same_stop ∙ e) ∙ sized

      pub blockwise_more : r.stop ≡ All → Blockwise runs slots awake starts count piece l₀ start l' hits' r.place r.records (i + r.taken)
      unfolding read_in
      blockwise_more e = record {
        going = subst (λ (x : Went (List ℕ)). GoingBy step count piece l₀ start l' x.place x.records (i + x.taken)) (sym b.tells.0)
            (by-block step count piece l₀ start l place w i g.going (to - i) inner outcome refl l' b.tells.1 (sym same_stop ∙ e));
        fits = subst (Fits split_layout runs slots awake starts) (sym (ap (λ (x : Went (List ℕ)). x.place) b.tells.0))
            (fits_read split_layout runs slots awake starts place (count + i) (length l / 2 - w) (take (to - i) (drop i piece)) g.fits);
        forgets = b.forgets e;
      }

      pub blockwise_stops : (r.stop ≡ All → ⊥)
          → Ended (read_in split_layout runs start count (length l₀ / 2) piece) l₀ l' r.place r.stop r.records (i + r.taken)
      unfolding read_in
      blockwise_stops h =
          subst (λ (x : Went (List ℕ)). Ended (read_in split_layout runs start count (length l₀ / 2) piece) l₀ l' x.place x.stop x.records (i + x.taken))
          (sym b.tells.0)
          (by-stopped step count piece l₀ start l place w i g.going (to - i) inner outcome refl l' b.tells.1 (λ e. h (same_stop ∙ e)))

      pub blockwise_list : length l' ≡ length l₀
      blockwise_list = ap length b.tells.1 ∙ length-sets l (2 * w) (flat outcome.found) ∙ blockwise_long
