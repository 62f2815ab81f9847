-- The loop over a piece: what a byte does to what is left, and how it ends.
use Rattle.std.specs.Prelude.{None, Some, ◌*◌, ◌+◌, ◌-◌, ◌/◌, ◌<◌, ◌≤◌, suc, ℕ, false, true, ◌≡◌, refl, leb, drop, get_or, take}
use Rattle.std.proofs.Common.{zero-le, ◌∙◌, subst, add-one, drop_of_length-le, length-append, length-drop, take-append-drop, drop-cons, drop-drop, length-take-le, le-ltb, leb-true}
use mathlib.Core.List.{List, [], ◌++◌, ◌∷◌, append_assoc, append-nil}
use Rattle.std.proofs.Math.Path.{ap, sym}
use Rattle.std.proofs.Math.Nat.{add-zero, sub-zero}
use native.Mathlib.Omega.{arith}
use Rattle.std.proofs.Math.ListN.{length}
use Rattle.std.proofs.Math.Seq.{drop-append-add, take-append_seam}
use Rattle.std.proofs.lemmas.List.Edits.{sets, sets-eq}
use Rattle.matching.specs.Laws.AnyTable.{nexts-length}
use Rattle.matching.specs.Laws.Matches.{occur_at-length}
use Rattle.matching.specs.Laws.Readings.{table_step-goes, table_step-wrong}
use Rattle.matching.specs.Laws.Stepping.{Went, cut_all, cut-stopped, read_by_damaged, read_by-full, read_by-took, went}
use Rattle.matching.specs.Occurrence.{Occurrence, flat, occur_at}
use Rattle.matching.specs.Reading.{Outcome, all_below, flagged, halted, nexts, ones_of, read, table_step, vectors_at}
use Rattle.matching.specs.Slicing.{anded}
use Rattle.matching.specs.Stepping.{OutcomeOf, Step, goes_to, is_damaged, joined, read_by}
use Rattle.matching.specs.Words.{Word}
use Rattle.matching.specs.declared.Stop.{Stop}
use Rattle.matching.specs.declared.Stop.TheVariants.{All, Damaged, Full}
use Rattle.passing.specs.Laws.Below.{below_one}
use Rattle.passing.specs.Laws.Passing.{ahead-ahead, ahead-byte, ahead_none}
use Rattle.passing.specs.Quiet.{Passes, PassesBy, ahead}
use Rattle.reading.specs.Laws.Records.{flat_append, flat-length, none_of, written_of}
use Rattle.reading.specs.Records.{emit_of, emitted, fits_in}
use Rattle.reading.specs.Walks.{Going, GoingBy, list_of, went_of, went_one_of}

-- ---- the list

-- numbers written behind the first
sets-after : (a b l : List ℕ) → length a + length b ≤ length l → sets (a ++ drop (length a) l) (length a) b ≡ (a ++ b) ++ drop (length (a ++ b)) l
sets-after a b l h =
    let m = a ++ drop (length a) l in
    let fits : length a + length b ≤ length m = simp (length-append, length-drop) (omega arith) in
    sets-eq b m (length a) fits
    ∙ rw (
      take-append_seam a (drop (length a) l),
      drop-append-add a (drop (length a) l) (length b),
      drop-drop (length b)
          (length a) l,
      length-append,
      append_assoc,
    )

records-after : (l l₀ : List ℕ) (done new : List Occurrence) (w : ℕ) → length done ≡ w → l ≡ flat done ++ drop (length (flat done)) l₀
    → 2 * (w + length new) ≤ length l₀
    → sets l (2 * w) (flat new) ≡ flat (done ++ new) ++ drop (length (flat (done ++ new))) l₀
records-after l l₀ done new w e el fits =
    let at : 2 * w ≡ length (flat done) = omega (arith, flat-length done) in
    rw (at, el, flat_append done new) (sets-after (flat done) (flat new) l₀ (omega (arith, flat-length done, flat-length new)))

-- ---- how a reading ended, as the code has it

pub record Ended {P : Type 0} (r : OutcomeOf P) (l₀ l : List ℕ) (place : P) (why : Stop) (w i : ℕ) : Type 0 where
  pub taken : r.taken ≡ i
  pub place_is : r.place ≡ place
  pub stop : r.stop ≡ why
  pub records : length r.found ≡ w
  pub list : l ≡ list_of l₀ r

-- ---- the loop, by any step

module _ {P : Type 0} (step : Step P) (count : ℕ) (piece l₀ : List ℕ) (start : P) where
  abbrev all : OutcomeOf P
  all = read_by step start count (length l₀ / 2) piece

  pub by-start : GoingBy step count piece l₀ start l₀ start 0 0
  unfolding flat
  by-start = record {
    most = zero-le;
    done = [];
    written = refl;
    fits = zero-le;
    list = refl;
    is = rw (sub-zero, add-zero) (sym (ahead_none all));
  }

  module _ (l : List ℕ) (place : P) (w i : ℕ) (g : GoingBy step count piece l₀ start l place w i) where
    abbrev left : OutcomeOf P
    left = read_by step place (count + i) (length l₀ / 2 - w) (drop i piece)

    pub by-long : length l ≡ length l₀
    by-long = rw g.list (simp (length-append, length-drop) (omega (arith, flat-length g.done, g.written, g.fits)))

    -- over quiet bytes
    pub by-pass : (q : P) (j : ℕ) → PassesBy step piece place i q j → GoingBy step count piece l₀ start l q w j
    by-pass q j p =
        let z : i + (j - i) ≡ j = omega (arith, p.low) in
        record {
          most = p.most;
          done = g.done;
          written = g.written;
          fits = g.fits;
          list = g.list;
          is = g.is ∙ ap (ahead i g.done) (p.same count (length l₀ / 2 - w)) ∙ ahead-ahead i (j - i) g.done [] _ ∙ rw (z, append-nil);
        }

    ended : (why : Stop) → left ≡ halted place why → Ended all l₀ l place why w i
    unfolding ahead halted
    ended why e =
        let is : all ≡ ahead i g.done (halted place why) = g.is ∙ ap (ahead i g.done) e in
        let found : all.found ≡ g.done = ap (λ (r : OutcomeOf P). r.found) is ∙ append-nil g.done in
        record {
          taken = ap (λ (r : OutcomeOf P). r.taken) is ∙ add-zero i;
          place_is = ap (λ (r : OutcomeOf P). r.place) is;
          stop = ap (λ (r : OutcomeOf P). r.stop) is;
          records = ap length found ∙ g.written;
          list = g.list ∙ rw found;
        }

    pub by_all : length piece ≤ i → Ended all l₀ l place All w i
    unfolding read_by
    by_all more = ended All (rw (drop_of_length-le piece {i = i} more))

    -- a block: all of it is taken, or the reading ends in it
    module _ (n : ℕ) (inside : i + n ≤ length piece) (o : OutcomeOf P) (eo : o ≡ read_by step place (count + i) (length l / 2 - w) (take n (drop i piece)))
        (l' : List ℕ) (el : l' ≡ sets l (2 * w) (flat o.found)) where
      abbrev room : ℕ
      room = length l₀ / 2 - w

      abbrev block : Word
      block = take n (drop i piece)

      is : o ≡ read_by step place (count + i) room block
      is = eo ∙ rw (by-long)

      did : Went step place (count + i) room block o
      did = rw is (went step block place (count + i) room)

      long : length block ≡ n
      long = length-take-le n (drop i piece) (omega (arith, length-drop i piece))

      cut : drop i piece ≡ block ++ drop (i + n) piece
      cut = sym (take-append-drop n (drop i piece)) ∙ rw (drop-drop n i piece)

      written : length (g.done ++ o.found) ≡ w + length o.found
      written = length-append g.done o.found ∙ rw g.written

      fits : 2 * (w + length o.found) ≤ length l₀
      fits = omega (arith, did.fits, g.fits)

      list : l' ≡ flat (g.done ++ o.found) ++ drop (length (flat (g.done ++ o.found))) l₀
      list = el ∙ records-after l l₀ g.done o.found w g.written g.list fits

      pub by-block : o.stop ≡ All → GoingBy step count piece l₀ start l' o.place (w + length o.found) (i + o.taken)
      unfolding ahead joined
      by-block e =
          let taken : o.taken ≡ n = did.whole.0 e ∙ long in
          let on : count + i + o.taken ≡ count + (i + o.taken) = omega arith in
          let less : room - length o.found ≡ length l₀ / 2 - (w + length o.found) = omega arith in
          let there : i + n ≡ i + o.taken = omega (arith, taken) in
          record {
            most = omega (arith, taken);
            done = g.done ++ o.found;
            written = written;
            fits = fits;
            list = list;
            is = g.is ∙ ap (ahead i g.done) (ap (read_by step place (count + i) room) cut ∙ first) ∙ ahead-ahead i o.taken g.done o.found rest
                ∙ rw (on, less, there);
          }
        where
          rest : OutcomeOf P
          rest = read_by step o.place (count + i + o.taken) (room - length o.found) (drop (i + n) piece)

          first : read_by step place (count + i) room (block ++ drop (i + n) piece) ≡ ahead o.taken o.found rest
          first =
              subst (λ (x : OutcomeOf P). read_by step place (count + i) room (block ++ drop (i + n) piece)
              ≡ joined x (read_by step x.place (count + i + x.taken) (room - length x.found) (drop (i + n) piece))) (sym is)
              (cut_all step block place (count + i) room (drop (i + n) piece) (sym (ap (λ (r : OutcomeOf P). r.stop) is) ∙ e))

      pub by-stopped : (o.stop ≡ All → ⊥) → Ended all l₀ l' o.place o.stop (w + length o.found) (i + o.taken)
      unfolding ahead
      by-stopped h =
          let whole : all ≡ ahead i g.done o =
          g.is
          ∙ ap (ahead i g.done)
          (ap (read_by step place (count + i) room) cut
          ∙ cut-stopped step block place (count + i) room (drop (i + n) piece) (λ e. h (ap (λ (r : OutcomeOf P). r.stop) is ∙ e))
          ∙ sym is) in
          let found : all.found ≡ g.done ++ o.found = ap (λ (r : OutcomeOf P). r.found) whole in
          record {
            taken = ap (λ (r : OutcomeOf P). r.taken) whole;
            place_is = ap (λ (r : OutcomeOf P). r.place) whole;
            stop = ap (λ (r : OutcomeOf P). r.stop) whole;
            records = ap length found ∙ written;
            list = list ∙ rw found;
          }

    -- one byte
    module _ (less : i < length piece) where
      abbrev c : ℕ
      c = get_or piece i 0

      abbrev rest : List ℕ
      rest = drop (i + 1) piece

      front : drop i piece ≡ c ∷ rest
      front = rw (drop-cons piece i 0 less, add-one i)

      pub by_damaged : step place c ≡ is_damaged → Ended all l₀ l place Damaged w i
      by_damaged e = ended Damaged (rw front (read_by_damaged step place (count + i) (length l₀ / 2 - w) c rest e))

      -- it leads to a next place, with these tags
      module _ (next : P) (tags : List ℕ) (goes : step place c ≡ goes_to next tags) where
        pub by-full : None ≡ emit_of l w tags → (l' : List ℕ) → l' ≡ emitted l w (count + i + 1) tags → Ended all l₀ l' place Full w i
        by-full none l' el =
            let b : fits_in l w tags ≡ false = none_of _ _ none in
            let same : l' ≡ l = el ∙ rw b in
            let full : leb (length tags) (length l₀ / 2 - w) ≡ false = rw (← by-long) b in
            rw same (ended Full (rw front (read_by-full step place (count + i) (length l₀ / 2 - w) c rest next tags goes full)))

        pub by-took : (x : ℕ) → Some x ≡ emit_of l w tags → (l' : List ℕ) → l' ≡ emitted l w (count + i + 1) tags
            → GoingBy step count piece l₀ start l' next x (i + 1)
        by-took x some l' el =
            let f = written_of _ _ _ some in
            let fits : leb (length tags) (length l₀ / 2 - w) ≡ true = rw (← by-long) f.0 in
            let room : length tags ≤ length l₀ / 2 - w = leb-true (length tags) (length l₀ / 2 - w) fits in
            let e : count + i + 1 ≡ suc (count + i) = omega arith in
            let on : count + (i + 1) ≡ suc (count + i) = omega arith in
            let less_room : length l₀ / 2 - x ≡ length l₀ / 2 - w - length tags = omega (arith, f.1) in
            let byte : left ≡ ahead 1 (occur_at (suc (count + i)) tags) (read_by step next (suc (count + i)) (length l₀ / 2 - w - length tags) rest) =
            rw (front, read_by-took step place (count + i) (length l₀ / 2 - w) c rest next tags goes fits, ahead-byte) in
            record {
              most = omega arith;
              done = g.done ++ occur_at (suc (count + i)) tags;
              written = length-append g.done (occur_at (suc (count + i)) tags) ∙ rw (g.written, occur_at-length, f.1);
              fits = omega (arith, f.1, g.fits);
              list = el ∙ rw (f.0, e)
                  (records-after l l₀ g.done (occur_at (suc (count + i)) tags) w g.written g.list
                  (omega (arith, occur_at-length (suc (count + i)) tags, g.fits)));
              is = g.is ∙ ap (ahead i g.done) byte ∙ ahead-ahead i 1 g.done (occur_at (suc (count + i)) tags) _ ∙ rw (on, less_room);
            }

-- ---- over a table

module _ (n s : ℕ) (table : List ℕ) (count : ℕ) (piece l₀ start : List ℕ) where
  abbrev step : Step (List ℕ)
  step = table_step n s table

  abbrev whole : Outcome
  whole = read n s table start count (length l₀ / 2) piece

  pub going_start : all_below s start ≡ true → Going n s table count piece l₀ start l₀ start 0 0
  going_start b = record { going = by-start step count piece l₀ start; long = refl; below = b }

  module _ (l place : List ℕ) (w i : ℕ) (g : Going n s table count piece l₀ start l place w i) where
    pub going-long : length l ≡ length l₀
    going-long = by-long step count piece l₀ start l place w i g.going

    pub going-pass : (q : List ℕ) (j : ℕ) → Passes n s table piece place i q j → Going n s table count piece l₀ start l q w j
    going-pass q j p = record { going = by-pass step count piece l₀ start l place w i g.going q j p.quiet; long = p.long ∙ g.long; below = p.below }

    pub going-all : length piece ≤ i → Ended whole l₀ l place All w i
    unfolding read
    going-all = by_all step count piece l₀ start l place w i g.going

    -- one byte: its next numbers, and the AND of their vectors
    module _ (less : i < length piece) (next : List ℕ) (moves : next ≡ nexts n s table 0 place (get_or piece i 0)) where
      pub going_damaged : all_below s next ≡ false → Ended whole l₀ l place Damaged w i
      unfolding read
      going_damaged b =
          by_damaged step count piece l₀ start l place w i g.going less (table_step-wrong n s table place (get_or piece i 0) (rw moves at b))

      module _ (below : all_below s next ≡ true) (hits : ℕ) (vector : hits ≡ anded 65535 (vectors_at n s table 0 next)) where
        abbrev tags : List ℕ
        tags = ones_of 0 16 hits

        leads : step place (get_or piece i 0) ≡ goes_to next tags
        unfolding flagged
        leads = table_step-goes n s table place (get_or piece i 0) (rw moves at below) ∙ rw (← moves, ← vector)

        pub going-full : None ≡ emit_of l w tags → (l' : List ℕ) → l' ≡ emitted l w (count + i + 1) tags → Ended whole l₀ l' place Full w i
        unfolding read
        going-full = by-full step count piece l₀ start l place w i g.going less next tags leads

        pub going-took : (x : ℕ) → Some x ≡ emit_of l w tags → (l' : List ℕ) → l' ≡ emitted l w (count + i + 1) tags
            → Going n s table count piece l₀ start l' next x (i + 1)
        going-took x some l' el = record {
          going = by-took step count piece l₀ start l place w i g.going less next tags leads x some l' el;
          long = ap length moves ∙ nexts-length n s table 0 place (get_or piece i 0) ∙ g.long;
          below = below;
        }

-- ---- for the split layout

-- the code's answer and list are those of the reading
pub split_right : (o : Outcome) (l₀ l place : List ℕ) (why : Stop) (w i : ℕ) → Ended o l₀ l place why w i
    → (record { taken = i; place = place; records = w; stop = why } ≡ went_of o) × (l ≡ list_of l₀ o)
split_right o l₀ l place why w i e = (rw (e.taken, e.place_is, e.stop, e.records), e.list)

-- ---- for the whole-byte machine

module _ (s : ℕ) (table : List ℕ) (count : ℕ) (piece l₀ : List ℕ) (start : ℕ) where
  abbrev WholeRight : List ℕ → ℕ → Stop → ℕ → ℕ → Type 0
  WholeRight l q why w i =
      (record { taken = i; place = q; records = w; stop = why } ≡ went_one_of (read 8 s table (start ∷ []) count (length l₀ / 2) piece))
      × (l ≡ list_of l₀ (read 8 s table (start ∷ []) count (length l₀ / 2) piece))

  right_one : (l : List ℕ) (q : ℕ) (why : Stop) (w i : ℕ) → Ended (read 8 s table (start ∷ []) count (length l₀ / 2) piece) l₀ l (q ∷ []) why w i
      → WholeRight l q why w i
  right_one l q why w i e = (rw (e.taken, e.place_is, e.stop, e.records), e.list)

  pub whole_begin : start < s → Going 8 s table count piece l₀ (start ∷ []) l₀ (start ∷ []) 0 0
  whole_begin h = going_start 8 s table count piece l₀ (start ∷ []) (below_one s start h)

  module _ (l : List ℕ) (q w i : ℕ) (g : Going 8 s table count piece l₀ (start ∷ []) l (q ∷ []) w i) where
    pub whole-all : length piece ≤ i → WholeRight l q All w i
    whole-all more = right_one l q All w i (going-all 8 s table count piece l₀ (start ∷ []) l (q ∷ []) w i g more)

    module _ (less : i < length piece) (n : ℕ) (moves : n ∷ [] ≡ nexts 8 s table 0 (q ∷ []) (get_or piece i 0)) where
      pub whole_damaged : s ≤ n → WholeRight l q Damaged w i
      unfolding all_below
      whole_damaged h =
          right_one l q Damaged w i (going_damaged 8 s table count piece l₀ (start ∷ []) l (q ∷ []) w i g less (n ∷ []) moves (rw (le-ltb n s h)))

      module _ (below : n < s) (hits : ℕ) (vector : anded 65535 (vectors_at 8 s table 0 (n ∷ [])) ≡ hits) where
        pub whole-full : None ≡ emit_of l w (ones_of 0 16 hits) → (l' : List ℕ) → l' ≡ emitted l w (count + i + 1) (ones_of 0 16 hits)
            → WholeRight l' q Full w i
        whole-full none l' el =
            right_one l' q Full w i
            (going-full 8 s table count piece l₀ (start ∷ []) l (q ∷ []) w i g less (n ∷ []) moves (below_one s n below) hits (sym vector) none l' el)

        pub whole-took : (x : ℕ) → Some x ≡ emit_of l w (ones_of 0 16 hits) → (l' : List ℕ) → l' ≡ emitted l w (count + i + 1) (ones_of 0 16 hits)
            → Going 8 s table count piece l₀ (start ∷ []) l' (n ∷ []) x (i + 1)
        whole-took x some l' el =
            going-took 8 s table count piece l₀ (start ∷ []) l (q ∷ []) w i g less (n ∷ []) moves (below_one s n below) hits (sym vector) x some l' el
