-- The loop over a piece.
use Rattle.std.specs.Prelude.{None, Some, ◌+◌, ◌/◌, ◌<◌, ◌≤◌, ℕ, List, ◌≡◌, refl, get_or, length}
use Rattle.std.proofs.Common.{◌∙◌, sym, arith}
use Rattle.matching.specs.Reading.{ones_of}
use Rattle.matching.specs.Stepping.{OutcomeOf, goes_to, read_by}
use Rattle.matching.specs.declared.Stop.{Stop}
use Rattle.matching.specs.declared.Stop.TheVariants.{All, Damaged, Full}
use Rattle.reading.specs.Laws.Walks.{Ended, by_all, by_damaged, by-full, by-long, by-pass, by-start, by-took}
use Rattle.reading.specs.Records.{emit_of, emitted}
use Rattle.bitmap.specs.Laws.Steps.{sound}
use Rattle.bitmap.specs.Steps.{To, Wrong, step, vector_at}
use Rattle.bitmap_reading.specs.Laws.Steps.{map-goes, map-wrong}
use Rattle.bitmap_reading.specs.Reading.{map_step, read_map}
use Rattle.bitmap_reading.specs.declared.Standing.{Standing}
use Rattle.bitmap_reading.specs.Rows.{PassedTo}
use Rattle.bitmap_reading.specs.Walks.{GoingMap, WalkedMap}
use Rattle.bitmap_reading.specs.declared.rows.Came.{Came}
use Rattle.reading.specs.declared.went.Went.{Went}

module _ (s : ℕ) (table : List ℕ) (count : ℕ) (piece l₀ : List ℕ) (start : ℕ) where
  abbrev first : Standing
  first = record { state = start; moves = 0 }

  abbrev whole : OutcomeOf Standing
  whole = read_map s table start count (length l₀ / 2) piece

  -- the code's answer
  right : (l : List ℕ) (q moves : ℕ) (why : Stop) (w i : ℕ) → q < s
      → Ended (read_by (map_step s table) first count (length l₀ / 2) piece) l₀ l (record { state = q; moves = moves }) why w i
      → (r : Went Standing) → r ≡ record { taken = i; place = record { state = q; moves = moves }; records = w; stop = why } → WalkedMap s r l₀ l whole
  unfolding read_map
  right l q moves why w i h e r er = record {
    is = er ∙ rw (e.taken, e.place_is, e.stop, e.records);
    list = e.list;
    below = rw er h;
  }

  pub map_begin : start < s → GoingMap s table count piece l₀ start l₀ start 0 0 0
  map_begin h = record { going = by-start (map_step s table) count piece l₀ first; below = h; few = omega arith }

  module _ (l : List ℕ) (q w i moves : ℕ) (g : GoingMap s table count piece l₀ start l q w i moves) where
    abbrev here : Standing
    here = record { state = q; moves = moves }

    pub map-long : length l ≡ length l₀
    map-long = by-long (map_step s table) count piece l₀ first l here w i g.going

    pub map-pass : (r : Came) → PassedTo s table piece q i moves r → GoingMap s table count piece l₀ start l r.state w r.at r.moves
    map-pass r p = record {
      going = by-pass (map_step s table) count piece l₀ first l here w i g.going (record { state = r.state; moves = r.moves }) r.at p.quiet;
      below = p.below;
      few = p.few;
    }

    pub map-all : length piece ≤ i → (r : Went Standing) → r ≡ record { taken = i; place = record { state = q; moves = moves }; records = w; stop = All } → WalkedMap s r l₀ l whole
    map-all more = right l q moves All w i g.below (by_all (map_step s table) count piece l₀ first l here w i g.going more)

    module _ (less : i < length piece) where
      pub map_damaged : step s table q (get_or piece i 0) ≡ Wrong → (r : Went Standing)
          → r ≡ record { taken = i; place = record { state = q; moves = moves }; records = w; stop = Damaged } → WalkedMap s r l₀ l whole
      map_damaged e = right l q moves Damaged w i g.below
          (by_damaged (map_step s table) count piece l₀ first l here w i g.going less (map-wrong s table q moves (get_or piece i 0) e))

      -- it leads to state n, by m moves
      module _ (n m : ℕ) (e : step s table q (get_or piece i 0) ≡ To n m) (hits : ℕ) (v : hits ≡ vector_at table n) where
        leads : map_step s table here (get_or piece i 0) ≡ goes_to (record { state = n; moves = moves + m }) (ones_of 0 16 hits)
        leads = map-goes s table q moves (get_or piece i 0) n m e ∙ rw (← v) refl

        pub map-full : None ≡ emit_of l w (ones_of 0 16 hits) → (l' : List ℕ) → l' ≡ emitted l w (count + i + 1) (ones_of 0 16 hits) → (r : Went Standing)
            → r ≡ record { taken = i; place = record { state = q; moves = moves }; records = w; stop = Full } → WalkedMap s r l₀ l' whole
        map-full none l' el = right l' q moves Full w i g.below
            (by-full (map_step s table) count piece l₀ first l here w i g.going less _ (ones_of 0 16 hits) leads none l' el)

        pub map-took : s ≤ 513 → (x : ℕ) → Some x ≡ emit_of l w (ones_of 0 16 hits) → (l' : List ℕ)
            → l' ≡ emitted l w (count + i + 1) (ones_of 0 16 hits)
            → GoingMap s table count piece l₀ start l' n x (i + 1) (moves + m)
        map-took small x some l' el =
            let fine = sound s table q (get_or piece i 0) n m g.below (sym e) in
            record {
              going = by-took (map_step s table) count piece l₀ first l here w i g.going less _ (ones_of 0 16 hits) leads x some l' el;
              below = fine.0;
              few = omega (arith, g.few, fine.1, g.below);
            }
