-- Readings over a bitmap table as building left it.
use Prim.Native.Nat.{◌+◌, ◌/◌, ◌<◌, ◌≤◌, ℕ}
use Rattle.std.specs.Prelude.{Bool, false, true, ltb, get_or}
use mathlib.Core.List.{List, [], ◌++◌, ◌∷◌, append_assoc, append-nil}
use Rattle.std.proofs.Common.{◌∙◌, subst₂, arith, length-append, length-take-le, lt-ltb, ltb-false, ltb-true}
use Rattle.std.proofs.Math.Path.{◌≡◌, ap, ap₂, refl, subst, sym}
use Rattle.std.proofs.Math.ListN.{length, take}
use Rattle.matching.specs.Laws.Prefixes.{Tree, lt_tree, walk_tree}
use Rattle.matching.proofs.Laws.Prefixes.{tree}
use Rattle.matching.proofs.Laws.Prefixes.{tree}
use Rattle.matching.specs.Limits.{largest}
use Rattle.matching.specs.Machine.{longest, prefixes, walk}
use Rattle.matching.specs.Occurrence.{Occurrence, occurrences_by, occurrences_from, tags_ending}
use Rattle.matching.specs.Stepping.{OutcomeOf}
use Rattle.matching.specs.Words.{Below, Lawful, Word, among, index_of}
use Rattle.reading.specs.Outside.{ReadAt, read_by, read_to}
use Rattle.history.specs.Readings.{Turn, TurnsOfBytes}
use Rattle.bitmap.specs.Laws.Built.{Holds, level-first, level_tree}
use Rattle.bitmap.specs.Laws.Moves.{moves_in_append, moves_in-few, moves_in_paid}
use Rattle.bitmap.specs.Levels.{by_level}
use Rattle.bitmap.specs.Moves.{moves_in}
use Rattle.bitmap.specs.Slots.{slots_of}
use Rattle.bitmap_reading.specs.Laws.Readings.{MapDone, map-done}
use Rattle.bitmap_reading.specs.Outside.{read_map_of}
use Rattle.bitmap_reading.specs.Reading.{read_map}
use Rattle.bitmap_reading.specs.declared.Standing.{Standing}
use Rattle.bitmap_tables.specs.Building.{map_kinds, map_table_of, words_of}
use Rattle.bitmap_alike.specs.Readings.{AsTags, MapAsBuilt, MapReads, MapRow, MapRowDone, is_long, is_read, map_in_turn, map_row_then, on_map_turn}
use Rattle.bitmap_tables.specs.Refusals.{MapBuilds}
use Rattle.bitmap_tables.specs.Laws.Exact.{map-lawful, map-tags_iff, words-exact}
use Rattle.matching.specs.Tags.{exact}
use Rattle.bitmap_tables.proofs.Laws.Left.{map-left-length}
use Rattle.bitmap_tables.specs.Laws.Left.{map-left-holds}
use Rattle.tagset.specs.Laws.Exact.{accepted_iff, same_good}
use Rattle.matching.specs.Laws.Inputs.{done-by}
use Rattle.matching.specs.Laws.Occurrences.{occurrences_by_append}
use Rattle.matching.specs.Laws.Machine.{longest_hit, longest_nil}
use Rattle.matching.specs.Laws.Words.{among_get_d, index_of_get_d}

-- a state of a tree of prefixes is the one after its own prefix
pub own-prefix : (ps : List Word) → Tree ps → index_of [] ps ≡ 0 → (q : ℕ) → q < length ps → walk ps 0 (get_or ps q []) ≡ q
own-prefix ps t first q h =
    walk_tree ps t first (get_or ps q []) ∙ ap (λ (w : Word). index_of w ps) (whole (get_or ps q []) (among_get_d ps q h)) ∙ index_of_get_d ps q t.distinct h
  where
    whole : (w : Word) → among w ps ≡ true → longest ps w ≡ w
    whole [] e = longest_nil ps
    whole (x ∷ w) e = longest_hit ps x w e

module _ (set run : List ℕ) (ts : List Word) (b : MapAsBuilt set run ts) where
  abbrev pub table : List ℕ
  table = map_table_of set run

  abbrev pub slots : ℕ
  slots = slots_of (length table)

  -- the state after an input
  abbrev pub after : Word → ℕ
  after v = walk (by_level ts) 0 v

  pub lawful : Lawful ts
  lawful = map-lawful set b.bytes ts ((accepted_iff map_kinds set (exact ts)).0 b.tags)

  builds : MapBuilds set (length run) (length ts)
  builds = (map-tags_iff set b.bytes (length run) (length ts)).0 b.answered

  tags_are : builds.tags ≡ ts
  tags_are =
      sym (words-exact builds.tags)
      ∙ ap words_of (same_good (sym ((accepted_iff map_kinds set (exact builds.tags)).1 builds.set) ∙ b.tags))
      ∙ words-exact ts

  size : slots ≡ slots_of (length run)
  size = ap slots_of (map-left-length set run)

  pub held : Holds slots ts table
  held = subst₂ (λ (s : ℕ) (l : List Word). Holds s l table) (sym size) tags_are (map-left-holds set run b.bytes builds)

  state-below : (v : Word) → ltb (after v) slots ≡ true
  state-below v = lt-ltb (after v) slots (omega (arith, lt_tree (by_level ts) (level_tree ts lawful) (level-first ts lawful) v, held.fits))

  -- a reading after v
  abbrev pub read_after : Word → Word → ℕ → ℕ → OutcomeOf Standing
  read_after v piece count list = read_map slots table (after v) count (list / 2) piece

  pub map-read-is : (v piece : Word) (count list : ℕ)
      → read_map_of table (after v) count piece list ≡ read_by (read_after v piece count list) true (ltb largest (count + length piece))
  unfolding read_map_of
  map-read-is v piece count list = ap (λ (t : Bool). read_by (read_after v piece count list) t (ltb largest (count + length piece))) (state-below v)

  pub read_done : (v piece : Word) (count list : ℕ) → Below 256 piece
      → MapDone ts lawful slots table held v count (list / 2) piece (read_after v piece count list)
  read_done v piece count list hp = map-done ts lawful slots table held v piece count (list / 2) hp

  -- it is as the tags say
  pub as_tags : (v piece : Word) (count list : ℕ) → Below 256 piece → AsTags ts v count piece (list / 2) (read_after v piece count list)
  as_tags v piece count list hp =
      let r = read_after v piece count list in
      let d = read_done v piece count list hp in
      let e = done-by (tags_ending ts) piece v count (list / 2) in
      let part : r.taken ≤ length piece = omega (arith, d.taken, e.part) in
      record {
        part = part;
        found = d.found ∙ e.found ∙ ap (λ (m : ℕ). occurrences_from ts v count (take m piece)) (sym d.taken);
        fits = omega (arith, ap length d.found, e.fits);
        stopped = rw (← d.taken, ← d.stop, ← d.found) at e.stopped;
        state = d.state;
        moves = d.moves;
        few = omega (arith, d.moves, moves_in_paid (prefixes ts) (tree ts).closed (take r.taken piece) v, length-take-le r.taken piece part);
      }

  pub reads_so : (v piece : Word) (count list : ℕ) → Below 256 piece
      → MapReads ts v count piece list (read_map_of table (after v) count piece list)
  reads_so v piece count list hp = rw (map-read-is v piece count list) (go (ltb largest (count + length piece)) refl)
    where
      go : (long : Bool) → ltb largest (count + length piece) ≡ long → MapReads ts v count piece list (read_by (read_after v piece count list) true long)
      go true e = is_long (ltb-true _ _ e)
      go false e = is_read (ltb-false _ _ e) (read_after v piece count list) (as_tags v piece count list hp)

  pub start-few : (piece : Word) (count list : ℕ) → Below 256 piece → (r : OutcomeOf Standing) → read_map_of table 0 count piece list ≡ read_to r
      → r.place.moves ≤ r.taken
  unfolding walk
  start-few piece count list hp r e = go (read_map_of table 0 count piece list) (reads_so [] piece count list hp) e
    where
      go : (x : ReadAt Standing) → MapReads ts [] count piece list x → x ≡ read_to r → r.place.moves ≤ r.taken
      go x (is_long l) q = absurd (let z : ◌≡◌ {A = ℕ} 0 1 = cc in omega arith)
      go x (is_read l o a) q =
          let same : o ≡ r = cc in
          subst (λ (y : OutcomeOf Standing). y.place.moves ≤ y.taken) same
          (omega (arith, a.few, ap {B = ℕ} length (longest_nil (prefixes ts))))

  -- ---- a row of them

  abbrev pub map_row_after : Word → List Turn → MapRow
  map_row_after v turns = map_in_turn table (after v) (length v) turns

  abbrev pub map_turn : Word → Turn → OutcomeOf Standing
  map_turn v t = read_after v t.piece (length v) t.list

  pub data MapRowBy (v : Word) (t : Turn) (turns : List Turn) : MapRow → Type 0 where
    map_row_long : largest < length v + length t.piece → MapRowBy v t turns (map_row_after v turns)
    map_row_read : length v + length t.piece ≤ largest
        → MapRowBy v t turns (map_row_then t.piece (map_turn v t) (map_row_after (v ++ take (map_turn v t).taken t.piece) turns))

  pub map_row_by : (v : Word) (t : Turn) (turns : List Turn) → Below 256 t.piece → MapRowBy v t turns (map_row_after v (t ∷ turns))
  unfolding map_in_turn
  map_row_by v t turns hp = subst (λ (x : ReadAt Standing). MapRowBy v t turns (by x)) (sym (map-read-is v t.piece (length v) t.list))
      (go (ltb largest (length v + length t.piece)) refl)
    where
      by : ReadAt Standing → MapRow
      by x = on_map_turn x t.piece (map_row_after v turns) (λ r. map_in_turn table r.place.state (length v + r.taken) turns)

      r : OutcomeOf Standing
      r = map_turn v t

      d : MapDone ts lawful slots table held v (length v) (t.list / 2) t.piece (map_turn v t)
      d = read_done v t.piece (length v) t.list hp

      part : (map_turn v t).taken ≤ length t.piece
      part = (as_tags v t.piece (length v) t.list hp).part

      on : length (v ++ take r.taken t.piece) ≡ length v + r.taken
      on = length-append v (take r.taken t.piece) ∙ ap (λ (m : ℕ). length v + m) (length-take-le r.taken t.piece part)

      go : (long : Bool) → ltb largest (length v + length t.piece) ≡ long → MapRowBy v t turns (by (read_by (map_turn v t) true long))
      go true e = map_row_long (ltb-true _ _ e)
      go false e =
          subst (λ (w : MapRow). MapRowBy v t turns (map_row_then t.piece (map_turn v t) w))
          (ap₂ (λ (q m : ℕ). map_in_turn table q m turns) (sym d.state) on) (map_row_read (ltb-false _ _ e))

  -- a row of readings after v
  pub record RowAfter (v : Word) (w : MapRow) : Type 0 where
    pub found : w.found ≡ occurrences_from ts v (length v) w.taken
    pub state : w.state ≡ after (v ++ w.taken)
    pub moves : w.moves ≡ moves_in (prefixes ts) v w.taken

  pub row_after_lem : (turns : List Turn) → TurnsOfBytes turns → (v : Word) → RowAfter v (map_row_after v turns)
  unfolding map_in_turn moves_in occurrences_by
  row_after_lem [] h v = record { found = refl; state = ap after (sym (append-nil v)); moves = refl }
  row_after_lem (t ∷ turns) h v = go _ (map_row_by v t turns h.0) (row_after_lem turns h.1)
    where
      go : (w : MapRow) → MapRowBy v t turns w → ((u : Word) → RowAfter u (map_row_after u turns)) → RowAfter v w
      go w (map_row_long l) more = more v
      go w (map_row_read l) more =
          let part = take (map_turn v t).taken t.piece in
          let a = as_tags v t.piece (length v) t.list h.0 in
          let x = map_row_after (v ++ part) turns in
          let i = more (v ++ part) in
          record {
            found = ap₂ (λ (x y : List Occurrence). x ++ y) a.found
                (i.found ∙ ap (λ (c : ℕ). occurrences_from ts (v ++ part) c x.taken) (length-append v part))
                ∙ sym (occurrences_by_append (tags_ending ts) v (length v) part x.taken);
            state = i.state ∙ ap after (append_assoc v part x.taken);
            moves = ap₂ ◌+◌ a.moves i.moves ∙ sym (moves_in_append (prefixes ts) part v x.taken);
          }

  pub row_from-start : (turns : List Turn) → TurnsOfBytes turns → MapRowDone ts (map_in_turn table 0 0 turns)
  unfolding walk
  row_from-start turns h =
      let d = row_after_lem turns h [] in
      record {
        found = d.found;
        state = d.state;
        moves = d.moves;
        few = omega (arith, d.moves, moves_in-few (prefixes ts) (tree ts).closed (map_in_turn table 0 0 turns).taken);
      }
