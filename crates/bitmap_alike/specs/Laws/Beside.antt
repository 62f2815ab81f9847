-- Readings over built tables in both layouts, side by side.
use Rattle.std.specs.Prelude.{◌+◌, ◌/◌, ℕ, Bool, false, true, ◌≡◌, refl, ltb, get_or, length}
use mathlib.Core.List.{List, [], ◌++◌, ◌∷◌, append-nil}
use Rattle.std.proofs.Common.{◌∙◌, ap₂, sym, arith, ltb-false, ltb-true}
use Rattle.std.proofs.Math.Path.{ap, fun_ext, subst}
use Rattle.std.proofs.Math.ListN.{take}
use Rattle.matching.specs.Kinds.{exact_kind}
use Rattle.matching.specs.Laws.Expected.{expected_done}
use Rattle.matching.specs.Laws.Kinds.{word_as-exact}
use Rattle.matching.specs.Laws.Layouts.{place_in-start}
use Rattle.matching.specs.Laws.Tags.{at_exact, of_kind-exact}
use Rattle.matching.specs.Laws.Prefixes.{lt_tree, word_tree}
use Rattle.matching.proofs.Laws.Prefixes.{index_of_nil, tree}
use Rattle.matching.specs.Laws.Slices.{map-byte, reduced-byte}
use Rattle.matching.proofs.Laws.Prefixes.{tree}
use Rattle.matching.specs.Limits.{largest}
use Rattle.matching.specs.Machine.{longest, prefixes, walk}
use Rattle.matching.specs.Occurrence.{Occurrence, tags_ending}
use Rattle.matching.specs.Parts.{expected_in, place_in, start_in, whole_layout}
use Rattle.matching.specs.Reading.{Outcome, place_after}
use Rattle.matching.specs.Stepping.{OutcomeOf, expected_by, on_place}
use Rattle.matching.specs.Tags.{exact, of_kind, tags_at, word_as}
use Rattle.matching.specs.Words.{AllBelow, Below, Lawful, Word}
use Rattle.matching.specs.declared.Stop.{Stop}
use Rattle.reading.specs.Outside.{read_by, read_of}
use Rattle.tables.specs.Building.{tables_of}
use Rattle.matching.specs.Laws.Words.{below_append, below-take}
use Rattle.history.specs.Laws.Rows.{RowBy, read_is, row_by, row_done, row_long, row_read, row_after, turn_of}
use Rattle.history.specs.Readings.{AsBuilt, Row, Turn, TurnsOfBytes, in_turn, row_then}
use Rattle.bitmap.specs.Laws.Built.{level-first, level_tree, same_word}
use Rattle.bitmap.specs.Levels.{by_level}
use Rattle.bitmap_reading.specs.Outside.{read_map_of}
use Rattle.bitmap_reading.specs.declared.Standing.{Standing}
use Rattle.bitmap_tables.specs.Building.{map_table_of}
use Rattle.bitmap_alike.specs.Readings.{AlikeReads, AlikeToWhole, MapAsBuilt, MapRow, SamePrefix, both_long, both_read, map_in_turn, map_row_then}
use Rattle.bitmap_alike.specs.Laws.Alone.{MapRowBy, lawful, map-read-is, map_row_by, map_row_long, map_row_read, map_row_after, map_turn, read_done}
use Rattle.bitmap_alike.specs.Laws.Alone.{read_after, row_after_lem}

-- the whole-byte machine's place is one state
place-one : (ts : List Word) → AllBelow 256 ts → (u : Word) → Below 256 u → place_after 8 ts 0 1 u ≡ walk (prefixes ts) 0 u ∷ []
unfolding place_after
place-one ts b u hu = ap₂ (λ (t : List Word) (x : Word). walk (prefixes t) 0 x ∷ []) (reduced-byte ts b) (map-byte u hu)

-- the whole-byte layout's place after an input, of exact tags
place-whole : (ts : List Word) (u : Word) → place_in whole_layout (exact ts) u ≡ place_after 8 ts 0 1 u
unfolding place_in
place-whole ts u =
    append-nil (place_after 8 (of_kind exact_kind (exact ts)) 0 1 (word_as exact_kind u))
    ∙ ap₂ (λ (t : List Word) (x : Word). place_after 8 t 0 1 x) (of_kind-exact ts) (word_as-exact u)

-- what is found of exact tags is what is found of their words
expected_whole : (ts : List Word) (v : Word) (count room : ℕ) (piece : Word)
    → expected_in whole_layout (exact ts) v count room piece ≡ expected_by (place_in whole_layout (exact ts)) (tags_ending ts) v count room piece
unfolding expected_in
expected_whole ts v count room piece =
    ap (λ (f : Word → List ℕ). expected_by (place_in whole_layout (exact ts)) f v count room piece) (fun_ext (at_exact ts))

module _ (set run run' : List ℕ) (ts : List Word) (b : MapAsBuilt set run ts) (b' : AsBuilt whole_layout set (run' ∷ []) (exact ts)) where
  abbrev law : Lawful ts
  law = lawful set run ts b

  -- the prefixes of the two places after an input
  same-prefix : (u : Word) → Below 256 u → (q : ℕ) (p : List ℕ) → q ≡ walk (by_level ts) 0 u → p ≡ place_in whole_layout (exact ts) u → SamePrefix ts u q p
  same-prefix u hu q p eq ep =
      let word : get_or (prefixes ts) (walk (prefixes ts) 0 u) [] ≡ longest (prefixes ts) u = word_tree (prefixes ts) (tree ts) (index_of_nil ts) u in
      record {
        whole = ep ∙ place-whole ts u ∙ place-one ts law.bytes u hu;
        of-state = ap (λ (x : ℕ). get_or (by_level ts) x []) eq ∙ same_word ts law u ∙ word;
        of-place = word;
        is_state = omega (arith, eq, lt_tree (by_level ts) (level_tree ts law) (level-first ts law) u);
      }

  module _ (v piece : Word) (count list : ℕ) (hp : Below 256 piece) where
    abbrev mine : OutcomeOf Standing
    mine = read_after set run ts b v piece count list

    abbrev theirs : Outcome
    theirs = expected_in whole_layout (exact ts) v count (list / 2) piece

    taken-same : mine.taken ≡ theirs.taken
    unfolding expected_by on_place
    taken-same = (read_done set run ts b v piece count list hp).taken ∙ ap (λ (x : Outcome). x.taken) (sym (expected_whole ts v count (list / 2) piece))

    found-same : mine.found ≡ theirs.found
    unfolding expected_by on_place
    found-same = (read_done set run ts b v piece count list hp).found ∙ ap (λ (x : Outcome). x.found) (sym (expected_whole ts v count (list / 2) piece))

    stop-same : mine.stop ≡ theirs.stop
    unfolding expected_by on_place
    stop-same = (read_done set run ts b v piece count list hp).stop ∙ ap (λ (x : Outcome). x.stop) (sym (expected_whole ts v count (list / 2) piece))

    bytes : Below 256 v → Below 256 (v ++ take mine.taken piece)
    bytes hv = below_append 256 v (take mine.taken piece) hv (below-take 256 mine.taken piece hp)

    place_is : theirs.place ≡ place_in whole_layout (exact ts) (v ++ take mine.taken piece)
    unfolding expected_in
    place_is =
        (expected_done (place_in whole_layout (exact ts)) (tags_at (exact ts)) piece v count (list / 2)).place
        ∙ ap (λ (m : ℕ). place_in whole_layout (exact ts) (v ++ take m piece)) (sym taken-same)

  pub alike_piece : (v piece : Word) (count list : ℕ) → Below 256 v → Below 256 piece
      → AlikeReads ts v count piece (read_map_of (map_table_of set run) (walk (by_level ts) 0 v) count piece list)
      (read_of whole_layout (tables_of whole_layout set (run' ∷ [])) (place_in whole_layout (exact ts) v) count piece list)
  alike_piece v piece count list hv hp =
      rw (map-read-is set run ts b v piece count list, read_is whole_layout set (run' ∷ []) (exact ts) b' v piece count list hv hp)
      (go (ltb largest (count + length piece)) refl)
    where
      r : OutcomeOf Standing
      r = mine v piece count list hp

      go : (long : Bool) → ltb largest (count + length piece) ≡ long
          → AlikeReads ts v count piece (read_by (mine v piece count list hp) true long) (read_by (theirs v piece count list hp) true long)
      go true e = both_long (ltb-true _ _ e)
      go false e =
          both_read r (theirs v piece count list hp) (ltb-false _ _ e) (taken-same v piece count list hp) (found-same v piece count list hp)
          (stop-same v piece count list hp)
          (same-prefix (v ++ take r.taken piece) (bytes v piece count list hp hv) _ _ (read_done set run ts b v piece count list hp).state
          (place_is v piece count list hp))

  -- two rows after v
  record AlikeAfter (x : MapRow) (y : Row) : Type 0 where
    taken : x.taken ≡ y.taken
    found : x.found ≡ y.found
    stops : x.stops ≡ y.stops
    bytes_are : Below 256 x.taken

  alike_after : (turns : List Turn) → TurnsOfBytes turns → (v : Word) → Below 256 v
      → AlikeAfter (map_row_after set run ts b v turns) (row_after whole_layout set (run' ∷ []) (exact ts) v turns)
  unfolding in_turn map_in_turn
  alike_after [] h v hv = record { taken = refl; found = refl; stops = refl; bytes_are = tt }
  alike_after (t ∷ turns) h v hv =
      go _ (map_row_by set run ts b v t turns h.0) _ (row_by whole_layout set (run' ∷ []) (exact ts) b' v t turns hv h.0) (alike_after turns h.1)
    where
      r : OutcomeOf Standing
      r = map_turn set run ts b v t

      part : Word
      part = take r.taken t.piece

      part-is : take r.taken t.piece ≡ take (turn_of whole_layout (exact ts) v t).taken t.piece
      part-is = ap (λ (m : ℕ). take m t.piece) (taken-same v t.piece (length v) t.list h.0)

      on : (x : MapRow) (y : Row) → AlikeAfter x y → AlikeAfter (map_row_then t.piece r x) (row_then t.piece (turn_of whole_layout (exact ts) v t) y)
      on x y i = record {
        taken = ap₂ (λ (m : ℕ) (w : Word). take m t.piece ++ w) (taken-same v t.piece (length v) t.list h.0) i.taken;
        found = ap₂ (λ (l m : List Occurrence). l ++ m) (found-same v t.piece (length v) t.list h.0) i.found;
        stops = ap₂ (λ (s : Stop) (l : List Stop). s ∷ l) (stop-same v t.piece (length v) t.list h.0) i.stops;
        bytes_are = below_append 256 part x.taken (below-take 256 r.taken t.piece h.0) i.bytes_are;
      }

      go : (x : MapRow) → MapRowBy set run ts b v t turns x → (y : Row) → RowBy whole_layout set (run' ∷ []) (exact ts) b' v t turns y
          → ((u : Word) → Below 256 u → AlikeAfter (map_row_after set run ts b u turns) (row_after whole_layout set (run' ∷ []) (exact ts) u turns)) → AlikeAfter x y
      go x (map_row_long l) y (row_long l') more = more v hv
      go x (map_row_long l) y (row_read l') more = absurd (omega (arith, l, l'))
      go x (map_row_read l) y (row_long l') more = absurd (omega (arith, l, l'))
      go x (map_row_read l) y (row_read l') more =
          on _ _
          (subst (λ (u : Word). AlikeAfter (map_row_after set run ts b (v ++ part) turns) (row_after whole_layout set (run' ∷ []) (exact ts) (v ++ u) turns)) part-is
          (more (v ++ part) (bytes v t.piece (length v) t.list h.0 hv)))

  pub alike_from-start : (turns : List Turn) → TurnsOfBytes turns
      → AlikeToWhole ts (map_in_turn (map_table_of set run) 0 0 turns) (in_turn whole_layout (tables_of whole_layout set (run' ∷ [])) (start_in whole_layout) 0 turns)
  unfolding walk
  alike_from-start turns h =
      let e = alike_after turns h [] tt in
      let d = row_done whole_layout set (run' ∷ []) (exact ts) b' turns h [] tt in
      let x = map_in_turn (map_table_of set run) 0 0 turns in
      subst (λ (p : List ℕ). AlikeToWhole ts x (in_turn whole_layout (tables_of whole_layout set (run' ∷ [])) p 0 turns)) (place_in-start whole_layout (exact ts))
      (record {
        taken = e.taken;
        found = e.found;
        stops = e.stops;
        prefix = same-prefix x.taken e.bytes_are _ _ (row_after_lem set run ts b turns h []).state
            (d.place ∙ ap (place_in whole_layout (exact ts)) (sym e.taken));
      })
