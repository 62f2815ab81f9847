-- Over a table that holds the machine, a reading takes, finds and stops as the tags say, and its moves are those of the definition.
use Rattle.std.specs.Prelude.{◌+◌, ◌<◌, ℕ, ◌≡◌, refl, get_or, length}
use mathlib.Core.List.{List, [], ◌++◌, ◌∷◌}
use Rattle.std.proofs.Common.{◌∙◌, sym, arith}
use Rattle.std.proofs.Math.Path.{ap}
use Rattle.std.proofs.Math.ListN.{take}
use Rattle.matching.specs.Laws.Bits.{ones_of-tags_ending}
use Rattle.matching.specs.Laws.Inputs.{Follows, done-by, follows, input_step_lem}
use Rattle.matching.specs.Laws.Machine.{walk_snoc}
use Rattle.matching.specs.Laws.Prefixes.{lt_tree, word_tree}
use Rattle.matching.proofs.Laws.Prefixes.{vector_tree}
use Rattle.matching.specs.Laws.Stepping.{both_go}
use Rattle.matching.specs.Machine.{longest, next, prefixes, walk}
use Rattle.matching.specs.Occurrence.{tags_ending}
use Rattle.matching.specs.Reading.{ones_of}
use Rattle.matching.specs.Stepping.{OutcomeOf, input_step, read_by}
use Rattle.matching.specs.Words.{Below, Lawful, Word}
use Rattle.bitmap.specs.Laws.Built.{Holds, all_settled, led, level-first, level-tags, level_tree}
use Rattle.bitmap.specs.Laws.Levels.{by_level-same}
use Rattle.bitmap.specs.Laws.Moves.{moves-longest, moves_in_append, moves_in-same, moves_in_snoc}
use Rattle.bitmap.specs.Levels.{by_level}
use Rattle.bitmap.specs.Moves.{moves_in, moves_on}
use Rattle.bitmap.specs.Steps.{To, step, vector_at}
use Rattle.bitmap_reading.specs.Laws.Steps.{map-goes}
use Rattle.bitmap_reading.specs.Reading.{map_step, read_map}
use Rattle.bitmap_reading.specs.declared.Standing.{Standing}

module _ (ts : List Word) (lawful : Lawful ts) (s : ℕ) (table : List ℕ) (held : Holds s ts table) where
  abbrev ps : List Word
  ps = by_level ts

  -- the state after an input, from the start
  abbrev after : Word → ℕ
  after v = walk ps 0 v

  inside : (v : Word) → after v < length ps
  inside v = lt_tree ps (level_tree ts lawful) (level-first ts lawful) v

  tags-after : (v : Word) → ones_of 0 16 (vector_at table (after v)) ≡ tags_ending ts v
  tags-after v =
      ap (ones_of 0 16) (held.mark (after v) (inside v) ∙ vector_tree ps (level_tree ts lawful) (level-first ts lawful) ts (level-tags ts lawful) v)
      ∙ ones_of-tags_ending ts v lawful.few

  -- one byte: to the state after it, with the definition's moves
  leads : (v : Word) (c : ℕ) → c < 256 → step s table (after v) c ≡ To (after (v ++ c ∷ [])) (moves_on ps v c)
  leads v c hc =
      let t = level_tree ts lawful in
      let on : next ps (after v) c ≡ after (v ++ c ∷ []) = sym (walk_snoc ps 0 v c) in
      let word : get_or ps (after v) [] ≡ longest ps v = word_tree ps t (level-first ts lawful) v in
      let moves : moves_on ps (get_or ps (after v) []) c ≡ moves_on ps v c = ap (λ (w : Word). moves_on ps w c) word ∙ sym (moves-longest ps t.closed v c) in
      led ts lawful s (length ps) table held.fits (all_settled s ts table held) (after v) c (inside v) hc
      ∙ rw (on, moves) refl

  module _ (v : Word) where
    -- a place stands for an input: its state is the one after it, and its moves are those since v
    abbrev Stands : Standing → Word → Type 0
    Stands p u = (p.state ≡ after u) × (p.moves + moves_in ps [] v ≡ moves_in ps [] u)

    stands_on : Follows 256 (map_step s table) (tags_ending ts) Stands
    stands_on p u c r hc =
        let e : step s table p.state c ≡ To (after (u ++ c ∷ [])) (moves_on ps u c) = ap (λ (q : ℕ). step s table q c) r.0 ∙ leads u c hc in
        rw (map-goes s table p.state p.moves c (after (u ++ c ∷ [])) (moves_on ps u c) e, tags-after (u ++ c ∷ []), input_step_lem (tags_ending ts) u c)
        (both_go (record { state = after (u ++ c ∷ []); moves = p.moves + moves_on ps u c }) (u ++ c ∷ []) (tags_ending ts (u ++ c ∷ []))
        (refl, omega (arith, r.1, moves_in_snoc ps u c)))

    -- after the input v, a reading r of w does what the reading of the tags does
    pub record MapDone (count room : ℕ) (w : Word) (r : OutcomeOf Standing) : Type 0 where
      pub taken : r.taken ≡ (read_by (input_step (tags_ending ts)) v count room w).taken
      pub stop : r.stop ≡ (read_by (input_step (tags_ending ts)) v count room w).stop
      pub found : r.found ≡ (read_by (input_step (tags_ending ts)) v count room w).found
      pub state : r.place.state ≡ after (v ++ take r.taken w)
      pub moves : r.place.moves ≡ moves_in (prefixes ts) v (take r.taken w)

    pub map-done : (w : Word) (count room : ℕ) → Below 256 w → MapDone count room w (read_map s table (after v) count room w)
    unfolding read_map
    map-done w count room hw =
        let t =
        follows 256 (map_step s table) (tags_ending ts) Stands stands_on w (record { state = after v; moves = 0 }) v count room (refl, omega arith) hw in
        let r = read_by (map_step s table) (record { state = after v; moves = 0 }) count room w in
        let d = done-by (tags_ending ts) w v count room in
        let u : Word = v ++ take r.taken w in
        let at : (read_by (input_step (tags_ending ts)) v count room w).place ≡ u = d.place ∙ ap (λ (k : ℕ). v ++ take k w) (sym t.taken) in
        record {
          taken = t.taken;
          stop = t.stop;
          found = t.found;
          state = t.place.0 ∙ ap after at;
          moves = omega (arith, t.place.1, ap (moves_in ps []) at, moves_in_append ps v [] (take r.taken w))
              ∙ moves_in-same ps (prefixes ts) (by_level-same ts lawful.short lawful.bytes) (take r.taken w) v;
        }
