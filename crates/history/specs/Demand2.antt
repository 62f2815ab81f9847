-- DEMAND 2: what readings over built tables report, of an approval read from its opening in any pieces. Shown for any layout of machines that read a
-- byte's eight bits; the split and the whole-byte layout are two. What the desk's own feeds answer stands in Answers.antt.
use Rattle.std.specs.Prelude.{◌+◌, ◌-◌, ◌/◌, ◌<◌, ◌≤◌, suc, ℕ, Bool, false, true, ◌↔◌, ◌≡◌, refl, ltb, length, take}
use mathlib.Core.List.{List, Memᴰ, [], ◌++◌, ◌∷◌}
use Rattle.std.proofs.Common.{◌∙◌, ap, subst, subst₂, sym, le_trans, arith, length-take-le, take-take, ltb-false, ltb-true}
use Rattle.std.proofs.Math.Seq.{take-append-add}
use Rattle.history.specs.Laws.Numbers.{ltb_no}
use Rattle.history.specs.Laws.Rows.{AlikeRows, DoneIn, alike_rows, done-demanded, done_in, expected_in-advances, lawful, read_did, read_is, row_done}
use Rattle.history.specs.Readings.{AsBuilt, DemandedRead, Row, Turn, TurnsOfBytes, in_turn, is_long, is_read}
use Rattle.matching.specs.Enough.{EnoughIn}
use Rattle.matching.specs.Laws.Layouts.{Sliced, place_in-start}
use Rattle.matching.specs.Laws.Occurrences.{occurrences_by_has, occurrences_by_only}
use Rattle.matching.specs.Laws.Tags.{at_iff, lawful-few}
use Rattle.matching.specs.Limits.{largest, most_tags}
use Rattle.matching.specs.Occurrence.{Occurrence}
use Rattle.matching.specs.Parts.{Layout, Runs, expected_in, kinds_for, lengths, place_in, start_in}
use Rattle.matching.specs.Reading.{Outcome}
use Rattle.matching.specs.Tags.{Tags, found_from, found_in, tag_count, tag_ends, tags_at}
use Rattle.matching.specs.Words.{Below, Word}
use Rattle.reading.specs.Outside.{read_by, read_of, read_to}
use Rattle.tables.specs.Building.{tables_of}
use Rattle.tables.specs.Laws.Exact.{tags_iff}
use Rattle.tagset.specs.Grammar.{good_set, set_of}
use Rattle.tagset.specs.Laws.Exact.{accepted_iff, same_good}

-- what `Demanded` says is found: of the occurrences that end in the first m bytes of a piece after v, the record (e, i) is one exactly if byte e,
-- counted from the opening, is one of those, and tag i ends the first e bytes, both read by its kind
pub found_in_lem : (tags : Tags) (v piece : Word) (m : ℕ) → m ≤ length piece → (e i : ℕ)
    → Memᴰ (record { end = e; tag = i }) (found_from tags v (length v) (take m piece))
    ↔ ((length v < e) × (e ≤ length v + m) × (tag_ends tags i (take e (v ++ piece)) ≡ true))
found_in_lem tags v piece m h e i = (there, back)
  where
    size : length (take m piece) ≡ m
    size = length-take-le m piece h

    -- the first e bytes, where j of the piece come before the last of them
    first : (j : ℕ) → e ≡ suc (length v + j) → j < m → v ++ take (suc j) (take m piece) ≡ take e (v ++ piece)
    first j q l =
        let z : length v + suc j ≡ e = omega (arith, q) in
        ap {B = Word} (λ (u : Word). v ++ u) (take-take (suc j) m piece l) ∙ sym (take-append-add v piece (suc j)) ∙ ap (λ (x : ℕ). take x (v ++ piece)) z

    there : Memᴰ (record { end = e; tag = i }) (found_from tags v (length v) (take m piece))
        → (length v < e) × (e ≤ length v + m) × (tag_ends tags i (take e (v ++ piece)) ≡ true)
    there x =
        let r = occurrences_by_only (tags_at tags) (take m piece) v (length v) (record { end = e; tag = i }) x in
        let l : r.0 < m = omega (arith, r.1.inside, size) in (
          omega (arith, r.1.counted),
          omega (arith, r.1.counted, l),
          subst (λ (u : Word). tag_ends tags i u ≡ true) (first r.0 r.1.counted l)
              ((at_iff tags (v ++ take (suc r.0) (take m piece)) i).0 r.1.there),
        )

    back : (length v < e) × (e ≤ length v + m) × (tag_ends tags i (take e (v ++ piece)) ≡ true)
        → Memᴰ (record { end = e; tag = i }) (found_from tags v (length v) (take m piece))
    back z =
        let j = e - suc (length v) in
        let q : e ≡ suc (length v + j) = omega (arith, z.0) in
        let l : j < m = omega (arith, z.0, z.1) in
        let t = subst (λ (u : Word). tag_ends tags i u ≡ true) (sym (first j q l)) z.2 in
        occurrences_by_has (tags_at tags) (take m piece) v (length v) (record { end = e; tag = i }) j
        (record { inside = omega (arith, l, size); counted = q; there = (at_iff tags (v ++ take (suc j) (take m piece)) i).1 t })

module _ (layout : Layout) (set : List ℕ) (runs : Runs) (tags : Tags) (b : AsBuilt layout set runs tags) where
  abbrev tables : Runs
  tables = tables_of layout set runs

  -- EACH READING, after any input, is as the demand has it, its new place too
  pub each-reading : (v piece : Word) (list : ℕ) → Below 256 v → Below 256 piece
      → DemandedRead layout tags v piece list (read_of layout tables (place_in layout tags v) (length v) piece list)
  each-reading v piece list hv hp = subst (DemandedRead layout tags v piece list) (sym (read_is layout set runs tags b v piece (length v) list hv hp))
      (go (ltb largest (length v + length piece)) refl)
    where
      go : (long : Bool) → ltb largest (length v + length piece) ≡ long
          → DemandedRead layout tags v piece list (read_by (expected_in layout tags v (length v) (list / 2) piece) true long)
      go true e = is_long (ltb-true _ _ e)
      go false e =
          let d = done_in layout tags v (list / 2) piece in
          is_read (ltb-false _ _ e) _ (done-demanded layout tags v piece (list / 2) _ d) d.place

  -- WHAT ONE READING FINDS: after the input v, counted from the opening, it writes the record (e, i) exactly if byte e is one that it takes, and tag i
  -- ends the first e bytes
  pub found_iff : (v piece : Word) (list : ℕ) → Below 256 v → Below 256 piece → (r : Outcome)
      → read_of layout tables (place_in layout tags v) (length v) piece list ≡ read_to r → (e i : ℕ)
      → Memᴰ (record { end = e; tag = i }) r.found
      ↔ ((length v < e) × (e ≤ length v + r.taken) × (tag_ends tags i (take e (v ++ piece)) ≡ true))
  found_iff v piece list hv hp r q e i =
      subst (λ (x : Outcome). Found_iff x) (sym (read_did layout set runs tags b v piece list hv hp r q))
      (subst (λ (l : List Occurrence). Memᴰ (record { end = e; tag = i }) l ↔ Here x.taken) (sym d.found)
      (found_in_lem tags v piece x.taken d.part e i))
    where
      x : Outcome
      x = expected_in layout tags v (length v) (list / 2) piece

      d : DoneIn layout tags v (list / 2) piece (expected_in layout tags v (length v) (list / 2) piece)
      d = done_in layout tags v (list / 2) piece

      Here : ℕ → Type 0
      Here m = (length v < e) × (e ≤ length v + m) × (tag_ends tags i (take e (v ++ piece)) ≡ true)

      Found_iff : Outcome → Type 0
      Found_iff y = Memᴰ (record { end = e; tag = i }) y.found ↔ Here y.taken

  -- PROGRESS outside the desk: no byte has more than 16 matches, so with room for 16 records a piece that is not empty and not LONG advances by at
  -- least one byte
  pub advances : (v : Word) (c : ℕ) (piece : Word) (list : ℕ) → Below 256 v → Below 256 (c ∷ piece) → most_tags ≤ list / 2
      → length v + length (c ∷ piece) ≤ largest
      → (r : Outcome) × (read_of layout tables (place_in layout tags v) (length v) (c ∷ piece) list ≡ read_to r) × (0 < r.taken)
  advances v c piece list hv hp some short = (
    expected_in layout tags v (length v) (list / 2) (c ∷ piece),
    read_is layout set runs tags b v (c ∷ piece) (length v) list hv hp
        ∙ ap (read_by (expected_in layout tags v (length v) (list / 2) (c ∷ piece)) true) (ltb_no _ _ short),
    expected_in-advances layout tags c piece v (length v) (list / 2) (le_trans (lawful-few tags (lawful layout set runs tags b)) some),
  )

  -- IN ANY PIECES: of any row of readings from the start place, with lists of any length, the records are the occurrences of the tags in the
  -- bytes taken; and `tag-found_iff` says of those that each is a tag which ends at that byte, and that none is left out
  pub however_cut : (turns : List Turn) → TurnsOfBytes turns
      → (in_turn layout tables (start_in layout) 0 turns).found ≡ found_in tags (in_turn layout tables (start_in layout) 0 turns).taken
  however_cut turns h =
      subst (λ (q : List ℕ). (in_turn layout tables q 0 turns).found ≡ found_in tags (in_turn layout tables q 0 turns).taken) (place_in-start layout tags)
      (row_done layout set runs tags b turns h [] tt).found

  -- and the place then is the place after those bytes, so that the next reading is as demanded too
  pub where_it_stands : (turns : List Turn) → TurnsOfBytes turns
      → (in_turn layout tables (start_in layout) 0 turns).place ≡ place_in layout tags (in_turn layout tables (start_in layout) 0 turns).taken
  where_it_stands turns h =
      subst (λ (q : List ℕ). (in_turn layout tables q 0 turns).place ≡ place_in layout tags (in_turn layout tables q 0 turns).taken) (place_in-start layout tags)
      (row_done layout set runs tags b turns h [] tt).place

-- ALIKE: over the tables of the same tags in two layouts, the same row of readings takes the same bytes, finds the same records and stops for the
-- same reasons
module _ (layout layout' : Layout) (set set' : List ℕ) (runs runs' : Runs) (tags : Tags) (b : AsBuilt layout set runs tags)
    (b' : AsBuilt layout' set' runs' tags) where
  abbrev one : List Turn → Row
  one turns = in_turn layout (tables_of layout set runs) (start_in layout) 0 turns

  abbrev other : List Turn → Row
  other turns = in_turn layout' (tables_of layout' set' runs') (start_in layout') 0 turns

  from_start : (turns : List Turn) → TurnsOfBytes turns → AlikeRows (one turns) (other turns)
  from_start turns h =
      subst₂ (λ (p q : List ℕ). AlikeRows (in_turn layout (tables_of layout set runs) p 0 turns) (in_turn layout' (tables_of layout' set' runs') q 0 turns))
      (place_in-start layout tags) (place_in-start layout' tags) (alike_rows layout layout' set set' runs runs' tags b b' turns h [] tt)

  pub alike_taken : (turns : List Turn) → TurnsOfBytes turns → (one turns).taken ≡ (other turns).taken
  alike_taken turns h = (from_start turns h).taken

  pub alike_found : (turns : List Turn) → TurnsOfBytes turns → (one turns).found ≡ (other turns).found
  alike_found turns h = (from_start turns h).found

  pub alike_stop : (turns : List Turn) → TurnsOfBytes turns → (one turns).stops ≡ (other turns).stops
  alike_stop turns h = (from_start turns h).stops

-- FOR SPACE: a good set of bytes is accepted, and so leaves its tables, exactly if each machine of each part has at least as many slots in its run as
-- distinct prefixes; that else the lowest machine short of slots is named, with the states that it needs, is `table_iff` of building
pub for_space : (layout : Layout) → Sliced layout → (set : List ℕ) (runs : Runs) → Below 256 set → (tags : Tags) → set_of (kinds_for layout) set ≡ good_set tags
    → AsBuilt layout set runs tags ↔ EnoughIn layout tags (lengths runs)
unfolding tag_count
for_space layout cut set runs bytes tags e = (
  λ b. (let t = (tags_iff layout set (lengths runs) (length tags)).0 b.answered in
      subst (λ (x : Tags). EnoughIn layout x (lengths runs)) (same_good (sym ((accepted_iff (kinds_for layout) set t.tags).1 t.set) ∙ e)) t.enough),
  λ f. record {
    sliced = cut;
    bytes = bytes;
    good = e;
    answered = (tags_iff layout set (lengths runs) (length tags)).1
        (record { tags = tags; set = (accepted_iff (kinds_for layout) set tags).0 e; counted = refl; enough = f });
  },
)
