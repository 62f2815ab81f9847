-- Readings over tables as building left them: each is as expected, and what a row of them comes to.
use Rattle.matching.specs.declared.Stop.TheVariants as S
use Rattle.tables.specs.Laws.Left as L
use Rattle.std.specs.Prelude.{◌+◌, ◌/◌, ◌<◌, ◌≤◌, suc, ℕ, Bool, false, true, ◌⊎◌, ◌≡◌, ltb}
use mathlib.Core.List.{List, [], ◌++◌, ◌∷◌, append_assoc, append-nil}
use Rattle.std.proofs.Common.{inl, inr, ◌∙◌, sym, le_of_eq, arith, length-append, length-take-le, take_all, ltb-false, ltb-true}
use Rattle.std.proofs.Math.Path.{ap, ap₂, refl, subst}
use Rattle.std.proofs.Math.ListN.{length, take}
use Rattle.matching.specs.Laws.Words.{below_append, below-take}
use Rattle.history.specs.Laws.Numbers.{differ}
use Rattle.history.specs.Readings.{AsBuilt, Demanded, Row, Turn, TurnsOfBytes, in_turn, on_turn, row_then, stopped_full, took_all}
use Rattle.matching.specs.Laws.Expected.{Alike, Done, expected_advances, expected_alike, expected_done}
use Rattle.matching.specs.Laws.Layouts.{LeftIn}
use Rattle.matching.proofs.Laws.Layouts.{place_in-below}
use Rattle.matching.specs.Laws.Occurrences.{occurrences_by_append}
use Rattle.matching.specs.Laws.Parts.{AllTaken}
use Rattle.matching.proofs.Laws.Parts.{read_left}
use Rattle.matching.specs.Laws.Tags.{at-few}
use Rattle.matching.specs.Limits.{largest}
use Rattle.matching.specs.Occurrence.{Occurrence, occurrences_by}
use Rattle.matching.specs.Parts.{Layout, Runs, expected_in, place_in}
use Rattle.matching.specs.Reading.{Outcome}
use Rattle.matching.specs.Tags.{LawfulTags, Tags, found_from, tag_count, tags_at}
use Rattle.matching.specs.Words.{Below, Word}
use Rattle.matching.specs.declared.Stop.{Stop}
use Rattle.reading.specs.Outside.{ReadOf, read_by, read_of, read_to}
use Rattle.tables.specs.Building.{tables_of}
use Rattle.tables.specs.Laws.Left.{done}
use Rattle.tagset.specs.Laws.Exact.{same_good}

-- a reading that stopped so, and found these, is as demanded
pub demanded : (tags : Tags) (v piece : Word) (room : ℕ) (r : Outcome) → r.found ≡ found_from tags v (length v) (take r.taken piece)
    → length r.found ≤ room
    → ((r.stop ≡ S.All) × (r.taken ≡ length piece))
    ⊎ ((r.stop ≡ S.Full) × (r.taken < length piece) × (room < length r.found + length (tags_at tags (v ++ take (suc r.taken) piece))))
    → Demanded tags v piece room r
demanded tags v piece room r found fits stopped = go stopped
  where
    go : ((r.stop ≡ S.All) × (r.taken ≡ length piece))
        ⊎ ((r.stop ≡ S.Full) × (r.taken < length piece) × (room < length r.found + length (tags_at tags (v ++ take (suc r.taken) piece))))
        → Demanded tags v piece room r
    go (inl q) =
        let f : r.found ≡ found_from tags v (length v) piece = found ∙ ap (found_from tags v (length v)) (take_all r.taken piece (le_of_eq (sym q.1))) in
        subst (Demanded tags v piece room) (λ i. record { taken = sym q.1 i; place = r.place; stop = sym q.0 i; found = sym f i })
        (took_all r.place (subst (λ (l : List Occurrence). length l ≤ room) f fits))
    go (inr q) =
        subst (Demanded tags v piece room) (λ i. record { taken = r.taken; place = r.place; stop = sym q.0 i; found = sym found i })
        (stopped_full r.place r.taken q.1 (subst (λ (l : List Occurrence). length l ≤ room) found fits)
        (subst (λ (l : List Occurrence). room < length l + length (tags_at tags (v ++ take (suc r.taken) piece))) found q.2))

-- what an expected reading has done
abbrev pub DoneIn : Layout → Tags → Word → ℕ → Word → Outcome → Type 0
DoneIn layout tags v room piece r = Done (place_in layout tags) (tags_at tags) v (length v) room piece r

pub done_in : (layout : Layout) (tags : Tags) (v : Word) (room : ℕ) (piece : Word)
    → DoneIn layout tags v room piece (expected_in layout tags v (length v) room piece)
unfolding expected_in
done_in layout tags v room piece = expected_done (place_in layout tags) (tags_at tags) piece v (length v) room

-- with room for a record of each tag, a piece that is not empty advances
pub expected_in-advances : (layout : Layout) (tags : Tags) (c : ℕ) (w v : Word) (count room : ℕ) → tag_count tags ≤ room
    → 0 < (expected_in layout tags v count room (c ∷ w)).taken
unfolding expected_in
expected_in-advances layout tags c w v count room h =
    expected_advances (place_in layout tags) (tags_at tags) (tag_count tags) (at-few tags) c w v count room h

-- it is as demanded
pub done-demanded : (layout : Layout) (tags : Tags) (v piece : Word) (room : ℕ) (r : Outcome) → DoneIn layout tags v room piece r
    → Demanded tags v piece room r
done-demanded layout tags v piece room r d = demanded tags v piece room r d.found d.fits d.stopped

-- a row of readings that goes on from the place after v
abbrev pub row_after : Layout → List ℕ → Runs → Tags → Word → List Turn → Row
row_after layout set runs tags v turns = in_turn layout (tables_of layout set runs) (place_in layout tags v) (length v) turns

-- what is expected of one of them
abbrev pub turn_of : Layout → Tags → Word → Turn → Outcome
turn_of layout tags v t = expected_in layout tags v (length v) (t.list / 2) t.piece

module _ (layout : Layout) (set : List ℕ) (runs : Runs) (tags : Tags) (b : AsBuilt layout set runs tags) where
  abbrev tables : Runs
  tables = tables_of layout set runs

  built_of : L.Done layout set runs (tag_count tags)
  built_of = done layout set runs (tag_count tags) b.answered

  its-tags : built_of.tags ≡ tags
  its-tags = same_good (sym built_of.set ∙ b.good)

  pub lawful : LawfulTags tags
  lawful = subst LawfulTags its-tags (built_of.lawful b.bytes)

  pub left : LeftIn layout tags (tables_of layout set runs)
  left =
      subst (λ (x : Tags). LeftIn layout x (tables_of layout set runs)) its-tags
      (subst (LeftIn layout built_of.tags) (sym built_of.tables) built_of.left)

  -- a reading from the place after v, whatever was counted before, is refused if it is LONG, and else is as expected
  pub read_is : (v piece : Word) (count list : ℕ) → Below 256 v → Below 256 piece
      → read_of layout tables (place_in layout tags v) count piece list
      ≡ read_by (expected_in layout tags v count (list / 2) piece) true (ltb largest (count + length piece))
  unfolding read_of
  read_is v piece count list hv hp =
      ap₂ (λ (r : Outcome) (t : Bool). read_by r t (ltb largest (count + length piece)))
      (read_left layout tags tables b.sliced lawful (subst (AllTaken layout) its-tags built_of.taken) left v piece count (list / 2) hv hp)
      (place_in-below layout tags tables left v)

  -- a reading that is not refused has done what is expected
  pub read_did : (v piece : Word) (list : ℕ) → Below 256 v → Below 256 piece → (r : Outcome)
      → read_of layout tables (place_in layout tags v) (length v) piece list ≡ read_to r → r ≡ expected_in layout tags v (length v) (list / 2) piece
  read_did v piece list hv hp r e = go (ltb largest (length v + length piece)) (sym (read_is v piece (length v) list hv hp) ∙ e)
    where
      go : (long : Bool) → read_by (expected_in layout tags v (length v) (list / 2) piece) true long ≡ read_to r → r ≡ expected_in layout tags v (length v) (list / 2) piece
      go true q = differ cc
      go false q = cc

  -- ---- a row of them

  -- what a row comes to, by whether its first reading is LONG
  pub data RowBy (v : Word) (t : Turn) (turns : List Turn) : Row → Type 0 where
    row_long : largest < length v + length t.piece → RowBy v t turns (row_after layout set runs tags v turns)
    row_read : length v + length t.piece ≤ largest
        → RowBy v t turns (row_then t.piece (turn_of layout tags v t) (row_after layout set runs tags (v ++ take (turn_of layout tags v t).taken t.piece) turns))

  pub row_by : (v : Word) (t : Turn) (turns : List Turn) → Below 256 v → Below 256 t.piece → RowBy v t turns (row_after layout set runs tags v (t ∷ turns))
  unfolding in_turn
  row_by v t turns hv hp = subst (λ (x : ReadOf). RowBy v t turns (by x)) (sym (read_is v t.piece (length v) t.list hv hp))
      (go (ltb largest (length v + length t.piece)) refl)
    where
      by : ReadOf → Row
      by x = on_turn x t.piece (row_after layout set runs tags v turns) (λ r. in_turn layout tables r.place (length v + r.taken) turns)

      r : Outcome
      r = turn_of layout tags v t

      d : DoneIn layout tags v (t.list / 2) t.piece (turn_of layout tags v t)
      d = done_in layout tags v (t.list / 2) t.piece

      on : length (v ++ take r.taken t.piece) ≡ length v + r.taken
      on = length-append v (take r.taken t.piece) ∙ ap (λ (m : ℕ). length v + m) (length-take-le r.taken t.piece d.part)

      go : (long : Bool) → ltb largest (length v + length t.piece) ≡ long → RowBy v t turns (by (read_by (turn_of layout tags v t) true long))
      go true e = row_long (ltb-true _ _ e)
      go false e =
          subst (λ (w : Row). RowBy v t turns (row_then t.piece (turn_of layout tags v t) w))
          (ap₂ (λ (q : List ℕ) (m : ℕ). in_turn layout tables q m turns) (sym d.place) on) (row_read (ltb-false _ _ e))

  -- a row of readings from the place after v: what it found are the occurrences in what it took
  pub record RowDone (v : Word) (w : Row) : Type 0 where
    pub found : w.found ≡ found_from tags v (length v) w.taken
    pub place : w.place ≡ place_in layout tags (v ++ w.taken)

  row_then_lem : (v : Word) (t : Turn) (w : Row) → RowDone (v ++ take (turn_of layout tags v t).taken t.piece) w
      → RowDone v (row_then t.piece (turn_of layout tags v t) w)
  row_then_lem v t w h =
      let r = turn_of layout tags v t in
      let d = done_in layout tags v (t.list / 2) t.piece in
      let part = take r.taken t.piece in
      record {
        found = ap₂ (λ (x y : List Occurrence). x ++ y) d.found
            (h.found ∙ ap (λ (c : ℕ). found_from tags (v ++ part) c w.taken) (length-append v part))
            ∙ sym (occurrences_by_append (tags_at tags) v (length v) part w.taken);
        place = h.place ∙ ap (place_in layout tags) (append_assoc v part w.taken);
      }

  pub row_done : (turns : List Turn) → TurnsOfBytes turns → (v : Word) → Below 256 v → RowDone v (row_after layout set runs tags v turns)
  unfolding in_turn occurrences_by
  row_done [] h v hv = record { found = refl; place = ap (place_in layout tags) (sym (append-nil v)) }
  row_done (t ∷ turns) h v hv = go _ (row_by v t turns hv h.0) (row_done turns h.1)
    where
      go : (w : Row) → RowBy v t turns w → ((u : Word) → Below 256 u → RowDone u (row_after layout set runs tags u turns)) → RowDone v w
      go w (row_long l) more = more v hv
      go w (row_read l) more =
          let part = take (turn_of layout tags v t).taken t.piece in
          row_then_lem v t _ (more (v ++ part) (below_append 256 v part hv (below-take 256 (turn_of layout tags v t).taken t.piece h.0)))

-- two rows that differ at most in their places
pub record AlikeRows (a b : Row) : Type 0 where
  pub taken : a.taken ≡ b.taken
  pub found : a.found ≡ b.found
  pub stops : a.stops ≡ b.stops

-- over the tables of the same tags in two layouts
module _ (layout layout' : Layout) (set set' : List ℕ) (runs runs' : Runs) (tags : Tags) (b : AsBuilt layout set runs tags) (b' : AsBuilt layout' set' runs' tags) where
  alike_turns : (v : Word) (t : Turn) → Alike (turn_of layout tags v t) (turn_of layout' tags v t)
  unfolding expected_in
  alike_turns v t = expected_alike (place_in layout tags) (place_in layout' tags) (tags_at tags) t.piece v (length v) (t.list / 2)

  alike_then : (v : Word) (t : Turn) (w w' : Row) → AlikeRows w w' → AlikeRows (row_then t.piece (turn_of layout tags v t) w)
      (row_then t.piece (turn_of layout' tags v t) w')
  alike_then v t w w' h =
      let a = alike_turns v t in
      record {
        taken = ap₂ (λ (m : ℕ) (x : Word). take m t.piece ++ x) a.taken h.taken;
        found = ap₂ (λ (x y : List Occurrence). x ++ y) a.found h.found;
        stops = ap₂ (λ (x : Stop) (l : List Stop). x ∷ l) a.stop h.stops;
      }

  pub alike_rows : (turns : List Turn) → TurnsOfBytes turns → (v : Word) → Below 256 v
      → AlikeRows (row_after layout set runs tags v turns) (row_after layout' set' runs' tags v turns)
  unfolding in_turn
  alike_rows [] h v hv = record { taken = refl; found = refl; stops = refl }
  alike_rows (t ∷ turns) h v hv = go _ (row_by layout set runs tags b v t turns hv h.0) _ (row_by layout' set' runs' tags b' v t turns hv h.0)
      (alike_rows turns h.1)
    where
      part : Word
      part = take (turn_of layout tags v t).taken t.piece

      part-is : take (turn_of layout tags v t).taken t.piece ≡ take (turn_of layout' tags v t).taken t.piece
      part-is = ap (λ (m : ℕ). take m t.piece) (alike_turns v t).taken

      go : (w : Row) → RowBy layout set runs tags b v t turns w → (w' : Row) → RowBy layout' set' runs' tags b' v t turns w'
          → ((u : Word) → Below 256 u → AlikeRows (row_after layout set runs tags u turns) (row_after layout' set' runs' tags u turns)) → AlikeRows w w'
      go w (row_long l) w' (row_long l') more = more v hv
      go w (row_long l) w' (row_read l') more = absurd (omega (arith, l, l'))
      go w (row_read l) w' (row_long l') more = absurd (omega (arith, l, l'))
      go w (row_read l) w' (row_read l') more =
          alike_then v t _ _
          (subst (λ (u : Word). AlikeRows (row_after layout set runs tags (v ++ part) turns) (row_after layout' set' runs' tags (v ++ u) turns)) part-is
          (more (v ++ part) (below_append 256 v part hv (below-take 256 (turn_of layout tags v t).taken t.piece h.0))))
