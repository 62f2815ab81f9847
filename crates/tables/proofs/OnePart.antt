-- A part over a good set in hand: its own tags, its answer, and what it leaves.
use Prim.Native.Nat.{◌*◌, ◌<◌, ◌≤◌, ℕ}
use mathlib.Core.List.{List, ◌++◌}
use mathlib.Core.Path.{◌∙◌, ◌≡◌, ap, ap₂, fun_ext, sym}
use native.Mathlib.Omega.{arith}
use lib.ListN.{drop, length}
use lib.Seq.{length-take-le}
use Rattle.matching.specs.Enough.{EnoughFor}
use Rattle.matching.specs.Laws.Dealt.{dealt}
use Rattle.matching.specs.Laws.Kinds.{word_as-length}
use Rattle.matching.specs.Laws.OnePart.{mark_dealt}
use Rattle.matching.specs.Laws.Tags.{of_kind-lawful}
use Rattle.matching.specs.Machine.{states, vector}
use Rattle.matching.specs.Parts as P
use Rattle.matching.specs.Table.{Room, built, room_from, slot_size, tags_for, vector_in}
use Rattle.matching.specs.Tags.{Tag, Tags, of_kind, word_as}
use Rattle.matching.specs.Words.{Word}
use Rattle.tagset.specs.Answer.{cut_at}
use Rattle.tagset.specs.Laws.Places.{as_tags-kinds, as_tags-length, cut_at-length}
use Rattle.tagset.specs.declared.Places.{Places}
use Rattle.choosing.specs.Choosing.{ChosenOf, begins_of, ends_of, kinds_of, lying_in, own_begins, own_ends, own_words}
use Rattle.choosing.specs.Dealing.{is_of}
use Rattle.choosing.specs.Laws.Choosing.{chosen-words}
use Rattle.choosing.specs.Laws.Dealing.{dealt-map}
use Rattle.choosing.specs.declared.Chosen.{Chosen}
use Rattle.tables.specs.Building.{most_states, part_needs}
use Rattle.tables.specs.Shape.{Held, Tagged, as_part, judged_by, mark_by}
use Rattle.tables.specs.declared.Part.{Part}

-- ---- all tags

module _ {set folded : List ℕ} {places : Places} (held : Held set folded places (lying_in set places)) where
  words-many : length (cut_at set (begins_of places) (ends_of places)) ≡ places.count
  words-many =
      let begins : length (begins_of places) ≡ places.count = length-take-le places.count places.from held.fit.fits_from in
      let ends : length (ends_of places) ≡ places.count = length-take-le places.count places.to held.fit.fits_to in
      cut_at-length set (begins_of places) (ends_of places) (begins ∙ sym ends) ∙ begins

  pub kinds-many : length (kinds_of places) ≡ places.count
  kinds-many = length-take-le places.count places.kinds held.fit.fits_kinds

  pub tags-many : length (lying_in set places) ≡ places.count
  tags-many = as_tags-length (cut_at set (begins_of places) (ends_of places)) (kinds_of places) (words-many ∙ sym kinds-many) ∙ words-many

  -- a vector dealt out by the kinds at hand is one of the whole set
  mark_is : (kind n : ℕ) → mark_by kind (kinds_of places) n (of_kind kind (lying_in set places)) ≡ vector_in kind n (lying_in set places)
  mark_is kind n = fun_ext (λ (m : ℕ). fun_ext (λ (p : Word). sym (
      mark_dealt kind (lying_in set places) n m p
      ∙ sym (dealt-map (λ (t : Tag). t.kind) (is_of kind) (lying_in set places) (vector (tags_for n (of_kind kind (lying_in set places)) m) p))
      ∙ ap (λ (ks : List ℕ). dealt (is_of kind) ks (vector (tags_for n (of_kind kind (lying_in set places)) m) p))
      (as_tags-kinds (cut_at set (begins_of places) (ends_of places)) (kinds_of places) (words-many ∙ sym kinds-many)))))

  -- ---- those of one kind

  module _ (kind : ℕ) (own : Chosen) (chosen : ChosenOf kind places own) (bytes : List ℕ) (reads : bytes ≡ word_as kind set) where
    own-words : own_words bytes own ≡ of_kind kind (lying_in set places)
    own-words = ap (λ (b : List ℕ). own_words b own) reads ∙ chosen-words kind set places own chosen

    pub own_tagged : Tagged bytes own (own_words bytes own)
    own_tagged =
        let lawful = of_kind-lawful kind (lying_in set places) held.lawful in
        let begins : length (own_begins own) ≡ own.count = length-take-le own.count own.from (omega (arith, chosen.few, chosen.roomy.from)) in
        let ends : length (own_ends own) ≡ own.count = length-take-le own.count own.to (omega (arith, chosen.few, chosen.roomy.to)) in
        record {
          many = cut_at-length bytes (own_begins own) (own_ends own) (begins ∙ sym ends) ∙ begins;
          few = rw own-words lawful.few;
          short = rw own-words lawful.short;
          small = omega (arith, held.small, ap length reads, word_as-length kind set);
          roomy = chosen.roomy;
        }

-- ---- a part

module _ (part : Part) {set folded : List ℕ} {places : Places} (held : Held set folded places (lying_in set places)) (own : Chosen)
    (chosen : ChosenOf part.kind places own) (bytes : List ℕ) (reads : bytes ≡ word_as part.kind set) where
  abbrev words : List Word
  words = own_words bytes own

  abbrev tags : Tags
  tags = lying_in set places

  is : words ≡ of_kind part.kind tags
  is = own-words held part.kind own chosen bytes reads

  pub part_judged : (len s : ℕ) → s ≡ P.part_slots (as_part part) len
      → judged_by (P.named (as_part part) (room_from part.bits s words 0 part.machines)) ≡ judged_by (P.part_room (as_part part) tags (P.part_slots (as_part part) len))
  unfolding P.part_room
  part_judged len s es =
      ap (λ (r : Room). judged_by (P.named (as_part part) r)) (ap₂ (λ (x : ℕ) (ts : List Word). room_from part.bits x ts 0 part.machines) es is)

  pub part-most : (most : ℕ) → most ≡ most_states part.bits words 0 part.machines → most ≡ part_needs (as_part part) tags
  part-most most e = e ∙ ap (λ (ts : List Word). most_states part.bits ts 0 part.machines) is

  module _ (run : List ℕ) (s : ℕ) (es : s ≡ P.part_slots (as_part part) (length run)) where
    pub part-enough : EnoughFor (as_part part) tags (P.part_slots (as_part part) (length run))
        → (m : ℕ) → m < part.machines → states (tags_for part.bits words m) ≤ s
    part-enough f m h = rw (is, es) (f m h)

    pub part_left : (after : List ℕ)
        → after ≡ built part.bits part.machines s words (mark_by part.kind (kinds_of places) part.bits words)
        ++ drop (part.machines * (s * slot_size part.bits)) run
        → after ≡ P.part_table (as_part part) tags run
    unfolding P.part_table P.part_built
    part_left after e =
        e
        ∙ ap₂ (λ (x : ℕ) (ts : List Word). built part.bits part.machines x ts (mark_by part.kind (kinds_of places) part.bits ts)
        ++ drop (part.machines * (x * slot_size part.bits)) run) es is
        ∙ ap (λ (mark : ℕ → Word → ℕ). built part.bits part.machines (P.part_slots (as_part part) (length run)) (of_kind part.kind tags) mark
        ++ drop (part.machines * (P.part_slots (as_part part) (length run) * slot_size part.bits)) run) (mark_is held part.kind part.bits)
