-- Building a bitmap table is refused, and done, exactly when the rules say so. A set's numbers are bytes.
use Rattle.std.specs.Prelude.{Err, Ok}
use Rattle.tables.specs.declared.BuildFault.TheVariants as B
use Rattle.tables.specs.Building.{of_parts}
use Rattle.std.specs.Prelude.{◌<◌, ◌≤◌, ℕ, ◌↔◌, ◌≡◌, length}
use mathlib.Core.List.{List, [], ◌∷◌}
use Rattle.std.proofs.Common.{◌∙◌, ap, subst, sym, le-ltb, lt-ltb}
use Rattle.std.proofs.Math.Path.{refl}
use Rattle.std.proofs.Math.Decide.{dec_lt}
use native.Mathlib.Omega.{arith}
use Rattle.matching.specs.Kinds.{exact_kind}
use Rattle.matching.specs.Laws.Layouts.{takes_short}
use Rattle.matching.specs.Laws.Slices.{reduced-byte}
use Rattle.matching.specs.Laws.Tags.{of_kind-exact, of_kind-lawful}
use Rattle.matching.specs.Machine.{states}
use Rattle.matching.specs.Parts.{whole_layout}
use Rattle.matching.specs.Table.{enough_slots, short_of_slots}
use Rattle.matching.specs.Tags.{Tags, exact, of_kind}
use Rattle.matching.specs.Words.{Below, Lawful, Word}
use Rattle.tagset.specs.Grammar.{SetOf, set_of}
use Rattle.tagset.specs.Laws.Exact.{SetCase, accepted_iff, is_bad, is_good, refused_iff, set_case}
use Rattle.tagset.specs.Laws.Places.{tags-accepted, whole-exact}
use Rattle.tagset.specs.Refusals.{Accepted, Refused}
use Rattle.tagset.specs.declared.SetFault.{SetFault}
use Rattle.tables.specs.Building.{built_number, built_values, most_states, needed_of}
use Rattle.tables.specs.Laws.Exact.{WhenBy, exactly_when, needed-slots_iff}
use Rattle.tables.proofs.Laws.Exact.{exact-by, number_by}
use Rattle.tables.specs.Building.{Built}
use Rattle.bitmap.specs.Laws.States.{states-same}
use Rattle.bitmap.specs.Levels.{by_level}
use Rattle.bitmap.specs.Slots.{room_in, slots_of}
use Rattle.bitmap_tables.specs.Building.{map_built_of, map_built_tags, map_kinds, on_map_set, words_of}
use Rattle.bitmap_tables.specs.Refusals.{MapAnswers, MapBuildExact, MapBuilds, MapTooFewSlots}

-- ---- the room, by the distinct prefixes

module _ (ts : List Word) (l : Lawful ts) (s : ℕ) where
  pub room-short : s < states ts → room_in s ts ≡ short_of_slots 253 (states ts)
  unfolding room_in
  room-short h =
      let e = states-same ts l in
      rw (lt-ltb s (length (by_level ts)) (omega arith), room_in) (ap (short_of_slots 253) e)

  pub room-enough : states ts ≤ s → room_in s ts ≡ enough_slots
  unfolding room_in
  room-enough h =
      let e = states-same ts l in
      rw (le-ltb s (length (by_level ts)) (omega arith), room_in) refl

-- ---- a good set

-- the tags of a good set are the exact ones of their words
pub map-exact : (bytes : List ℕ) (tags : Tags) → Accepted map_kinds bytes tags → tags ≡ exact (words_of tags)
map-exact bytes tags a = whole-exact tags (tags-accepted a).sized

pub map-lawful : (bytes : List ℕ) → Below 256 bytes → (ts : List Word) → Accepted map_kinds bytes (exact ts) → Lawful ts
map-lawful bytes small ts a =
    subst Lawful (of_kind-exact ts) (of_kind-lawful exact_kind (exact ts) ((tags-accepted a).lawful (takes_short whole_layout) small))

pub words-exact : (ts : List Word) → words_of (exact ts) ≡ ts
words-exact [] = refl
words-exact (t ∷ ts) = ap {B = List Word} (λ (l : List Word). t ∷ l) (words-exact ts)

module _ (bytes : List ℕ) (small : Below 256 bytes) (len : ℕ) where
  lawful : {ts : List Word} → Accepted map_kinds bytes (exact ts) → Lawful ts
  lawful {ts} a = map-lawful bytes small ts a

  -- what a good set is built to
  on-good : (ts : List Word) → Accepted map_kinds bytes (exact ts) → map_built_of bytes len ≡ map_built_tags ts len
  unfolding map_built_of
  on-good ts a = rw ((accepted_iff map_kinds bytes (exact ts)).1 a) (ap (λ (us : List Word). map_built_tags us len) (words-exact ts))

  abbrev MapWhen : Built → Type 0
  MapWhen = WhenBy (MapBuilds bytes len) (MapTooFewSlots bytes len) map_kinds bytes

  -- what the rules say, the definition does
  map_so : (b : Built) → MapWhen b → map_built_of bytes len ≡ b
  unfolding map_built_of
  map_so (Err (B.Set fault)) r = rw ((refused_iff map_kinds bytes fault).1 r)
  map_so (Err (B.Table name needs)) t = on-good t.tags t.set ∙ rw (room-short t.tags (lawful t.set) (slots_of len) t.short, t.named, t.needed)
  map_so (Ok count) b = on-good b.tags b.set ∙ rw (room-enough b.tags (lawful b.set) (slots_of len) b.enough, b.counted)

  -- and what the definition does, the rules say
  map_when : MapWhen (map_built_of bytes len)
  unfolding map_built_of
  map_when = go (set_of map_kinds bytes) (set_case map_kinds bytes)
    where
      on-tags : (ts : List Word) → Accepted map_kinds bytes (exact ts) → Dec (slots_of len < states ts) → MapWhen (map_built_tags ts len)
      on-tags ts a (yes h) = rw (room-short ts (lawful a) (slots_of len) h) (record { tags = ts; set = a; short = h; named = refl; needed = refl })
      on-tags ts a (no h) =
          let e : states ts ≤ slots_of len = omega arith in
          rw (room-enough ts (lawful a) (slots_of len) e) (record { tags = ts; set = a; counted = refl; enough = e })

      go : (s : SetOf) → SetCase map_kinds bytes s → MapWhen (on_map_set len s)
      go s (is_bad r) = r
      go s (is_good {ts = tags} a) =
          on-tags (words_of tags) (subst (Accepted map_kinds bytes) (map-exact bytes tags a) a) (dec_lt (slots_of len) (states (words_of tags)))

  exactly : (b : Built) → (map_built_of bytes len ≡ b) ↔ MapWhen b
  exactly = exactly_when MapWhen (map_built_of bytes len) map_when map_so

  -- a set fault is given exactly if the set is refused so
  pub map-fault_iff : (fault : SetFault) → (map_built_of bytes len ≡ Err (B.Set fault)) ↔ Refused map_kinds bytes fault
  map-fault_iff fault = exactly (Err (B.Set fault))

  -- TABLE exactly if the set is good and has more distinct prefixes than there are slots: with 253, and their number
  pub map-table_iff : (name needs : ℕ) → (map_built_of bytes len ≡ Err (B.Table name needs)) ↔ MapTooFewSlots bytes len name needs
  map-table_iff name needs = exactly (Err (B.Table name needs))

  -- building is done exactly if neither is
  pub map-tags_iff : (count : ℕ) → (map_built_of bytes len ≡ Ok count) ↔ MapBuilds bytes len count
  map-tags_iff count = exactly (Ok count)

  -- EACH NUMBER IS GIVEN WITH ITS VALUES EXACTLY IF ITS CONDITION HOLDS AND NONE EARLIER DOES
  pub map-number_iff : (number : ℕ) (values : List ℕ)
      → ((built_number (map_built_of bytes len) ≡ number) × (built_values (map_built_of bytes len) ≡ values)) ↔ MapAnswers bytes len number values
  map-number_iff = number_by (MapBuilds bytes len) (MapTooFewSlots bytes len) map_kinds bytes (map_built_of bytes len) exactly

  -- THE TABLE OF REFUSALS FOR BUILDING A BITMAP TABLE, number by number
  pub map_build_exact : MapBuildExact bytes len (built_number (map_built_of bytes len)) (built_values (map_built_of bytes len))
  map_build_exact = exact-by (MapBuilds bytes len) (MapTooFewSlots bytes len) map_kinds bytes (map_built_of bytes len) exactly

-- ---- the slots that a set needs

-- the slots that a set needs for a whole-byte table are the number of its distinct prefixes
pub most-whole : (ts : List Word) → Lawful ts → most_states 8 ts 0 1 ≡ states ts
unfolding most_states
most-whole ts l = omega (arith, ap {B = ℕ} states (reduced-byte ts l.bytes))

-- a good set's bitmap table is built exactly if there are as many slots as the whole-byte table needs
pub accepted_bitmap : (bytes : List ℕ) → Below 256 bytes → (ts : List Word) → Accepted map_kinds bytes (exact ts) → (len : ℕ)
    → (built_number (map_built_of bytes len) ≡ 0) ↔ (most_states 8 ts 0 1 ≤ slots_of len)
accepted_bitmap bytes small ts a len = (there (dec_lt (slots_of len) (states ts)), back)
  where
    l : Lawful ts
    l = map-lawful bytes small ts a

    there : Dec (slots_of len < states ts) → built_number (map_built_of bytes len) ≡ 0 → most_states 8 ts 0 1 ≤ slots_of len
    there (yes h) e =
        let f : map_built_of bytes len ≡ Err (B.Table 253 (states ts)) = on-good bytes small len ts a ∙ rw (room-short ts l (slots_of len) h) in
        absurd (omega (arith, e, ap built_number f))
    there (no h) e = omega (arith, most-whole ts l)

    back : most_states 8 ts 0 1 ≤ slots_of len → built_number (map_built_of bytes len) ≡ 0
    back h =
        let f : map_built_of bytes len ≡ Ok (length ts) =
        on-good bytes small len ts a ∙ rw (room-enough ts l (slots_of len) (omega (arith, most-whole ts l))) in
        ap built_number f

-- THE SLOTS THAT A BITMAP TABLE NEEDS are those that a whole-byte table needs
pub needed_bitmap : (bytes : List ℕ) → Below 256 bytes → (slots none : ℕ) → needed_of whole_layout bytes ≡ Ok (of_parts slots none) → (len : ℕ)
    → (built_number (map_built_of bytes len) ≡ 0) ↔ (slots ≤ slots_of len)
needed_bitmap bytes small slots none e len =
    let n = (needed-slots_iff whole_layout bytes slots none).0 e in
    let x : n.0 ≡ exact (words_of n.0) = map-exact bytes n.0 n.1 in
    let same : most_states 8 (words_of n.0) 0 1 ≡ slots =
    ap (λ (ts : List Word). most_states 8 ts 0 1) (sym (ap (of_kind exact_kind) x ∙ of_kind-exact (words_of n.0))) ∙ sym n.2 in
    subst (λ (y : ℕ). (built_number (map_built_of bytes len) ≡ 0) ↔ (y ≤ slots_of len)) same
    (accepted_bitmap bytes small (words_of n.0) (subst (Accepted map_kinds bytes) x n.1) len)
