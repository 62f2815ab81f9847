-- When there are too few slots, machine by machine as the rules have it (docs/RULES.md, 2 and 3), and what is told of the slots that a set needs.
use Rattle.std.specs.Prelude.{Err, Ok}
use Rattle.tables.specs.declared.BuildFault.TheVariants as B
use Rattle.tables.specs.Building.{of_parts}
use Rattle.std.specs.Prelude.{◌+◌, ◌<◌, ◌≤◌, ℕ, List, [], ◌∷◌, ◌↔◌, ◌≡◌, refl, drop, length}
use Rattle.std.proofs.Common.{◌∙◌, ap, subst, sym, zero-add, arith}
use Rattle.matching.specs.Enough.{EnoughFor, EnoughIn, LowestIn, ShortIn, in_first, in_others}
use Rattle.matching.specs.Machine.{states}
use Rattle.matching.specs.Parts.{Layout, Part, first_length, kinds_for, part, part_slots, split_layout, whole_layout}
use Rattle.matching.specs.Table.{slots_in, tags_for}
use Rattle.matching.specs.Tags.{Tags, of_kind}
use Rattle.tables.specs.Building.{built_of, needed_of, part_needs}
use Rattle.tables.specs.Laws.Exact.{most_iff, needed-slots_iff, table_iff, tags_iff}
use Rattle.tagset.specs.Laws.Exact.{accepted_iff, same_good}
use Rattle.tagset.specs.Refusals.{Accepted}

-- the states of bit machine m of the tags of a kind, and those of the whole-byte machine, which has the tags of kind 1
abbrev pub bit_states : ℕ → Tags → ℕ → ℕ
bit_states kind tags m = states (tags_for 1 (of_kind kind tags) m)

abbrev pub whole_states : Tags → ℕ
whole_states tags = states (tags_for 8 (of_kind 1 tags) 0)

-- ---- the split layout

-- in a table of so many numbers, for the tags of a kind, m is the lowest of the eight bit machines that has more states than slots
pub record LowestBit (kind : ℕ) (tags : Tags) (len m : ℕ) : Type 0 where
  pub machine : m < 8
  pub short : slots_in 1 8 len < bit_states kind tags m
  pub lower : (j : ℕ) → j < m → bit_states kind tags j ≤ slots_in 1 8 len

-- none has
abbrev pub EnoughBits : ℕ → Tags → ℕ → Type 0
EnoughBits kind tags len = (m : ℕ) → m < 8 → bit_states kind tags m ≤ slots_in 1 8 len

-- the lowest machine that is short of slots, in tables of a and b numbers, has this name and so many states: machines 0 to 7 are those of kind 1 and
-- the first table, and machines 8 to 15 those of kind 2 and the second
pub data SplitShort (tags : Tags) (a b : ℕ) : (name needs : ℕ) → Type 0 where
  of_exact : (m : ℕ) → LowestBit 1 tags a m → SplitShort tags a b m (bit_states 1 tags m)
  of_folded : (m : ℕ) → EnoughBits 1 tags a → LowestBit 2 tags b m → SplitShort tags a b (8 + m) (bit_states 2 tags m)

module _ (tags : Tags) where
  bit_lowest : (kind name len m : ℕ) → LowestIn (part kind 1 8 name) tags (slots_in 1 8 len) m → LowestBit kind tags len m
  bit_lowest kind name len m l = record { machine = l.below; short = l.short; lower = λ j h. l.others j (omega arith) h }

  lowest_bit : (kind name len m : ℕ) → LowestBit kind tags len m → LowestIn (part kind 1 8 name) tags (slots_in 1 8 len) m
  lowest_bit kind name len m l = record { from = omega arith; below = l.machine; short = l.short; others = λ j a h. l.lower j h }

  split-there : (a b name needs : ℕ) → ShortIn tags split_layout (a ∷ b ∷ []) name needs → SplitShort tags a b name needs
  split-there a b name needs (in_first p ps l m x) =
      subst (λ (n : ℕ). SplitShort tags a b n (bit_states 1 tags m)) (sym (zero-add m)) (of_exact m (bit_lowest 1 0 a m x))
  split-there a b name needs (in_others p ps l e (in_first p' ps' l' m x)) = of_folded m e (bit_lowest 2 8 b m x)
  split-there a b name needs (in_others p ps l e (in_others p' ps' l' f x)) = elim x [ ]

  split-back : (a b name needs : ℕ) → SplitShort tags a b name needs → ShortIn tags split_layout (a ∷ b ∷ []) name needs
  split-back a b name needs (of_exact m x) =
      subst (λ (n : ℕ). ShortIn tags split_layout (a ∷ b ∷ []) n (bit_states 1 tags m)) (zero-add m)
      (in_first (part 1 1 8 0) (part 2 1 8 8 ∷ []) (a ∷ b ∷ []) m (lowest_bit 1 0 a m x))
  split-back a b name needs (of_folded m e x) =
      in_others (part 1 1 8 0) (part 2 1 8 8 ∷ []) (a ∷ b ∷ []) e (in_first (part 2 1 8 8) [] (b ∷ []) m (lowest_bit 2 8 b m x))

-- TABLE FOR TWO SPLIT TABLES, exactly then
pub split-table_iff : (bytes : List ℕ) (a b name needs : ℕ) → (built_of split_layout bytes (a ∷ b ∷ []) ≡ Err (B.Table name needs))
    ↔ ((tags : Tags) × Accepted (kinds_for split_layout) bytes tags × SplitShort tags a b name needs)
split-table_iff bytes a b name needs = (
  λ e. (let t = (table_iff split_layout bytes (a ∷ b ∷ []) name needs).0 e in (t.tags, t.set, split-there t.tags a b name needs t.short)),
  λ r. (table_iff split_layout bytes (a ∷ b ∷ []) name needs).1 (record { tags = r.0; set = r.1; short = split-back r.0 a b name needs r.2 }),
)

-- ---- the whole-byte layout

module _ (tags : Tags) (len : ℕ) where
  only_machine : (m : ℕ) → LowestIn (part 1 8 1 254) tags (slots_in 8 1 len) m → m ≡ 0
  only_machine m l = omega (arith, l.below)

  whole-there : (name needs : ℕ) → ShortIn tags whole_layout (len ∷ []) name needs → (name ≡ 254) × (needs ≡ whole_states tags) × (slots_in 8 1 len < needs)
  whole-there name needs (in_first p ps l m x) =
      (omega (arith, only_machine m x), ap (λ (j : ℕ). states (tags_for 8 (of_kind 1 tags) j)) (only_machine m x), x.short)
  whole-there name needs (in_others p ps l e x) = elim x [ ]

  whole_back : (name needs : ℕ) → (name ≡ 254) × (needs ≡ whole_states tags) × (slots_in 8 1 len < needs) → ShortIn tags whole_layout (len ∷ []) name needs
  whole_back name needs (en, es, s) =
      rw (en, es) (in_first (part 1 8 1 254) [] (len ∷ []) 0
      (record { from = omega arith; below = omega arith; short = omega (arith, s, es); others = λ j a h. absurd (omega arith) }))

-- TABLE FOR A WHOLE-BYTE TABLE, exactly then: it names machine 254
pub whole-table_iff : (bytes : List ℕ) (len name needs : ℕ) → (built_of whole_layout bytes (len ∷ []) ≡ Err (B.Table name needs))
    ↔ ((tags : Tags) × Accepted (kinds_for whole_layout) bytes tags × (name ≡ 254) × (needs ≡ whole_states tags) × (slots_in 8 1 len < needs))
whole-table_iff bytes len name needs = (
  λ e. (let t = (table_iff whole_layout bytes (len ∷ []) name needs).0 e in
      let w = whole-there t.tags len name needs t.short in
      (t.tags, t.set, w.0, w.1, w.2)),
  λ r. (table_iff whole_layout bytes (len ∷ []) name needs).1
      (record { tags = r.0; set = r.1; short = whole_back r.0 len name needs (r.2, r.3, r.4) }),
)

-- ---- the slots that a set needs

-- so many slots are enough for a part exactly if none of its machines has more states
pub needs_iff : (p : Part) (tags : Tags) (s : ℕ) → (part_needs p tags ≤ s) ↔ EnoughFor p tags s
needs_iff p tags s =
    let most = most_iff p.bits (of_kind p.kind tags) s p.machines 0 in
    (λ h m b. most.0 h m (omega arith) (omega arith), λ f. most.1 (λ m a b. f m (omega arith)))

-- each part has the slots that it needs, in tables of so many numbers
abbrev pub HasRoom : Layout → Tags → List ℕ → Type 0
HasRoom [] tags lens = Unit {0}
HasRoom (p ∷ ps) tags lens = (part_needs p tags ≤ part_slots p (first_length lens)) × HasRoom ps tags (drop 1 lens)

enough-needed : (layout : Layout) (tags : Tags) (lens : List ℕ) → EnoughIn layout tags lens → HasRoom layout tags lens
enough-needed [] tags lens e = tt
enough-needed (p ∷ ps) tags lens e = ((needs_iff p tags (part_slots p (first_length lens))).1 e.0, enough-needed ps tags (drop 1 lens) e.1)

needed-enough : (layout : Layout) (tags : Tags) (lens : List ℕ) → HasRoom layout tags lens → EnoughIn layout tags lens
needed-enough [] tags lens h = tt
needed-enough (p ∷ ps) tags lens h = ((needs_iff p tags (part_slots p (first_length lens))).0 h.0, needed-enough ps tags (drop 1 lens) h.1)

-- a good set is built exactly if each part has the slots that it needs
pub needed-built : (layout : Layout) (bytes lens : List ℕ) (tags : Tags) → Accepted (kinds_for layout) bytes tags
    → ((count : ℕ) × (built_of layout bytes lens ≡ Ok count)) ↔ HasRoom layout tags lens
needed-built layout bytes lens tags a = (there, back)
  where
    there : (count : ℕ) × (built_of layout bytes lens ≡ Ok count) → HasRoom layout tags lens
    there (count, e) =
        let b = (tags_iff layout bytes lens count).0 e in
        let same = same_good (sym ((accepted_iff (kinds_for layout) bytes b.tags).1 b.set) ∙ (accepted_iff (kinds_for layout) bytes tags).1 a) in
        enough-needed layout tags lens (subst (λ (t : Tags). EnoughIn layout t lens) same b.enough)

    back : HasRoom layout tags lens → (count : ℕ) × (built_of layout bytes lens ≡ Ok count)
    back h =
        (length tags, (tags_iff layout bytes lens (length tags)).1 (record { tags = tags; set = a; counted = refl; enough = needed-enough layout tags lens h }))

-- WHAT IS TOLD OF THE SLOTS NEEDED IS NEEDED, AND ENOUGH: two split tables are built of the set exactly if each has at least so many slots, and a
-- whole-byte table is
pub split-needed : (bytes : List ℕ) (first second : ℕ) → needed_of split_layout bytes ≡ Ok (of_parts first second)
    → (a b : ℕ) → ((count : ℕ) × (built_of split_layout bytes (a ∷ b ∷ []) ≡ Ok count)) ↔ ((first ≤ slots_in 1 8 a) × (second ≤ slots_in 1 8 b))
split-needed bytes first second e a b =
    let (tags, good, f, s) = (needed-slots_iff split_layout bytes first second).0 e in
    let built = needed-built split_layout bytes (a ∷ b ∷ []) tags good in (
      λ d. (let h = built.0 d in (omega (arith, f, h.0), omega (arith, s, h.1.0))),
      λ h. built.1 (omega (arith, f, h.0), (omega (arith, s, h.1), tt)),
    )

pub whole-needed : (bytes : List ℕ) (first second : ℕ) → needed_of whole_layout bytes ≡ Ok (of_parts first second)
    → (len : ℕ) → ((count : ℕ) × (built_of whole_layout bytes (len ∷ []) ≡ Ok count)) ↔ (first ≤ slots_in 8 1 len)
whole-needed bytes first second e len =
    let (tags, good, f, s) = (needed-slots_iff whole_layout bytes first second).0 e in
    let built = needed-built whole_layout bytes (len ∷ []) tags good in
    (λ d. omega (arith, f, (built.0 d).0), λ h. built.1 (omega (arith, f, h), tt))
