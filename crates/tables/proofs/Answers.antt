-- What building answers, and what it leaves: a layout's parts judged one after the other, and a set.
use Rattle.tables.specs.declared.BuildFault.TheVariants as B
use Prim.Native.Nat.{ℕ}
use mathlib.Core.Bool.{Bool, cond, false, false≢true, not, true}
use mathlib.Core.List.{List, [], ◌∷◌}
use mathlib.Core.Path.{◌≡◌, ap, ap₂, refl, sym}
use native.Mathlib.Omega.{arith}
use lib.ListN.{get_or, length}
use Rattle.std.specs.Prelude.{Err, Ok}
use Rattle.matching.specs.Enough.{EnoughIn}
use Rattle.matching.specs.Laws.Layouts.{enough_in_iff}
use Rattle.matching.specs.Parts.{Layout, Part, Runs, kinds_for, lengths, or_else, part_room, part_slots, part_table, room_in, tables_for}
use Rattle.matching.specs.Table.{Room, enough_slots, short_of_slots}
use Rattle.matching.specs.Tags.{Tags}
use Rattle.tagset.specs.Grammar.{bad_set, good_set, set_of}
use Rattle.tagset.specs.declared.SetFault.{SetFault}
use Rattle.tables.specs.Building.{built_by, built_of, needed_of, of_parts, slots_needed, tables_by, tables_of}
use Rattle.tables.specs.Shape.{judged_by}
use Rattle.tables.specs.declared.BuildFault.{BuildFault}

-- ---- a part before others

module _ (tags : Tags) (p : Part) (ps : Layout) (len : ℕ) (lens : List ℕ) where
  pub first-refused : (f : BuildFault) → Err f ≡ judged_by (part_room p tags (part_slots p len)) → Err f ≡ judged_by (room_in (p ∷ ps) tags (len ∷ lens))
  unfolding room_in
  first-refused f e = go (part_room p tags (part_slots p len)) e
    where
      go : (r : Room) → Err f ≡ judged_by r → Err f ≡ judged_by (or_else r (room_in ps tags lens))
      go enough_slots e = let z : ◌≡◌ {A = ℕ} 0 1 = cc in absurd (omega arith)
      go (short_of_slots name needs) e = e

  pub first-enough : Ok tt ≡ judged_by (part_room p tags (part_slots p len)) → judged_by (room_in ps tags lens) ≡ judged_by (room_in (p ∷ ps) tags (len ∷ lens))
  unfolding room_in
  first-enough e = go (part_room p tags (part_slots p len)) e
    where
      go : (r : Room) → Ok tt ≡ judged_by r → judged_by (room_in ps tags lens) ≡ judged_by (or_else r (room_in ps tags lens))
      go enough_slots e = refl
      go (short_of_slots name needs) e = let z : ◌≡◌ {A = ℕ} 0 1 = cc in absurd (omega arith)

-- a part by itself
pub alone : (tags : Tags) (p : Part) (len : ℕ) → judged_by (part_room p tags (part_slots p len)) ≡ judged_by (room_in (p ∷ []) tags (len ∷ []))
unfolding room_in
alone tags p len = go (part_room p tags (part_slots p len))
  where
    go : (r : Room) → judged_by r ≡ judged_by (or_else r enough_slots)
    go enough_slots = refl
    go (short_of_slots name needs) = refl

-- the tables of one part, and of two
pub one_table : (tags : Tags) (p : Part) (run after : List ℕ) → after ≡ part_table p tags run → after ∷ [] ≡ tables_for (p ∷ []) tags (run ∷ [])
unfolding tables_for
one_table tags p run after e = ap {B = Runs} (λ (l : List ℕ). l ∷ []) e

pub two-tables : (tags : Tags) (p q : Part) (first second after other : List ℕ) → after ≡ part_table p tags first → other ≡ part_table q tags second
    → after ∷ other ∷ [] ≡ tables_for (p ∷ q ∷ []) tags (first ∷ second ∷ [])
unfolding tables_for
two-tables tags p q first second after other e f = ap₂ {C = Runs} (λ (l m : List ℕ). l ∷ m ∷ []) e f

-- ---- a set

module _ (layout : Layout) (bytes : List ℕ) where
  -- what is answered, and what is left, where nothing is written
  pub record Refuses (f : BuildFault) (write : Bool) (runs : Runs) : Type 0 where
    pub answer : Err f ≡ built_of layout bytes (lengths runs)
    pub left : runs ≡ cond write (tables_of layout bytes runs) runs

  module _ {fault : SetFault} (bad : set_of (kinds_for layout) bytes ≡ bad_set fault) where
    pub set-refused : (write : Bool) (runs : Runs) → Refuses (B.Set fault) write runs
    unfolding built_of tables_of
    set-refused true runs = record { answer = rw bad; left = rw bad }
    set-refused false runs = record { answer = rw bad; left = refl }

    pub fault-needed : Err fault ≡ needed_of layout bytes
    unfolding needed_of
    fault-needed = rw bad

  module _ {tags : Tags} (good : set_of (kinds_for layout) bytes ≡ good_set tags) where
    pub room-refused : (f : BuildFault) (write : Bool) (runs : Runs) → Err f ≡ judged_by (room_in layout tags (lengths runs)) → Refuses f write runs
    unfolding built_of tables_of
    room-refused f write runs e =
        record { answer = rw good (answer (room_in layout tags (lengths runs)) e); left = left write }
      where
        answer : (r : Room) → Err f ≡ judged_by r → Err f ≡ built_by tags r
        answer enough_slots e = let z : ◌≡◌ {A = ℕ} 0 1 = cc in absurd (omega arith)
        answer (short_of_slots name needs) e = let q : f ≡ B.Table name needs = cc in ap Err q

        kept : (r : Room) → Err f ≡ judged_by r → runs ≡ tables_by layout tags runs r
        kept enough_slots e = let z : ◌≡◌ {A = ℕ} 0 1 = cc in absurd (omega arith)
        kept (short_of_slots name needs) e = refl

        left : (w : Bool) → runs ≡ cond w (tables_of layout bytes runs) runs
        left true = rw good (kept (room_in layout tags (lengths runs)) e)
        left false = refl

    module _ (runs : Runs) (enough : Ok tt ≡ judged_by (room_in layout tags (lengths runs))) where
      room : room_in layout tags (lengths runs) ≡ enough_slots
      room = go (room_in layout tags (lengths runs)) enough
        where
          go : (r : Room) → Ok tt ≡ judged_by r → r ≡ enough_slots
          go enough_slots e = refl
          go (short_of_slots name needs) e = let z : ◌≡◌ {A = ℕ} 0 1 = cc in absurd (omega arith)

      pub room-enough : EnoughIn layout tags (lengths runs)
      room-enough = (enough_in_iff tags layout (lengths runs)).0 room

      pub done-answer : (count : ℕ) → length tags ≡ count → Ok count ≡ built_of layout bytes (lengths runs)
      unfolding built_of
      done-answer count e = rw (good, room) (ap Ok (sym e))

      pub done-tables : (after : Runs) → after ≡ tables_for layout tags runs → after ≡ tables_of layout bytes runs
      unfolding tables_of
      done-tables after e = rw (good, room) e

    pub good-needed : (first second : ℕ) → first ≡ get_or (slots_needed layout tags) 0 0 → second ≡ get_or (slots_needed layout tags) 1 0
        → Ok (of_parts first second) ≡ needed_of layout bytes
    unfolding needed_of
    good-needed first second e f = rw (good, e, f)

-- ---- a test that was turned round
-- Laws that the pages name, though no proof needs them any more.

pub so_false : (found is : Bool) → found ≡ is → not found ≡ true → is ≡ false
so_false true is e h = absurd (false≢true h)
so_false false is e h = sym e

pub so_true : (found is : Bool) → found ≡ is → not found ≡ false → is ≡ true
so_true true is e h = sym e
so_true false is e h = absurd (false≢true (sym h))
