-- What building leaves in the lent runs.
use Rattle.std.specs.Prelude.{Err, Ok}
use Rattle.tables.specs.declared.BuildFault.TheVariants as B
use Rattle.std.specs.Prelude.{◌<◌, ℕ, List, [], ◌∷◌, ◌≡◌, length}
use Rattle.std.proofs.Common.{◌∙◌, ap, arith}
use Rattle.std.proofs.Math.Path.{refl}
use Rattle.matching.specs.Laws.Layouts.{LeftIn, enough_in_iff, tables-left, tables-lengths, takes_part, takes_short}
use Rattle.matching.specs.Laws.Parts.{AllTaken}
use Rattle.matching.specs.Parts.{Layout, Runs, kinds_for, lengths, room_in, tables_for}
use Rattle.matching.specs.Table.{Room, enough_slots, short_of_slots}
use Rattle.matching.specs.Tags.{LawfulTags, Tags}
use Rattle.matching.specs.Words.{Below}
use Rattle.tables.specs.Building.{built_by, built_number, built_of, on_set, on_set_tables, tables_by, tables_of}
use Rattle.tables.specs.Laws.Exact.{BuiltWhen, built_when, tags_iff}
use Rattle.tables.specs.Refusals.{Builds}
use Rattle.tables.specs.Building.{Built}
use Rattle.tagset.specs.Answer.{fault_number}
use Rattle.tagset.specs.Grammar.{SetOf, bad_set, good_set, set_of}
use Rattle.tagset.specs.Laws.Exact.{accepted_iff}
use Rattle.tagset.specs.Laws.Places.{AllSized, tags-of}
use Rattle.tagset.specs.declared.SetFault.{SetFault}
use Rattle.tagset.specs.declared.SetFault.TheVariants.{Cut, Empty, Kind, Length, Many, Repeat}

-- every fault has a number
pub fault-some : (f : SetFault) → 0 < fault_number f
fault-some (Cut i) = omega arith
fault-some (Many i) = omega arith
fault-some (Kind i) = omega arith
fault-some (Length i) = omega arith
fault-some Empty = omega arith
fault-some (Repeat i) = omega arith

module _ (layout : Layout) (bytes : List ℕ) (runs : Runs) where
  -- refused: the runs hold what they held
  pub refused-kept : (0 < built_number (built_of layout bytes (lengths runs))) → tables_of layout bytes runs ≡ runs
  unfolding built_of tables_of
  refused-kept h = go (set_of (kinds_for layout) bytes) h
    where
      room : (tags : Tags) (r : Room) → 0 < built_number (built_by tags r) → tables_by layout tags runs r ≡ runs
      room tags enough_slots i = absurd (omega arith)
      room tags (short_of_slots name needs) i = refl

      go : (s : SetOf) → 0 < built_number (on_set layout (lengths runs) s) → on_set_tables layout runs s ≡ runs
      go (bad_set fault) i = refl
      go (good_set tags) i = room tags (room_in layout tags (lengths runs)) i

  -- done: the machines of the tags stand at their fronts
  pub built-left : {count : ℕ} (b : Builds layout bytes (lengths runs) count) → tables_of layout bytes runs ≡ tables_for layout b.tags runs
  unfolding tables_of
  built-left b =
      rw ((accepted_iff (kinds_for layout) bytes b.tags).1 b.set, (enough_in_iff b.tags layout (lengths runs)).1 b.enough)

  pub left-lengths : length runs ≡ length layout → lengths (tables_of layout bytes runs) ≡ lengths runs
  left-lengths sized = go (built_of layout bytes (lengths runs)) refl (built_when layout bytes (lengths runs))
    where
      go : (b : Built) → built_of layout bytes (lengths runs) ≡ b → BuiltWhen layout bytes (lengths runs) b
          → lengths (tables_of layout bytes runs) ≡ lengths runs
      go (Err (B.Set fault)) e r = ap lengths (refused-kept (rw e (fault-some fault)))
      go (Err (B.Table name needs)) e t = ap lengths (refused-kept (rw e (omega arith)))
      go (Ok count) e t = ap lengths (built-left t) ∙ tables-lengths layout t.tags runs sized

-- each tag of a set that a layout takes has a part of it
all-taken : (layout : Layout) (tags : Tags) → AllSized (kinds_for layout) tags → AllTaken layout tags
all-taken layout [] a = tt
all-taken layout (t ∷ tags) a = (takes_part layout t.kind a.0.known, all-taken layout tags a.1)

-- where building is done: the tags, which are lawful and have their parts, and the runs it leaves
pub record Done (layout : Layout) (bytes : List ℕ) (runs : Runs) (count : ℕ) : Type 0 where
  pub tags : Tags
  pub set : set_of (kinds_for layout) bytes ≡ good_set tags
  pub lawful : Below 256 bytes → LawfulTags tags
  pub taken : AllTaken layout tags
  pub tables : tables_of layout bytes runs ≡ tables_for layout tags runs
  pub left : LeftIn layout tags (tables_for layout tags runs)
  pub number : count ≡ length tags

pub done : (layout : Layout) (bytes : List ℕ) (runs : Runs) (count : ℕ) → built_of layout bytes (lengths runs) ≡ Ok count → Done layout bytes runs count
done layout bytes runs count e =
    let b = (tags_iff layout bytes (lengths runs) count).0 e in
    let good = (accepted_iff (kinds_for layout) bytes b.tags).1 b.set in
    let known = tags-of (kinds_for layout) bytes b.tags good in
    record {
      tags = b.tags;
      set = good;
      lawful = known.lawful (takes_short layout);
      taken = all-taken layout b.tags known.sized;
      tables = built-left layout bytes runs b;
      left = tables-left layout b.tags runs b.enough;
      number = b.counted;
    }
