-- What the builder answers, and what it leaves, as the code has it.
use Rattle.std.specs.Prelude.{Err, Ok}
use Rattle.tables.specs.declared.BuildFault.TheVariants as B
use Prim.Native.Nat.{◌*◌, ◌<◌, ◌≤◌, ℕ}
use mathlib.Core.List.{List, ◌++◌}
use mathlib.Core.Path.{◌∙◌, ◌≡◌, ap, subst, sym}
use native.Mathlib.Omega.{arith}
use lib.ListN.{drop, length, take}
use lib.Seq.{length-take-le}
use Rattle.matching.specs.Machine.{states}
use Rattle.matching.specs.Table.{enough_slots}
use Rattle.matching.specs.Words.{Below, Lawful, Word}
use Rattle.tagset.specs.Answer.{cut_at}
use Rattle.tagset.specs.Grammar.{bad_set, set_of}
use Rattle.tagset.specs.Laws.Exact.{accepted_iff}
use Rattle.tagset.specs.Laws.Lent.{GoodRead, lent-words}
use Rattle.tagset.specs.Refusals.{Accepted}
use Rattle.tagset.specs.declared.SetFault.{SetFault}
use Rattle.tagset.specs.declared.Places.{Places}
use Rattle.machines.specs.Rows.{Fit}
use Rattle.tables.specs.Building.{Built}
use Rattle.bitmap.specs.Laws.States.{states-same}
use Rattle.bitmap.specs.Levels.{by_level}
use Rattle.bitmap.specs.Slots.{built, room_in, slots_of}
use Rattle.bitmap_tables.specs.Building.{map_built_by, map_built_of, map_built_tags, map_kinds, map_table_by, map_table_of, map_table_tags, words_of}
use Rattle.bitmap_tables.specs.Laws.Exact.{map-exact, map-lawful, room-enough, room-short}
use Rattle.bitmap_tables.specs.Laws.Left.{slots-fit}

-- ---- tags

module _ {ts : List Word} (l : Lawful ts) (run : List ℕ) (s : ℕ) (es : s ≡ slots_of (length run)) (n : ℕ) (en : n ≡ states ts) where
  pub slots_lent : s * 19 ≡ length (take (s * 19) run)
  slots_lent = sym (length-take-le (s * 19) run (omega (arith, es, slots-fit (length run))))

  pub states_are : n ≡ length (by_level ts)
  states_are = en ∙ sym (states-same ts l)

  module _ (h : s < n) where
    short : slots_of (length run) < states ts
    short = omega (arith, h, es, en)

    pub short-answer : Err (B.Table 253 n) ≡ map_built_tags ts (length run)
    short-answer = ap (λ (needs : ℕ). Err (B.Table 253 needs)) en ∙ ap (map_built_by ts) (sym (room-short ts l (slots_of (length run)) short))

    pub short-table : run ≡ map_table_tags ts run
    short-table = ap (map_table_by ts run) (sym (room-short ts l (slots_of (length run)) short))

  module _ (h : n ≤ s) where
    enough : room_in (slots_of (length run)) ts ≡ enough_slots
    enough = room-enough ts l (slots_of (length run)) (omega (arith, h, es, en))

    pub done-answer : (count : ℕ) → length ts ≡ count → Ok count ≡ map_built_tags ts (length run)
    done-answer count e = ap Ok (sym e) ∙ ap (map_built_by ts) (sym enough)

    pub done-table : (front : List ℕ) → front ≡ built s ts → front ++ drop (s * 19) run ≡ map_table_tags ts run
    done-table front e =
        ap {B = List ℕ} (λ (f : List ℕ). f ++ drop (s * 19) run) e ∙ ap {B = List ℕ} (λ (x : ℕ). built x ts ++ drop (x * 19) run) es
        ∙ ap (map_table_by ts run) (sym enough)

-- ---- a set

module _ (bytes run : List ℕ) where
  pub fault-answer : {fault : SetFault} → set_of map_kinds bytes ≡ bad_set fault → Err (B.Set fault) ≡ map_built_of bytes (length run)
  unfolding map_built_of
  fault-answer e = rw e

  pub fault-table : {fault : SetFault} → set_of map_kinds bytes ≡ bad_set fault → run ≡ map_table_of bytes run
  unfolding map_table_of
  fault-table e = rw e

  module _ {p : Places} (g : GoodRead map_kinds bytes p) where
    abbrev cut : List Word
    cut = cut_at bytes (take p.count p.from) (take p.count p.to)

    pub read-lawful : Below 256 bytes → Lawful cut
    read-lawful small =
        let x = map-exact bytes g.tags ((accepted_iff map_kinds bytes g.tags).0 g.good) in
        subst Lawful (sym (lent-words g.lent))
        (map-lawful bytes small (words_of g.tags) (subst (Accepted map_kinds bytes) x ((accepted_iff map_kinds bytes g.tags).0 g.good)))

    pub read-fit : Below 256 bytes → Fit cut
    read-fit small = let l = read-lawful small in record { few = l.few; short = l.short }

    pub good-answer : (answer : Built) → answer ≡ map_built_tags cut (length run) → answer ≡ map_built_of bytes (length run)
    unfolding map_built_of
    good-answer answer e = rw g.good (e ∙ ap (λ (ts : List Word). map_built_tags ts (length run)) (lent-words g.lent))

    pub good-table : (after : List ℕ) → after ≡ map_table_tags cut run → after ≡ map_table_of bytes run
    unfolding map_table_of
    good-table after e = rw g.good (e ∙ ap (λ (ts : List Word). map_table_tags ts run) (lent-words g.lent))
