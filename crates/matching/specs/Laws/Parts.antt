-- A layout read part by part: over runs as building left them, as the tags say; and what every reading keeps, over any runs.
use Prim.Native.Nat.{◌+◌, ◌<◌, ◌≤◌, ℕ}
use Rattle.std.specs.Prelude.{◌&&◌, true, ◌↔◌, ◌≡◌, refl, length, take}
use mathlib.Core.List.{List, [], ◌++◌, ◌∷◌, append-nil}
use Rattle.std.proofs.Common.{◌∙◌, sym, arith, take_at}
use Rattle.std.proofs.Math.Path.{ap, ap₂}
use Rattle.matching.specs.Kinds.{as_read, exact_kind}
use Rattle.matching.specs.Laws.Kinds.{as_read-exact}
use Rattle.matching.specs.Laws.Stepping.{Every, Rising}
use Rattle.matching.specs.Limits.{most_tags}
use Rattle.matching.specs.Occurrence.{Ordered, numbers_where}
use Rattle.matching.specs.Parts.{Layout, Part, Runs, beside, has_part, lengths, part_slots, part_step, place_below}
use Rattle.matching.specs.Parts.{slots_over, step_in, union, width}
use Rattle.matching.specs.Reading.{Outcome, table_step}
use Rattle.matching.specs.Stepping.{Stepped, goes_to, is_damaged}
use Rattle.matching.specs.Tags.{Tags, ends_by}
use Rattle.matching.specs.Words.{Word}
use Rattle.matching.specs.declared.Stop.TheVariants.{All}

-- ---- over runs as left

-- the numbers of the tags that end an input and have a part in a layout
abbrev pub found_by : Layout → Tags → Word → List ℕ
found_by layout tags v = numbers_where (λ t. has_part layout t.kind && ends_by t v) 0 tags

-- ---- one step of a part, and of two side by side

pub beside-goes : (p q tags more : List ℕ) → beside (goes_to p tags) (goes_to q more) ≡ goes_to (p ++ q) (union tags more)
unfolding beside
beside-goes p q tags more = refl

-- two steps side by side that go on: both do
pub data BothGo (a b : Stepped (List ℕ)) (to tags : List ℕ) : Type 0 where
  both_go : (p q these those : List ℕ) → a ≡ goes_to p these → b ≡ goes_to q those → p ++ q ≡ to → union these those ≡ tags → BothGo a b to tags

pub both_go_lem : (a b : Stepped (List ℕ)) (to tags : List ℕ) → beside a b ≡ goes_to to tags → BothGo a b to tags
unfolding beside
both_go_lem is_damaged b to tags e = absurd (let z : ◌≡◌ {A = ℕ} 0 1 = cc in omega arith)
both_go_lem (goes_to p these) is_damaged to tags e = absurd (let z : ◌≡◌ {A = ℕ} 0 1 = cc in omega arith)
both_go_lem (goes_to p these) (goes_to q those) to tags e = both_go p q these those refl refl (cc) (cc)

-- ---- over runs as left

-- each tag has a part in the layout
abbrev pub AllTaken : Layout → Tags → Type 0
AllTaken layout [] = Unit {0}
AllTaken layout (t ∷ tags) = (has_part layout t.kind ≡ true) × AllTaken layout tags

-- ---- over any runs

-- what a layout's step tells
pub record WentIn (layout : Layout) (runs : Runs) (place to tags : List ℕ) : Type 0 where
  pub wide : length place ≡ width layout → length to ≡ width layout
  pub below : length place ≡ width layout → place_below layout (slots_over layout (lengths runs)) to ≡ true
  pub rising : Rising tags
  pub low : Every (λ i. i < most_tags) tags

-- what a reading r of w has done: from a place, with count bytes taken before and room for so many records
pub record KeptIn (layout : Layout) (runs : Runs) (place : List ℕ) (count room : ℕ) (w : Word) (r : Outcome) : Type 0 where
  pub part : r.taken ≤ length w
  pub fits : length r.found ≤ room
  pub wide : length place ≡ width layout → length r.place ≡ width layout
  pub below : length place ≡ width layout → place_below layout (slots_over layout (lengths runs)) place ≡ true
      → place_below layout (slots_over layout (lengths runs)) r.place ≡ true
  pub records : Every (λ o. (count < o.end) × (o.end ≤ count + r.taken) × (o.tag < most_tags)) r.found
  pub idle : r.taken ≡ 0 → (r.place ≡ place) × (r.found ≡ [])
  pub whole : (r.stop ≡ All) ↔ (r.taken ≡ length w)
  pub ordered : Ordered r.found

-- ---- a layout of one part for exact tags is read as its table is

pub one-part : (p : Part) (run place : List ℕ) (c : ℕ) → p.kind ≡ exact_kind → length place ≡ p.machines
    → step_in (p ∷ []) (run ∷ []) place c ≡ table_step p.bits (part_slots p (length run)) run place c
unfolding step_in part_step beside union
one-part p run place c e h =
    ap₂ (λ (q : List ℕ) (x : ℕ). beside (table_step p.bits (part_slots p (length run)) run q x) (goes_to [] []))
    (take_all place p.machines h) (ap (λ (k : ℕ). as_read k c) e ∙ as_read-exact c)
    ∙ alone (table_step p.bits (part_slots p (length run)) run place c)
  where
    take_all : (l : List ℕ) (n : ℕ) → length l ≡ n → take n l ≡ l
    take_all l n q = ap (take n) (sym (append-nil l)) ∙ take_at l [] n q

    alone : (x : Stepped (List ℕ)) → beside x (goes_to [] []) ≡ x
    alone is_damaged = refl
    alone (goes_to to tags) = ap (λ (l : List ℕ). goes_to l tags) (append-nil to)
