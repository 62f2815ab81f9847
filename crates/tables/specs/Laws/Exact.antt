-- Building is refused, and done, exactly when the rules say so.
use Rattle.std.specs.Prelude.{Err, Ok}
use Rattle.tables.specs.declared.BuildFault.TheVariants as B
use Rattle.tables.specs.Building.{of_parts}
use Rattle.tables.specs.declared.Needed.{Needed}
use Rattle.std.specs.Prelude.{◌+◌, ◌<◌, ◌≤◌, max, suc, zero, ℕ, List, ◌↔◌, refl}
use Rattle.std.proofs.Common.{arith}
use Rattle.std.proofs.Math.Path.{◌≡◌, ap, subst, sym}
use Rattle.std.proofs.Math.Decide.{ℕ_discrete}
use Rattle.std.proofs.Math.ListN.{get_or}
use Rattle.matching.specs.Kinds.{TagKind}
use Rattle.matching.specs.Laws.Layouts.{JudgedIn, all_enough, enough_in_iff, judged_in, short_in_iff, some_short}
use Rattle.matching.specs.Machine.{states}
use Rattle.matching.specs.Parts.{Layout, kinds_for, room_in}
use Rattle.matching.specs.Table.{Room, tags_for}
use Rattle.matching.specs.Tags.{Tags}
use Rattle.matching.specs.Words.{Word}
use Rattle.tables.specs.Building.{built_by, built_number, built_of, built_values, most_states, needed_by, needed_number, needed_of, needed_values, on_set}
use Rattle.tables.specs.Building.{slots_needed}
use Rattle.tables.specs.Refusals.{AnswersBy, Builds, NeedsAs, TooFewSlots}
use Rattle.tables.specs.Refusals.{a_fault, a_table, a_tags, needs_none, needs_slots}
use Rattle.tables.specs.Building.{Built}
use Rattle.tagset.specs.Grammar.{SetOf, set_of}
use Rattle.tagset.specs.Laws.Exact.{SetCase, accepted_iff, as_fault, is_bad, is_good, numbered_as, refused_iff, set_case}
use Rattle.tagset.specs.Refusals.{Accepted, Refused}
use Rattle.tagset.specs.declared.SetFault.{SetFault}

-- ---- any builder's answer, by its own two conditions

-- when each answer is to be given, in the rules' words: where the set is at fault as they have it, and else where the builder's own condition holds
abbrev pub WhenBy : (ℕ → Type 0) → (ℕ → ℕ → Type 0) → List TagKind → List ℕ → Built → Type 0
WhenBy Done Short ks bytes (Err (B.Set fault)) = Refused ks bytes fault
WhenBy Done Short ks bytes (Err (B.Table name needs)) = Short name needs
WhenBy Done Short ks bytes (Ok count) = Done count

-- each answer is given exactly then, if what is given is so, and what is so is given
pub exactly_when : (When : Built → Type 0) (b : Built) → When b → ((a : Built) → When a → b ≡ a) → (a : Built) → (b ≡ a) ↔ When a
exactly_when When b w so a = (λ e. subst When e w, so a)

module _ (Done : ℕ → Type 0) (Short : ℕ → ℕ → Type 0) (ks : List TagKind) (bytes : List ℕ) (b : Built)
    (exactly : (a : Built) → (b ≡ a) ↔ WhenBy Done Short ks bytes a) where
  pub says : (a : Built) → WhenBy Done Short ks bytes a → AnswersBy Done Short ks bytes (built_number a) (built_values a)
  says (Err (B.Set fault)) r = a_fault (numbered_as ks bytes fault r)
  says (Err (B.Table name needs)) t = a_table t
  says (Ok count) t = a_tags t

-- ---- the builder of a layout

module _ (layout : Layout) (bytes lens : List ℕ) where
  abbrev pub BuiltWhen : Built → Type 0
  BuiltWhen = WhenBy (Builds layout bytes lens) (TooFewSlots layout bytes lens) (kinds_for layout) bytes

  -- what the rules say, the definition does
  built_so : (b : Built) → BuiltWhen b → built_of layout bytes lens ≡ b
  unfolding built_of
  built_so (Err (B.Set fault)) r = rw ((refused_iff (kinds_for layout) bytes fault).1 r)
  built_so (Err (B.Table name needs)) t =
      rw ((accepted_iff (kinds_for layout) bytes t.tags).1 t.set, (short_in_iff t.tags layout lens name needs).1 t.short)
  built_so (Ok count) b =
      rw ((accepted_iff (kinds_for layout) bytes b.tags).1 b.set, (enough_in_iff b.tags layout lens).1 b.enough, b.counted)

  -- and what the definition does, the rules say
  pub built_when : BuiltWhen (built_of layout bytes lens)
  unfolding built_of
  built_when = go (set_of (kinds_for layout) bytes) (set_case (kinds_for layout) bytes)
    where
      on-tags : (tags : Tags) → Accepted (kinds_for layout) bytes tags → (r : Room) → JudgedIn tags layout lens r → BuiltWhen (built_by tags r)
      on-tags tags a r (all_enough f) = record { tags = tags; set = a; counted = refl; enough = f }
      on-tags tags a r (some_short x) = record { tags = tags; set = a; short = x }

      go : (s : SetOf) → SetCase (kinds_for layout) bytes s → BuiltWhen (on_set layout lens s)
      go s (is_bad r) = r
      go s (is_good {ts} a) = on-tags ts a (room_in layout ts lens) (judged_in ts layout lens)

  pub exactly : (b : Built) → (built_of layout bytes lens ≡ b) ↔ BuiltWhen b
  exactly = exactly_when BuiltWhen (built_of layout bytes lens) built_when built_so

  -- a set fault is given exactly if the set is refused so
  pub fault_iff : (fault : SetFault) → (built_of layout bytes lens ≡ Err (B.Set fault)) ↔ Refused (kinds_for layout) bytes fault
  fault_iff fault = exactly (Err (B.Set fault))

  -- TABLE is given exactly if the set is good and some machine has more distinct prefixes than slots: with the lowest, and its count
  pub table_iff : (name needs : ℕ) → (built_of layout bytes lens ≡ Err (B.Table name needs)) ↔ TooFewSlots layout bytes lens name needs
  table_iff name needs = exactly (Err (B.Table name needs))

  -- building is done exactly if neither is
  pub tags_iff : (count : ℕ) → (built_of layout bytes lens ≡ Ok count) ↔ Builds layout bytes lens count
  tags_iff count = exactly (Ok count)

-- ---- the slots that a set needs

-- so many slots are enough exactly if no machine needs more
pub most_iff : (n : ℕ) (ts : List Word) (s k m : ℕ) → (most_states n ts m k ≤ s) ↔ ((j : ℕ) → m ≤ j → j < m + k → states (tags_for n ts j) ≤ s)
unfolding most_states
most_iff n ts s zero m = (λ h j a b. absurd (omega arith), λ f. omega arith)
most_iff n ts s (suc k) m =
    let ih = most_iff n ts s k (suc m) in (
      λ h j a b. at h (ih.0 (omega arith)) j a b (ℕ_discrete m j),
      λ f. omega (arith, f m (omega arith) (omega arith), ih.1 (λ j a b. f j (omega arith) (omega arith))),
    )
  where
    at : max (states (tags_for n ts m)) (most_states n ts (suc m) k) ≤ s → ((j : ℕ) → suc m ≤ j → j < suc m + k → states (tags_for n ts j) ≤ s)
        → (j : ℕ) → m ≤ j → j < m + suc k → Dec (m ≡ j) → states (tags_for n ts j) ≤ s
    at h f j a b (yes e) = subst (λ (x : ℕ). states (tags_for n ts x) ≤ s) e (omega arith)
    at h f j a b (no d) = f j (omega arith) (omega arith)

module _ (layout : Layout) (bytes : List ℕ) where
  pub needed-fault_iff : (fault : SetFault) → (needed_of layout bytes ≡ Err fault) ↔ Refused (kinds_for layout) bytes fault
  unfolding needed_of
  needed-fault_iff fault = (
    λ e. go (set_of (kinds_for layout) bytes) (set_case (kinds_for layout) bytes) e,
    λ r. rw ((refused_iff (kinds_for layout) bytes fault).1 r),
  )
    where
      go : (s : SetOf) → SetCase (kinds_for layout) bytes s → needed_by layout s ≡ Err fault → Refused (kinds_for layout) bytes fault
      go s (is_bad r) e = subst (Refused (kinds_for layout) bytes) (cc) r
      go s (is_good a) e = let z : ◌≡◌ {A = ℕ} 0 1 = cc in absurd (omega arith)

  pub needed-slots_iff : (first second : ℕ) → (needed_of layout bytes ≡ Ok (of_parts first second))
      ↔ ((tags : Tags) × (Accepted (kinds_for layout) bytes tags) × (first ≡ get_or (slots_needed layout tags) 0 0)
      × (second ≡ get_or (slots_needed layout tags) 1 0))
  unfolding needed_of
  needed-slots_iff first second = (
    λ e. go (set_of (kinds_for layout) bytes) (set_case (kinds_for layout) bytes) e,
    λ r. rw ((accepted_iff (kinds_for layout) bytes r.0).1 r.1, r.2, r.3),
  )
    where
      go : (s : SetOf) → SetCase (kinds_for layout) bytes s → needed_by layout s ≡ Ok (of_parts first second)
          → (tags : Tags) × (Accepted (kinds_for layout) bytes tags) × (first ≡ get_or (slots_needed layout tags) 0 0)
          × (second ≡ get_or (slots_needed layout tags) 1 0)
      go s (is_bad r) e = let z : ◌≡◌ {A = ℕ} 0 1 = cc in absurd (omega arith)
      go s (is_good {ts} a) e =
          let q : of_parts (get_or (slots_needed layout ts) 0 0) (get_or (slots_needed layout ts) 1 0) ≡ of_parts first second = cc in
          (ts, a, sym (ap (λ (n : Needed). n.first) q), sym (ap (λ (n : Needed). n.second) q))

  -- EACH NUMBER IS GIVEN WITH ITS VALUES EXACTLY IF ITS ROW SAYS SO
  pub needed-number_iff : (number : ℕ) (values : List ℕ)
      → ((needed_number (needed_of layout bytes) ≡ number) × (needed_values (needed_of layout bytes) ≡ values)) ↔ NeedsAs layout bytes number values
  unfolding needed_of
  needed-number_iff number values =
      (λ e. there (set_of (kinds_for layout) bytes) (set_case (kinds_for layout) bytes) e.0 e.1, back number values)
    where
      says : (s : SetOf) → SetCase (kinds_for layout) bytes s → NeedsAs layout bytes (needed_number (needed_by layout s)) (needed_values (needed_by layout s))
      says s (is_bad {fault} r) = needs_none (numbered_as (kinds_for layout) bytes fault r)
      says s (is_good a) = needs_slots a

      there : (s : SetOf) → SetCase (kinds_for layout) bytes s → needed_number (needed_by layout s) ≡ number → needed_values (needed_by layout s) ≡ values
          → NeedsAs layout bytes number values
      there s c en ev =
          subst (λ (l : List ℕ). NeedsAs layout bytes number l) ev (subst (λ (x : ℕ). NeedsAs layout bytes x (needed_values (needed_by layout s))) en (says s c))

      back : (j : ℕ) (l : List ℕ) → NeedsAs layout bytes j l
          → (needed_number (needed_by layout (set_of (kinds_for layout) bytes)) ≡ j) × (needed_values (needed_by layout (set_of (kinds_for layout) bytes)) ≡ l)
      back j l (needs_none r) =
          let f = as_fault (kinds_for layout) bytes j l r in
          rw f.refused (f.number_is, f.values_are)
      back j l (needs_slots {tags} a) = rw ((accepted_iff (kinds_for layout) bytes tags).1 a) (refl, refl)
