-- The two tables of the split layout over a block, the second first.
use Rattle.std.specs.Prelude.{◌+◌, ◌≤◌, ℕ, Bool, ◌||◌, false, true, List, [], ◌++◌, ◌∷◌, ◌≡◌, refl, drop, length, take}
use Rattle.std.proofs.Common.{◌∙◌, append-nil, arith, drop_at, drop_of_length-le, take_all, take_at}
use Rattle.std.proofs.Math.Seq.{length-sets}
use Rattle.std.proofs.lemmas.List.Edits.{sets, sets-eq}
use Rattle.matching.specs.Parts.{split_layout}
use Rattle.matching.specs.Reading.{table_step}
use Rattle.matching.specs.Words.{Word}
use Rattle.passing.specs.Steps as steps
use Rattle.blocks.specs.Laws.Blocks.{Walking, turn_able, turn_end, turn_more, turn_start}
use Rattle.blocks.specs.Laws.Parts.{fits_sized}
use Rattle.blocks.specs.Laws.Places.{put-behind}
use Rattle.blocks.specs.Parts.{Fits, Lettered, Walks, clean}
use Rattle.blocks.specs.Walking.{NotedIf}
use Rattle.blocks.specs.declared.walks.Walked.{Walked}

-- both parts of a place put in are the place
put-both : (start q r : List ℕ) → length start ≡ 16 → length q ≡ 8 → length r ≡ 8 → sets (sets start 8 r) 0 q ≡ q ++ r
put-both start q r ls lq lr =
    let z : 0 + length q ≡ 8 = omega arith in
    let none : drop (8 + length r) start ≡ [] = drop_of_length-le start {i = 8 + length r} (omega arith) in
    sets-eq q (sets start 8 r) 0 (omega (arith, length-sets start 8 r)) ∙ rw (z, put-behind start 8 r (omega arith), none, append-nil r)

module _ (first second : List ℕ) (s₁ s₂ : ℕ) (awake₁ awake₂ : Bool) (starts₁ starts₂ start : List ℕ) (long₁ : length starts₁ ≡ 128) (long₂ : length starts₂ ≡ 128)
    (fits : Fits split_layout (first ∷ second ∷ []) (s₁ ∷ s₂ ∷ []) (awake₁ ∷ awake₂ ∷ []) (starts₁ ++ starts₂) start)
    (block near : Word) (letters : Lettered split_layout (awake₁ ∷ awake₂ ∷ []) (block ∷ near ∷ []) block) (few : length block ≤ 256)
    (h₀ : List ℕ) (clear : h₀ ≡ clean) where
  begun : Walking split_layout (first ∷ second ∷ []) start block h₀ start (length block) false 2
  begun = turn_start _ _ _ _ _ _ fits _ _ letters few h₀ clear

  pub second_able : awake₂ ≡ true → steps.Step 1 s₂ second starts₂ (take 8 (drop 8 start)) × ((length block ≤ length near) × (length block ≤ 256))
  second_able e =
      rw (drop_at starts₁ starts₂ 128 long₁, take_all 128 starts₂ (omega (arith, long₂))) at
      (turn_able _ _ _ _ _ _ fits _ _ letters few _ _ _ _ _ begun 1 refl near refl e)

  module _ (r : Walked 8) (h : List ℕ) (noted : NotedIf awake₂ (table_step 1 s₂ second) (take 8 (drop 8 start)) near (length block) r h₀ h) where
    halfway : Walking split_layout (first ∷ second ∷ []) start block h (sets start 8 r.place) r.at r.loud 1
    halfway = turn_more _ _ _ _ _ _ fits _ _ letters few _ _ _ _ _ begun 1 refl near refl r h noted _ refl

    pub first_able : awake₁ ≡ true → steps.Step 1 s₁ first starts₁ (take 8 start) × ((r.at ≤ length block) × (r.at ≤ 256))
    first_able e =
        rw (take_at starts₁ starts₂ 128 long₁) at
        (turn_able _ _ _ _ _ _ fits _ _ letters few _ _ _ _ _ halfway 0 refl block refl e)

    pub both_walked : (q : Walked 8) (h' : List ℕ) → NotedIf awake₁ (table_step 1 s₁ first) (take 8 start) block r.at q h h'
        → length q.place ≡ 8 → length r.place ≡ 8
        → Walks split_layout (first ∷ second ∷ []) start block h' (record { at = q.at; place = q.place ++ r.place; loud = r.loud || q.loud })
    both_walked q h' noted' lq lr =
        rw (← put-both start q.place r.place (fits_sized _ _ _ _ _ _ fits) lq lr)
        (turn_end _ _ _ _ _ _ fits _ _ letters few _ _ _ _ _
        (turn_more _ _ _ _ _ _ fits _ _ letters few _ _ _ _ _ halfway 0 refl block refl q h' noted' _ refl) refl)
