-- The reading that knows the whole input so far, and what every reading that follows it comes to.
use Prim.Native.Nat.{◌+◌, ◌-◌, ◌<◌, ◌≤◌, suc, ℕ}
use mathlib.Core.List.{List, [], ◌++◌, ◌∷◌, append_assoc, append-nil}
use Rattle.std.specs.Prelude.{◌⊎◌, take}
use Rattle.std.proofs.Math.Logic.{inl, inr}
use Rattle.std.proofs.Common.{◌∙◌, subst}
use Rattle.std.proofs.Math.Path.{◌≡◌, ap, refl, sym}
use native.Mathlib.Omega.{arith}
use Rattle.std.proofs.Math.ListN.{length, length-append}
use Rattle.matching.specs.Laws.Matches.{occur_at-length}
use Rattle.matching.specs.Laws.Stepping.{Along, Together, both_go, every-reading, le_is, read_by-took, simulation}
use Rattle.matching.specs.Occurrence.{Occurrence, occur_at, occurrences_by}
use Rattle.matching.specs.Stepping.{OutcomeOf, Step, goes_to, halted, input_step, is_damaged, on_place, read_by, took_byte}
use Rattle.matching.specs.Words.{Below, Word}
use Rattle.matching.specs.declared.Stop.TheVariants.{All, Full}

-- the cases of such a reading: it is never damaged
pub record InputCases (f : Word → List ℕ) (M : Word → ℕ → ℕ → Word → OutcomeOf Word → Type 0) : Type 0 where
  pub none : (v : Word) (count room : ℕ) → M v count room [] (halted v All)
  pub full : (v : Word) (count room c : ℕ) (w : Word) → room < length (f (v ++ c ∷ [])) → M v count room (c ∷ w) (halted v Full)
  pub took : (v : Word) (count room c : ℕ) (w : Word) (r : OutcomeOf Word) → length (f (v ++ c ∷ [])) ≤ room
      → M (v ++ c ∷ []) (suc count) (room - length (f (v ++ c ∷ []))) w r → M v count room (c ∷ w) (took_byte (suc count) (f (v ++ c ∷ [])) r)

module _ (f : Word → List ℕ) where
  pub input_step_lem : (v : Word) (c : ℕ) → input_step f v c ≡ goes_to (v ++ c ∷ []) (f (v ++ c ∷ []))
  unfolding input_step
  input_step_lem v c = refl

  step-tags : (v : Word) (c : ℕ) (to : Word) (tags : List ℕ) → input_step f v c ≡ goes_to to tags → f (v ++ c ∷ []) ≡ tags
  unfolding input_step
  step-tags v c to tags e = cc

  step-to : (v : Word) (c : ℕ) (to : Word) (tags : List ℕ) → input_step f v c ≡ goes_to to tags → v ++ c ∷ [] ≡ to
  unfolding input_step
  step-to v c to tags e = cc

  step-never : (v : Word) (c : ℕ) → input_step f v c ≡ is_damaged → ⊥
  unfolding input_step
  step-never v c e = let z : ◌≡◌ {A = ℕ} 0 1 = cc in omega arith

  pub every_input : (M : Word → ℕ → ℕ → Word → OutcomeOf Word → Type 0) → InputCases f M
      → (w v : Word) (count room : ℕ) → M v count room w (read_by (input_step f) v count room w)
  every_input M k = every-reading (input_step f) M (record {
    none = k.none;
    wrong = λ v count room c w e. absurd (step-never v c e);
    full = λ v count room c w to tags e l. k.full v count room c w (subst (λ (x : List ℕ). room < length x) (sym (step-tags v c to tags e)) l);
    took = λ v count room c w to tags r e l h. took v count room c w r to (step-to v c to tags e) tags (step-tags v c to tags e) l h;
  })
    where
      took : (v : Word) (count room c : ℕ) (w : Word) (r : OutcomeOf Word) (to : Word) → v ++ c ∷ [] ≡ to → (tags : List ℕ) → f (v ++ c ∷ []) ≡ tags
          → length tags ≤ room → M to (suc count) (room - length tags) w r → M v count room (c ∷ w) (took_byte (suc count) tags r)
      took v count room c w r to p tags q l h =
          subst (λ (x : List ℕ). M v count room (c ∷ w) (took_byte (suc count) x r)) q
          (k.took v count room c w r (subst (λ (x : List ℕ). length x ≤ room) (sym q) l)
          (subst (λ (x : Word). M x (suc count) (room - length (f (v ++ c ∷ []))) w r) (sym p)
          (subst (λ (x : List ℕ). M to (suc count) (room - length x) w r) (sym q) h)))

  -- what a reading r of w after v has done
  pub record DoneBy (v : Word) (count room : ℕ) (w : Word) (r : OutcomeOf Word) : Type 0 where
    pub part : r.taken ≤ length w
    pub place : r.place ≡ v ++ take r.taken w
    pub found : r.found ≡ occurrences_by f v count (take r.taken w)
    pub fits : length r.found ≤ room
    pub stopped : ((r.stop ≡ All) × (r.taken ≡ length w))
        ⊎ ((r.stop ≡ Full) × (r.taken < length w) × (room < length r.found + length (f (v ++ take (suc r.taken) w))))

  done-took : (v : Word) (count room c : ℕ) (w : Word) (r : OutcomeOf Word) → length (f (v ++ c ∷ [])) ≤ room
      → DoneBy (v ++ c ∷ []) (suc count) (room - length (f (v ++ c ∷ []))) w r → DoneBy v count room (c ∷ w) (took_byte (suc count) (f (v ++ c ∷ [])) r)
  unfolding took_byte occurrences_by
  done-took v count room c w r h d = record {
    part = omega (arith, d.part);
    place = d.place ∙ append_assoc v (c ∷ []) (take r.taken w);
    found = ap {B = List Occurrence} (λ (l : List Occurrence). occur_at (suc count) (f (v ++ c ∷ [])) ++ l) d.found;
    fits = omega (arith, sizes, d.fits);
    stopped = go d.stopped;
  }
    where
      sizes : length (occur_at (suc count) (f (v ++ c ∷ [])) ++ r.found) ≡ length (f (v ++ c ∷ [])) + length r.found
      sizes = omega (arith, length-append (occur_at (suc count) (f (v ++ c ∷ []))) r.found, occur_at-length (suc count) (f (v ++ c ∷ [])))

      go : ((r.stop ≡ All) × (r.taken ≡ length w))
          ⊎ ((r.stop ≡ Full) × (r.taken < length w) ×
          (room - length (f (v ++ c ∷ [])) < length r.found + length (f ((v ++ c ∷ []) ++ take (suc r.taken) w))))
          → ((r.stop ≡ All) × (suc r.taken ≡ suc (length w)))
          ⊎ ((r.stop ≡ Full) × (suc r.taken < suc (length w))
          × (room < length (occur_at (suc count) (f (v ++ c ∷ [])) ++ r.found) + length (f (v ++ c ∷ take (suc r.taken) w))))
      go (inl e) = inl (e.0, ap suc e.1)
      go (inr e) = inr (
        e.0,
        omega (arith, e.1),
        omega
            (arith, e.2, sizes, ap (λ (u : Word). length (f u)) (append_assoc v (c ∷ []) (take (suc r.taken) w))),
      )

  pub done-by : (w v : Word) (count room : ℕ) → DoneBy v count room w (read_by (input_step f) v count room w)
  unfolding halted occurrences_by
  done-by = every_input DoneBy (record {
    none = λ v count room. record { part = omega arith; place = sym (append-nil v); found = refl; fits = omega arith; stopped = inl (refl, refl) };
    full = λ v count room c w h. record {
      part = omega arith;
      place = sym (append-nil v);
      found = refl;
      fits = omega arith;
      stopped =
          inr (refl, omega arith, omega (arith, h));
    };
    took = done-took;
  })

  -- with room for them all, all are written
  pub all-by : (w v : Word) (count room : ℕ) → length (occurrences_by f v count w) ≤ room
      → read_by (input_step f) v count room w ≡ record { taken = length w; place = v ++ w; stop = All; found = occurrences_by f v count w }
  unfolding read_by halted occurrences_by took_byte
  all-by [] v count room h = ap {B = OutcomeOf Word} (λ (u : Word). record { taken = 0; place = u; stop = All; found = [] }) (sym (append-nil v))
  all-by (c ∷ w) v count room h =
      read_by-took (input_step f) v count room c w (v ++ c ∷ []) (f (v ++ c ∷ [])) (input_step_lem v c)
      (le_is (length (f (v ++ c ∷ []))) room (omega (arith, sizes)))
      ∙ ap {B = OutcomeOf Word} (took_byte (suc count) (f (v ++ c ∷ [])))
      (all-by w (v ++ c ∷ []) (suc count) (room - length (f (v ++ c ∷ []))) (omega (arith, sizes)))
      ∙ ap {B = OutcomeOf Word}
      (λ (u : Word). record {
        taken = suc (length w);
        place = u;
        stop = All;
        found =
            occur_at (suc count) (f (v ++ c ∷ [])) ++ occurrences_by f (v ++ c ∷ []) (suc count) w;
      }) (append_assoc v (c ∷ []) w)
    where
      sizes : length (occur_at (suc count) (f (v ++ c ∷ [])) ++ occurrences_by f (v ++ c ∷ []) (suc count) w)
          ≡ length (f (v ++ c ∷ [])) + length (occurrences_by f (v ++ c ∷ []) (suc count) w)
      sizes = omega (
        arith,
        length-append (occur_at (suc count) (f (v ++ c ∷ []))) (occurrences_by f (v ++ c ∷ []) (suc count) w),
        occur_at-length (suc count)
            (f (v ++ c ∷ [])),
      )

-- ---- readings that follow it

-- a reading whose place stands for the input is the same, its place put for the input
pub outcome_eq : {P Q : Type 0} (φ : Q → P) (a : OutcomeOf P) (b : OutcomeOf Q) → a.taken ≡ b.taken → a.place ≡ φ b.place → a.stop ≡ b.stop
    → a.found ≡ b.found
    → a ≡ on_place φ b
unfolding on_place
outcome_eq φ a b t p s f = λ i. record { taken = t i; place = p i; stop = s i; found = f i }

pub below_snoc : (m : ℕ) (v : Word) (c : ℕ) → Below m v → c < m → Below m (v ++ c ∷ [])
below_snoc m [] c h hc = (hc, tt)
below_snoc m (x ∷ v) c h hc = (h.0, below_snoc m v c h.1 hc)

-- R is kept, and what f finds is found, by the steps from related places, over letters below m
abbrev pub Follows : {P : Type 0} → ℕ → Step P → (Word → List ℕ) → (P → Word → Type 0) → Type 0
Follows {P} m step f R = (p : P) (v : Word) (c : ℕ) → R p v → c < m → Along R (step p c) (input_step f v c)

pub follows : {P : Type 0} (m : ℕ) (step : Step P) (f : Word → List ℕ) (R : P → Word → Type 0) → Follows m step f R
    → (w : Word) (p : P) (v : Word) (count room : ℕ) → R p v → Below m w → Together R (read_by step p count room w) (read_by (input_step f) v count room w)
follows m step f R h w p v count room = simulation R step (input_step f) m h w p v count room

-- the same where the place is a function of the input
pub follows_place : {P : Type 0} (m : ℕ) (step : Step P) (f : Word → List ℕ) (φ : Word → P)
    → ((v : Word) (c : ℕ) → Below m v → c < m → step (φ v) c ≡ goes_to (φ (v ++ c ∷ [])) (f (v ++ c ∷ [])))
    → (w v : Word) (count room : ℕ) → Below m v → Below m w → read_by step (φ v) count room w ≡ on_place φ (read_by (input_step f) v count room w)
follows_place {P} m step f φ h w v count room hv hw =
    let t = follows m step f (λ p v. (p ≡ φ v) × Below m v) along w (φ v) v count room (refl, hv) hw in
    outcome_eq φ (read_by step (φ v) count room w) (read_by (input_step f) v count room w) t.taken t.place.0 t.stop t.found
  where
    along : Follows m step f (λ p v. (p ≡ φ v) × Below m v)
    along p v c r hc =
        rw (r.0, h v c r.1 hc, input_step_lem f v c)
        (both_go (φ (v ++ c ∷ [])) (v ++ c ∷ []) (f (v ++ c ∷ [])) (refl, below_snoc m v c r.1 hc))
