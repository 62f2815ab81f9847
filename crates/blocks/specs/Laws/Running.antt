-- Bytes walked one after another: one byte more, cut in two, in one way only, and as the front of a reading.
use Prim.Native.Nat.{◌+◌, ◌-◌, ◌<◌, ◌≤◌, suc, zero, ℕ}
use Rattle.std.specs.Prelude.{List, [], ◌++◌, ◌∷◌, map, ◌≡◌, refl, drop, get_or, replicate, take}
use Rattle.std.proofs.Common.{append_assoc, append-nil, ◌∙◌, ap₂, subst, sym, add-zero, take_all}
use Rattle.std.proofs.Math.Path.{ap}
use Rattle.std.proofs.Math.Decide.{dec_lt}
use Rattle.std.proofs.Math.Nat.{sub-zero}
use native.Mathlib.Omega.{arith}
use Rattle.std.proofs.Math.ListN.{length, length-append}
use Rattle.std.proofs.lemmas.List.{length-map}
use Rattle.matching.specs.Laws.Matches.{occur_at-length}
use Rattle.matching.specs.Laws.Slices.{map-take}
use Rattle.matching.specs.Laws.Stepping.{le_is, read_by-took}
use Rattle.matching.specs.Occurrence.{Occurrence, occur_at}
use Rattle.matching.specs.Stepping.{Step, goes_to, is_damaged, read_by, took_byte}
use Rattle.matching.specs.Words.{Word}
use Rattle.passing.specs.Laws.Passing.{ahead-ahead, ahead-byte, ahead_none}
use Rattle.passing.specs.Quiet.{ahead}
use Rattle.blocks.specs.Running.{Came, Ran, at_rest, onward, records_of}

module _ {P : Type 0} (step : Step P) where
  pub ran_snoc : {p : P} {w : Word} {q : P} {rows : List (List ℕ)} → Ran step p w q rows → (c : ℕ) (to : P) (tags : List ℕ) → step q c ≡ goes_to to tags
      → Ran step p (w ++ c ∷ []) to (rows ++ tags ∷ [])
  ran_snoc (at_rest p) c to tags e = onward p c to tags [] to [] e (at_rest to)
  ran_snoc (onward p x m these w q rows f r) c to tags e =
      onward p x m these (w ++ c ∷ []) to (rows ++ tags ∷ []) f (ran_snoc r c to tags e)

  pub ran-long : {p : P} {w : Word} {q : P} {rows : List (List ℕ)} → Ran step p w q rows → length rows ≡ length w
  ran-long (at_rest p) = refl
  ran-long (onward p x m these w q rows f r) = ap suc (ran-long r)

  -- cut in two
  pub record Cut (p : P) (w : Word) (q : P) (rows : List (List ℕ)) (n : ℕ) : Type 0 where
    pub middle : P
    pub first : Ran step p (take n w) middle (take n rows)
    pub second : Ran step middle (drop n w) q (drop n rows)

  pub ran-cut : (n : ℕ) {p : P} {w : Word} {q : P} {rows : List (List ℕ)} → Ran step p w q rows → Cut p w q rows n
  ran-cut zero {p} r = record { middle = p; first = at_rest p; second = r }
  ran-cut (suc n) (at_rest p) = record { middle = p; first = at_rest p; second = at_rest p }
  ran-cut (suc n) (onward p x m these w q rows f r) =
      let k = ran-cut n r in
      record { middle = k.middle; first = onward p x m these (take n w) k.middle (take n rows) f k.first; second = k.second }

  -- in one way only
  pub ran-same : {p : P} {w : Word} {q q' : P} {rows rows' : List (List ℕ)} → Ran step p w q rows → Ran step p w q' rows' → (q ≡ q') × (rows ≡ rows')
  ran-same (at_rest p) (at_rest p') = (refl, refl)
  ran-same (onward p x m these w q rows f r) (onward p' x' m' those w' q' rows' f' r') =
      let e : m' ≡ m = cc in
      let t : these ≡ those = cc in
      let s = ran-same r (subst (λ (k : P). Ran step k w q' rows') e r') in
      (s.0, ap₂ ◌∷◌ t s.1)

  -- no byte of it shows damage
  not-wrong : {p : P} {w : Word} {q : P} {rows : List (List ℕ)} → Ran step p w q rows → (i : ℕ) → i < length w
      → {at : P} {some : List (List ℕ)} → Ran step p (take i w) at some → step at (get_or w i 0) ≡ is_damaged → ⊥
  not-wrong (at_rest p) i h r e = absurd (omega arith)
  not-wrong (onward p x m these w q rows f r) zero h (at_rest p') e = let z : ◌≡◌ {A = ℕ} 0 1 = cc in omega arith
  not-wrong (onward p x m these w q rows f r) (suc i) h {at} {some} (onward p' x' m' those w' q' rows' f' r') e =
      let d : m' ≡ m = cc in
      not-wrong r i (omega arith) (subst (λ (k : P). Ran step k (take i w) at rows') d r') e

  -- the first of it
  pub ran_first : {p : P} {w : Word} {q : P} {rows : List (List ℕ)} → Ran step p w q rows → 0 < length w
      → (to : P) × (step p (get_or w 0 0) ≡ goes_to to (get_or rows 0 []))
  ran_first (at_rest p) h = absurd (omega arith)
  ran_first (onward p x m these w q rows f r) h = (m, f)

  -- so a walk over bytes that lead on comes to their end
  pub came-whole : {p : P} {w : Word} {e : ℕ} {q q' : P} {rows rows' : List (List ℕ)} → Came step p w e q rows → Ran step p w q' rows'
      → (e ≡ length w) × (q ≡ q')
  came-whole {p} {w} {e} {q} {q'} {rows} {rows'} g r = go (dec_lt e (length w))
    where
      go : Dec (e < length w) → (e ≡ length w) × (q ≡ q')
      go (yes h) = absurd (not-wrong r e h g.ran (g.wrong h))
      go (no h) =
          let z : e ≡ length w = omega (arith, g.most) in
          let all : take e w ≡ w = take_all e w (omega (arith, z)) in
          (z, g.there z ∙ (ran-same (subst (λ (v : Word). Ran step p v g.at rows) all g.ran) r).0)

  -- where no byte leads away from a place and nothing is found there
  pub ran-still : (p : P) → ((c : ℕ) → step p c ≡ goes_to p []) → (w : Word) → Ran step p w p (replicate (length w) [])
  ran-still p h [] = at_rest p
  ran-still p h (c ∷ w) = onward p c p [] w p (replicate (length w) []) (h c) (ran-still p h w)

  -- ---- the front of a reading

  pub ran-read : {p : P} {w : Word} {q : P} {rows : List (List ℕ)} → Ran step p w q rows → (count room : ℕ) (rest : Word)
      → length (records_of count rows) ≤ room
      → read_by step p count room (w ++ rest)
      ≡ ahead (length w) (records_of count rows) (read_by step q (count + length w) (room - length (records_of count rows)) rest)
  unfolding records_of
  ran-read (at_rest p) count room rest fits = rw (add-zero, sub-zero) (sym (ahead_none (read_by step p count room rest)))
  ran-read (onward p c to tags w q rows e r) count room rest fits =
      let more = records_of (suc count) rows in
      let long : length (occur_at (suc count) tags ++ more) ≡ length tags + length more =
      omega (arith, length-append (occur_at (suc count) tags) more, occur_at-length (suc count) tags) in
      let on : suc count + length w ≡ count + suc (length w) = omega arith in
      let left : room - length tags - length more ≡ room - length (occur_at (suc count) tags ++ more) = omega (arith, long) in
      let one : 1 + length w ≡ suc (length w) = omega arith in
      read_by-took step p count room c (w ++ rest) to tags e (le_is (length tags) room (omega (arith, long)))
      ∙ ap (took_byte (suc count) tags) (ran-read r (suc count) (room - length tags) rest (omega (arith, long)))
      ∙ ahead-byte (suc count) tags _
      ∙ ahead-ahead 1 (length w) (occur_at (suc count) tags) more _
      ∙ rw (one, on, left)

-- ---- bytes that are read as others

map_at : (f : ℕ → ℕ) (w : Word) (i : ℕ) → i < length w → get_or (map f w) i 0 ≡ f (get_or w i 0)
map_at f [] i h = absurd (omega arith)
map_at f (c ∷ w) zero h = refl
map_at f (c ∷ w) (suc i) h = map_at f w i (omega arith)

module _ {P : Type 0} (step as_read : Step P) (f : ℕ → ℕ) (same : (p : P) (c : ℕ) → as_read p c ≡ step p (f c)) where
  ran-reads : {p : P} (w : Word) {q : P} {rows : List (List ℕ)} → Ran step p (map f w) q rows → Ran as_read p w q rows
  ran-reads [] (at_rest p) = at_rest p
  ran-reads (c ∷ w) (onward p x m these v q rows e r) = onward p c m these w q rows (same p c ∙ e) (ran-reads {p = m} w r)

  pub came-read : {p : P} {w : Word} {e : ℕ} {q : P} {rows : List (List ℕ)} → Came step p (map f w) e q rows → Came as_read p w e q rows
  came-read {p} {w} {e} {q} {rows} g = record {
    most = omega (arith, g.most, length-map w f);
    at = g.at;
    ran = ran-reads (take e w) (subst (λ (v : Word). Ran step p v g.at rows) (map-take f e w) g.ran);
    there = λ z. g.there (omega (arith, z, length-map w f));
    wrong = λ h. same g.at (get_or w e 0) ∙ ap (step g.at) (sym (map_at f w e h)) ∙ g.wrong (omega (arith, h, length-map w f));
  }

-- ---- the records of rows

pub records_snoc : (count : ℕ) (rows : List (List ℕ)) (tags : List ℕ)
    → records_of count (rows ++ tags ∷ []) ≡ records_of count rows ++ occur_at (suc (count + length rows)) tags
unfolding records_of
records_snoc count [] tags = rw (add-zero count) (append-nil (occur_at (suc count) tags))
records_snoc count (these ∷ rows) tags =
    let z : suc count + length rows ≡ count + suc (length rows) = omega arith in
    ap {B = List Occurrence} (λ (os : List Occurrence). occur_at (suc count) these ++ os) (records_snoc (suc count) rows tags)
    ∙ sym (append_assoc (occur_at (suc count) these) (records_of (suc count) rows) (occur_at (suc (suc count + length rows)) tags)) ∙ rw z

pub records-none : (count n : ℕ) → records_of count (replicate n []) ≡ []
unfolding records_of occur_at
records-none count zero = refl
records-none count (suc n) = records-none (suc count) n
