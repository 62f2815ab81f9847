-- Two steps side by side walk the same bytes as each does by itself: their places stand one behind the other, and a byte's tags are those of either.
use Rattle.std.specs.Prelude.{◌<◌, ◌≤◌, ℕ, List, ◌++◌, ◌≡◌, refl, get_or, length, take}
use Rattle.std.proofs.Common.{◌∙◌, ap, subst, sym, arith, get_or-take, length-take-le, take-take}
use Rattle.std.proofs.Math.Path.{ap₂}
use Rattle.std.proofs.Math.Decide.{dec_lt}
use Rattle.matching.specs.Laws.Parts.{beside-goes}
use Rattle.matching.specs.Parts.{beside, union}
use Rattle.matching.specs.Stepping.{Step, Stepped, goes_to, is_damaged}
use Rattle.matching.specs.Words.{Word}
use Rattle.blocks.specs.Laws.Running.{ran-cut, ran-same}
use Rattle.blocks.specs.Noting.{unions}
use Rattle.blocks.specs.Running.{Came, Ran, at_rest, onward}

beside-left : (b : Stepped (List ℕ)) → beside is_damaged b ≡ is_damaged
unfolding beside
beside-left b = refl

beside_right : (a : Stepped (List ℕ)) → beside a is_damaged ≡ is_damaged
unfolding beside
beside_right is_damaged = refl
beside_right (goes_to p tags) = refl

-- both has the places of f, k states each, before those of g
pub record Beside (f g both : Step (List ℕ)) (k : ℕ) : Type 0 where
  pub keeps : (p : List ℕ) (c : ℕ) (to tags : List ℕ) → length p ≡ k → f p c ≡ goes_to to tags → length to ≡ k
  pub joins : (p q : List ℕ) (c : ℕ) → length p ≡ k → both (p ++ q) c ≡ beside (f p c) (g q c)

module _ {f g both : Step (List ℕ)} {k : ℕ} (b : Beside f g both k) where
  ran_keeps : {p : List ℕ} {w : Word} {p' : List ℕ} {rows : List (List ℕ)} → Ran f p w p' rows → length p ≡ k → length p' ≡ k
  ran_keeps (at_rest p) l = l
  ran_keeps (onward p c m these w p' rows e r) l = ran_keeps r (b.keeps p c m these l e)

  pub ran-beside : {p q : List ℕ} {w : Word} {p' q' : List ℕ} {rows more : List (List ℕ)} → Ran f p w p' rows → Ran g q w q' more → length p ≡ k
      → Ran both (p ++ q) w (p' ++ q') (unions rows more)
  unfolding unions
  ran-beside (at_rest p) (at_rest q) l = at_rest (p ++ q)
  ran-beside (onward p c m these w p' rows e r) (onward q c₂ n those w₂ q' more e₂ r₂) l =
      onward (p ++ q) c (m ++ n) (union these those) w (p' ++ q') (unions rows more)
      (b.joins p q c l ∙ ap₂ beside e e₂ ∙ beside-goes m n these those)
      (ran-beside r r₂ (b.keeps p c m these l e))

  -- the walk of one, up to the byte to which the other came
  module _ {p q : List ℕ} {w : Word} {e : ℕ} {q' : List ℕ} {more : List (List ℕ)} (other : Came g q w e q' more)
      {d : ℕ} {p' : List ℕ} {rows : List (List ℕ)} (own : Came f p (take e w) d p' rows) (l : length p ≡ k) where
    front : length (take e w) ≡ e
    front = length-take-le e w other.most

    less : d ≤ e
    less = omega (arith, own.most, front)

    -- cut there
    abbrev cut : List ℕ
    cut = (ran-cut g d other.ran).middle

    other-ran : Ran g q (take d w) cut (take d more)
    other-ran = subst (λ (v : Word). Ran g q v cut (take d more)) (take-take d e w less) (ran-cut g d other.ran).first

    own-ran : Ran f p (take d w) own.at rows
    own-ran = subst (λ (v : Word). Ran f p v own.at rows) (take-take d e w less) own.ran

    -- at the other's end it is the other's place
    cut-end : d ≡ e → cut ≡ other.at
    cut-end z =
        let same : take d w ≡ take e w = ap (λ (n : ℕ). take n w) z in
        (ran-same g (subst (λ (v : Word). Ran g q v cut (take d more)) same other-ran) other.ran).0

    pub came-beside : Came both (p ++ q) w d (p' ++ q') (unions rows (take d more))
    came-beside = record {
      most = omega (arith, less, other.most);
      at = own.at ++ cut;
      ran = ran-beside own-ran other-ran l;
      there = λ z.
          let x : e ≡ length w = omega (arith, z, less, other.most) in
          ap₂ ◌++◌ (own.there (omega (arith, z, x, front))) (other.there x ∙ sym (cut-end (omega (arith, z, x))));
      wrong = λ h. b.joins own.at cut (get_or w d 0) (ran_keeps own-ran l) ∙ go (dec_lt d e) h;
    }
      where
        go : Dec (d < e) → d < length w → beside (f own.at (get_or w d 0)) (g cut (get_or w d 0)) ≡ is_damaged
        go (yes h) x =
            ap (λ (s : Stepped (List ℕ)). beside s (g cut (get_or w d 0)))
            (ap (f own.at) (sym (get_or-take e w d 0 h)) ∙ own.wrong (omega (arith, h, front)))
            ∙ beside-left (g cut (get_or w d 0))
        go (no h) x =
            let z : d ≡ e = omega (arith, less) in
            ap (beside (f own.at (get_or w d 0)))
            (ap₂ g (cut-end z) (ap (λ (n : ℕ). get_or w n 0) z) ∙ other.wrong (omega (arith, x, z)))
            ∙ beside_right (f own.at (get_or w d 0))
