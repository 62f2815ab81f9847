-- The line of an answer from what was said of it.
use Prim.Native.Nat.{ℕ, zero, suc, ◌<◌, ◌≤◌}
use Rattle.std.proofs.Common.{arith, ◌∙◌, subst}
use Rattle.std.specs.Prelude.{List, [], ◌∷◌, ◌≡◌, length, get_or, take}
use Rattle.std.proofs.Math.Path.{refl}
use Rattle.numbers.specs.Answers.{answer_of, said_of}
use Rattle.numbers.specs.Laws.{Few, refusal_is}
use Rattle.numbers.specs.declared.Answer.{Answer}
use Rattle.numbers.specs.declared.Said.{Said}
use Rattle.output.specs.Buffer.{Puts}
use Rattle.output.specs.declared.Buffer.{Buffer}
use Rattle.answers.specs.Answers.{answer_line, first_two, refused_line, said_line, stop_word}

first_two_lem : (values : List ℕ) → first_two (length values) (get_or values 0 0) (get_or values 1 0) ≡ take 2 values
first_two_lem [] = refl
first_two_lem (a ∷ []) = refl
first_two_lem (a ∷ b ∷ values) = refl

-- two or more
pub two_values : (n a b : ℕ) → (n ≡ 0 → ⊥) → (n ≡ 1 → ⊥) → first_two n a b ≡ a ∷ b ∷ []
two_values zero a b h k = absurd (h refl)
two_values (suc zero) a b h k = absurd (k refl)
two_values (suc (suc n)) a b h k = refl

-- neither ALL nor FULL
pub stop_damaged : (n : ℕ) → (n ≡ 0 → ⊥) → (n ≡ 1 → ⊥) → stop_word n ≡ stop_word 2
unfolding stop_word
stop_damaged zero h k = absurd (h refl)
stop_damaged (suc zero) h k = absurd (k refl)
stop_damaged (suc (suc n)) h k = refl

module _ (given : Answer → List ℕ) (values : List ℕ) where
  line_refused : (n : ℕ) → 0 < n → answer_line given n values ≡ refused_line n values
  unfolding answer_line
  line_refused zero h = absurd (omega (arith, h))
  line_refused (suc n) h = refl

  line_given : (n : ℕ) → n ≤ 0 → answer_line given n values ≡ given (answer_of n values)
  unfolding answer_line
  line_given zero h = refl
  line_given (suc n) h = absurd (omega (arith, h))

module _ (given : Answer → List ℕ) (n : ℕ) (values : List ℕ) {s : Said} {b c : Buffer} where
  -- refused, or not
  pub say_refused : Few n values → s ≡ said_of n values → 0 < s.answer.refusal → Puts b (said_line s) c → Puts b (answer_line given n values) c
  say_refused few e h p =
      let some : 0 < n = omega (arith, h, refusal_is e) in
      rw (line_refused given values n some)
      (subst (λ (l : List ℕ). Puts b (refused_line n l) c) (first_two_lem values ∙ few some) (subst (λ (t : Said). Puts b (said_line t) c) e p))

  pub say_given : s ≡ said_of n values → s.answer.refusal ≤ 0 → Puts b (given s.answer) c → Puts b (answer_line given n values) c
  say_given e h p =
      rw (line_given given values n (omega (arith, h, refusal_is e)))
      (subst (λ (t : Said). Puts b (given t.answer) c) e p)
