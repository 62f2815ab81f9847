-- The laws of `prefixes`: what the states are, and in which order.
use Rattle.std.specs.Prelude.{◌+◌, ◌<◌, ℕ, false, true, ◌≡◌, refl, get_or, length}
use mathlib.Core.List.{List, [], ◌++◌, ◌∷◌}
use Rattle.std.proofs.Common.{◌∙◌, ap, sym}
use Rattle.matching.specs.Laws.Machine.{Closed, longest-among, longest_nil, walk-longest}
use Rattle.matching.specs.Laws.Words.{Distinct, get_d_index_of}
use Rattle.matching.specs.Laws.Words.{index_of_lt}
use Rattle.matching.specs.Machine.{longest, walk, with_word}
use Rattle.matching.specs.Words.{Word, among, index_of}

pub with_word-old : (ps : List Word) (w : Word) → among w ps ≡ true → with_word ps w ≡ ps
unfolding with_word
with_word-old ps w e = rw e refl

pub with_word-new : (ps : List Word) (w : Word) → among w ps ≡ false → with_word ps w ≡ ps ++ w ∷ []
unfolding with_word
with_word-new ps w e = rw e refl

-- ---- all the tags

-- what a list of states has
pub record Tree (ps : List Word) : Type 0 where
  pub root : among [] ps ≡ true
  pub closed : Closed ps
  pub distinct : Distinct ps

-- ---- the number of states

unfoldable pub total_length : List Word → ℕ
total_length [] = 0
total_length (t ∷ ts) = length t + total_length ts

-- ---- the run of a machine, whatever the order of its states, if the empty word is the first

module _ (ps : List Word) (t : Tree ps) (start : index_of [] ps ≡ 0) where
  -- the state after w, from state 0
  pub walk_tree : (w : Word) → walk ps 0 w ≡ index_of (longest ps w) ps
  walk_tree w =
      ap (λ (s : ℕ). walk ps s w) (sym (ap (λ (u : Word). index_of u ps) (longest_nil ps) ∙ start))
      ∙ walk-longest ps t.closed t.root [] w

  pub word_tree : (w : Word) → get_or ps (walk ps 0 w) [] ≡ longest ps w
  word_tree w = ap (λ (s : ℕ). get_or ps s []) (walk_tree w) ∙ get_d_index_of (longest ps w) ps (longest-among ps w t.root)

  pub lt_tree : (w : Word) → walk ps 0 w < length ps
  lt_tree w = rw (walk_tree w) (index_of_lt (longest ps w) ps (longest-among ps w t.root))
