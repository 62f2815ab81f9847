-- The tags that go through a word, those that it begins, and those that are the word itself. A state that waits to be settled keeps the first as a mask.
use Rattle.std.specs.Prelude.{ℕ, List, ◌≡◌, length}
use Rattle.matching.specs.Machine.{vector_by}
use Rattle.matching.specs.Words.{Word, begins, same}

-- the number whose bit u is set exactly if p begins tag u
unfoldable pub through : List Word → Word → ℕ
through ts p = vector_by (λ t. begins p t) ts

-- the number whose bit u is set exactly if tag u is p itself
abbrev pub own_tags : List Word → Word → ℕ
own_tags ts p = vector_by (λ t. same t p) ts

-- a depth and a mask that are those of the word p
pub record Waits (ts : List Word) (p : Word) (d mask : ℕ) : Type 0 where
  pub deep : d ≡ length p
  pub goes : mask ≡ through ts p
