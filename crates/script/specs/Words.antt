-- Words: runs of bytes parted by single blanks.
use Rattle.std.specs.Prelude.{ℕ, zero, suc, cond, List, [], ◌∷◌, eqb, take, drop}

-- how many bytes stand before the first b: all of them where there is none
unfoldable pub reach : ℕ → List ℕ → ℕ
reach b [] = 0
reach b (x ∷ xs) = cond (eqb x b) 0 (suc (reach b xs))

-- the word at the front of some bytes: what stands before the first blank
unfoldable pub word_of : List ℕ → List ℕ
word_of bytes = take (reach 32 bytes) bytes

-- and what stands behind that blank: nothing where there is none
unfoldable pub behind : List ℕ → List ℕ
behind bytes = drop (suc (reach 32 bytes)) bytes

-- the words behind the first k
unfoldable pub skipped : ℕ → List ℕ → List ℕ
skipped zero words = words
skipped (suc k) words = skipped k (behind words)
