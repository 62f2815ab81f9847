-- A buffer of 65,536 bytes on their way out: as many as are used wait at its front.
use Rattle.output.specs.declared.Buffer.{Buffer}
use Rattle.std.specs.Prelude.{ℕ, ◌+◌, Bool, true, false, List, [], ◌∷◌, ◌++◌, ◌≡◌, ltb, set, take}

abbrev pub buffer : List ℕ → ℕ → Buffer
buffer bytes used = record { bytes = bytes; used = used }

-- the bytes that wait
abbrev pub waiting : Buffer → List ℕ
waiting b = take b.used b.bytes

-- one byte more, behind those that wait where there is room; else those are written out, and it is the first
unfoldable pub put_by : Buffer → ℕ → Bool → Buffer
put_by b x true = buffer (set b.bytes b.used x) (b.used + 1)
put_by b x false = buffer (set b.bytes 0 x) 1

unfoldable pub put_byte : Buffer → ℕ → Buffer
put_byte b x = put_by b x (ltb b.used 65536)

-- one after another
unfoldable pub put_bytes : Buffer → List ℕ → Buffer
put_bytes b [] = b
put_bytes b (x ∷ xs) = put_bytes (put_byte b x) xs

-- what a call that puts bytes makes of a buffer
pub record Puts (before : Buffer) (xs : List ℕ) (after : Buffer) : Type 0 where
  pub same : after ≡ put_bytes before xs

-- what is handed to the system meanwhile: all that waits, each time the buffer is full
unfoldable pub handed_by : Buffer → Bool → List ℕ
handed_by b true = []
handed_by b false = waiting b

unfoldable pub handed : Buffer → List ℕ → List ℕ
unfolding handed_by put_byte put_by
handed b [] = []
handed b (x ∷ xs) = handed_by b (ltb b.used 65536) ++ handed (put_byte b x) xs
