-- The set of a `set` call: bytes as they are written, or an entry for each quotation, of kind 2 where a tilde marks it, and else of kind 1.
use Rattle.std.specs.Prelude.{ℕ, zero, suc, ◌+◌, ◌/◌, ◌%◌, Bool, ◌&&◌, ◌||◌, cond, List, [], ◌∷◌, ◌++◌, eqb, leb, ltb, length, take, drop, get_or, Option, Some, None}
use Rattle.script.specs.Words.{reach}
use Rattle.script.specs.Bytes.{bytes_of}
use Rattle.script.specs.declared.sets.Quoted.{Quoted}
use Rattle.script.specs.declared.sets.Quoted.TheVariants.{Last, Followed}

-- an entry: the length of its payload and its kind, two bytes each with the low byte first, and the payload
unfoldable pub entry_of : ℕ → List ℕ → List ℕ
entry_of kind payload = length payload % 256 ∷ length payload / 256 ∷ kind ∷ 0 ∷ payload

-- is there a tilde at the front? the words behind it, and the kind that is asked for
abbrev pub is_marked : List ℕ → Bool
is_marked words = eqb (get_or words 0 0) 126

unfoldable pub unmarked : List ℕ → List ℕ
unmarked words = cond (is_marked words) (drop 1 words) words

unfoldable pub kind_at : List ℕ → ℕ
kind_at words = cond (is_marked words) 2 1

-- what follows a quotation of k bytes: nothing, or a blank; anything else makes it none
abbrev pub followed : ℕ → List ℕ → Option Quoted
followed k [] = Some (Last k)
followed k (b ∷ more) = cond (eqb b 32) (Some (Followed k)) None

-- the quotation at the front of some words: how many bytes stand inside, and whether a word follows
unfoldable pub quoted_at : List ℕ → Option Quoted
quoted_at [] = None
quoted_at (b ∷ rest) =
    cond (eqb b 34 && ltb (reach 34 rest) (length rest)) (followed (reach 34 rest) (drop (reach 34 rest + 1) rest)) None

-- bytes before others
abbrev pub in_front : List ℕ → Option (List ℕ) → Option (List ℕ)
in_front front (Some bytes) = Some (front ++ bytes)
in_front front None = None

-- the payload of k bytes at the front of some words
abbrev pub payload_at : ℕ → List ℕ → List ℕ
payload_at k words = take k (drop 1 words)

-- an entry of a kind, and those of the words behind it
abbrev pub on_quoted : Option Quoted → ℕ → List ℕ → (List ℕ → Option (List ℕ)) → Option (List ℕ)
on_quoted (Some (Last k)) kind words more = Some (entry_of kind (payload_at k words))
on_quoted (Some (Followed k)) kind words more = in_front (entry_of kind (payload_at k words)) (more (drop (k + 3) words))
on_quoted None kind words more = None

-- one entry for each of at most so many quotations
unfoldable pub entries_of : ℕ → List ℕ → Option (List ℕ)
entries_of zero words = None
entries_of (suc most) words = on_quoted (quoted_at (unmarked words)) (kind_at words) (unmarked words) (entries_of most)

-- at most so many bytes
abbrev pub within : ℕ → Option (List ℕ) → Option (List ℕ)
within most (Some bytes) = cond (leb (length bytes) most) (Some bytes) None
within most None = None

-- a set has at most 4,096 bytes; of quotations there are at most as many as bytes
unfoldable pub set_of : List ℕ → Option (List ℕ)
set_of words = within 4096 (cond (eqb (get_or words 0 0) 34 || is_marked words) (entries_of (length words) words) (bytes_of words))
