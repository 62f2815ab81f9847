-- The reading of a piece, over ANY run of numbers, as its numbers say (docs/RULES.md, 4).
use Rattle.std.specs.Prelude.{ℕ, zero, suc, ◌+◌, ◌/◌, ◌%◌, ◌^◌, Bool, true, false, ◌&&◌, List, [], ◌∷◌, map, eqb, ltb, get_or}
use Rattle.matching.specs.Words.{Word}
use Rattle.matching.specs.Machine.{prefixes, walk}
use Rattle.matching.specs.Slicing.{slice, anded}
use Rattle.matching.specs.Table.{spot, tags_for}
use Rattle.matching.specs.Stepping.{OutcomeOf, Step, goes_to, is_damaged, read_by}
unfoldable pub use Rattle.matching.specs.Stepping.{halted, took_byte}

-- a reading's place: a state for each machine
abbrev pub Outcome : Type 0
Outcome = OutcomeOf (List ℕ)

-- the next numbers that byte c has in a table of s slots a machine, for machines m, m + 1, .. in the given states
unfoldable pub nexts : ℕ → ℕ → List ℕ → ℕ → List ℕ → ℕ → List ℕ
nexts n s table m [] c = []
nexts n s table m (q ∷ qs) c = get_or table (spot n s m q + slice n m c) 0 ∷ nexts n s table (suc m) qs c

-- the vectors of machines m, m + 1, .. in the given states
unfoldable pub vectors_at : ℕ → ℕ → List ℕ → ℕ → List ℕ → List ℕ
vectors_at n s table m [] = []
vectors_at n s table m (q ∷ qs) = get_or table (spot n s m q + 2 ^ n) 0 ∷ vectors_at n s table (suc m) qs

-- the places of the ones among the lowest `width` bits of v, the lowest first, counted from i
unfoldable pub ones_of : ℕ → ℕ → ℕ → List ℕ
ones_of i zero v = []
ones_of i (suc width) v = elim (eqb (v % 2) 1) [ true ↦ i ∷ ones_of (suc i) width (v / 2) | false ↦ ones_of (suc i) width (v / 2) ]

-- the tags that every machine flags: the ones that are left when the vectors are ANDed
unfoldable pub flagged : ℕ → ℕ → List ℕ → List ℕ → List ℕ
flagged n s table qs = ones_of 0 16 (anded 65535 (vectors_at n s table 0 qs))

-- is each of these below s?
unfoldable pub all_below : ℕ → List ℕ → Bool
all_below s [] = true
all_below s (q ∷ qs) = ltb q s && all_below s qs

-- a table's step: damage if a next number isn't below s; else the next states, and the tags that all machines flag there
unfoldable pub table_step : ℕ → ℕ → List ℕ → Step (List ℕ)
table_step n s table place c = elim (all_below s (nexts n s table 0 place c)) [
  | true ↦ goes_to (nexts n s table 0 place c) (flagged n s table (nexts n s table 0 place c))
  | false ↦ is_damaged
]

-- a piece read from a place, with count bytes taken before, and room for so many records.
-- Before each byte: DAMAGED if a next number isn't below s; else FULL if its matches don't all fit; else it is taken.
unfoldable pub read : ℕ → ℕ → List ℕ → List ℕ → ℕ → ℕ → Word → Outcome
read n s table place count room w = read_by (table_step n s table) place count room w

-- the states of machines m, .., m + k - 1 of the tags after the input v: at the opening, all 0
unfoldable pub place_after : ℕ → List Word → ℕ → ℕ → Word → List ℕ
place_after n ts m zero v = []
place_after n ts m (suc k) v = walk (prefixes (tags_for n ts m)) 0 (map (slice n m) v) ∷ place_after n ts (suc m) k v
