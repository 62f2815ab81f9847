-- A bitmap table while it grows. Its states are settled in the order of their numbers; one that is placed but not yet settled waits in its own
-- slot: number 0 is its depth, 17 its failure state, 18 the mask of the tags that go through it.
use Rattle.std.specs.Prelude.{◌*◌, ◌+◌, ◌<◌, ◌^◌, ◌≤◌, suc, zero, ℕ, cond, true, List, [], Some, ◌≡◌, eqb, get_or, length, set, take}
use Rattle.matching.specs.Machine.{failure, vector}
use Rattle.matching.specs.Words.{Lawful, Word, begins_one}
use Rattle.bitmap.specs.Laws.Built.{Settled}
use Rattle.bitmap.specs.Laws.Children.{goes}
use Rattle.bitmap.specs.Laws.Maps.{tally_from}
use Rattle.bitmap.specs.Levels.{below, by_level}
use Rattle.bitmap.specs.Steps.{Step, Wrong, fail_at, number_at, ones_below, ones_over, step, vector_at}
use Rattle.bitmap_maps.specs.Through.{Waits, through}

-- the word of state r
abbrev pub word_of : List Word → ℕ → Word
word_of ts r = get_or (by_level ts) r []

-- the states placed when those below q are settled
abbrev pub placed_by : List Word → ℕ → ℕ
placed_by ts q = suc (length (below ts (take q (by_level ts))))

-- how many children state q has
abbrev pub kids : List Word → ℕ → ℕ
kids ts q = tally_from (goes ts (word_of ts q)) 0 256

-- ---- what stands in slots

-- state r is placed but not yet settled
pub record Waiting (ts : List Word) (table : List ℕ) (r : ℕ) : Type 0 where
  pub depth : number_at table r 0 ≡ length (word_of ts r)
  pub bare : (j : ℕ) → 0 < j → j < 17 → number_at table r j ≡ 0
  pub fail : fail_at table r ≡ failure (by_level ts) r
  pub mask : vector_at table r ≡ through ts (word_of ts r)

-- the first u tags are sown: the mask of state r has those of them that go through it, and if one does, it has its depth and failure state
pub record Sown (ts : List Word) (u : ℕ) (table : List ℕ) (r : ℕ) : Type 0 where
  pub bare : (j : ℕ) → 0 < j → j < 17 → number_at table r j ≡ 0
  pub mask : vector_at table r ≡ through (take u ts) (word_of ts r)
  pub begun : begins_one (word_of ts r) (take u ts) ≡ true → (number_at table r 0 ≡ length (word_of ts r)) × (fail_at table r ≡ failure (by_level ts) r)

-- the states below q are settled, their vectors too; k are placed, those from q on wait, and behind them all is 0. (`Settled`, of maps, children and
-- failure states, stands in bitmap's Laws/Built.antt)
pub record Growing (ts : List Word) (s : ℕ) (table : List ℕ) (q k : ℕ) : Type 0 where
  pub lawful : Lawful ts
  pub room : length (by_level ts) ≤ s
  pub slots : s * 19 ≡ length table
  pub settled : Settled q ts table
  pub marks : (r : ℕ) → r < q → vector_at table r ≡ vector ts (word_of ts r)
  pub waiting : (r : ℕ) → q ≤ r → r < k → Waiting ts table r
  pub counted : k ≡ placed_by ts q
  pub blank : (j : ℕ) → k * 19 ≤ j → get_or table j 0 ≡ 0

-- state q is settled too, and its children, behind the k states placed before, are sown by the first u tags
pub record Sowing (ts : List Word) (s : ℕ) (table : List ℕ) (q k u : ℕ) : Type 0 where
  pub lawful : Lawful ts
  pub room : length (by_level ts) ≤ s
  pub slots : s * 19 ≡ length table
  pub state : q < length (by_level ts)
  pub settled : Settled (suc q) ts table
  pub marks : (r : ℕ) → r < suc q → vector_at table r ≡ vector ts (word_of ts r)
  pub waiting : (r : ℕ) → suc q ≤ r → r < k → Waiting ts table r
  pub counted : k ≡ placed_by ts q
  pub sown : (r : ℕ) → k ≤ r → r < k + kids ts q → Sown ts u table r
  pub blank : (j : ℕ) → (k + kids ts q) * 19 ≤ j → get_or table j 0 ≡ 0

-- what the slot of state q said while it waited
pub record Found (ts : List Word) (q d f mask : ℕ) : Type 0 where
  pub waits : Waits ts (word_of ts q) d mask
  pub fails : f ≡ failure (by_level ts) q

-- ---- what the code computes

-- a depth, a failure state and a mask written into slot r
abbrev pub placed : List ℕ → ℕ → ℕ → ℕ → ℕ → List ℕ
placed l r d f mask = set (set (set l (r * 19) d) (r * 19 + 17) f) (r * 19 + 18) mask

-- where the child of state q on a byte fails to, t being the byte's step from where q fails to: to state 0 if q is 0, else where t leads; a wrong step,
-- which building never meets, is told as 0
unfoldable pub fail_to : ℕ → Step → ℕ
fail_to zero t = 0
fail_to (suc q) (Some t) = t.state
fail_to (suc q) Wrong = 0

-- the child of state q on a byte, behind k states
abbrev pub child_number : List ℕ → ℕ → ℕ → ℕ → ℕ
child_number l q k c = k + ones_below l q c

-- it, with one more tag: in the table l of s slots, the child on byte c of state q, which fails to f and has d letters; k states are placed, u is the tag
abbrev pub sown_by : List ℕ → ℕ → ℕ → ℕ → ℕ → ℕ → ℕ → ℕ → List ℕ
sown_by l s q f d k c u = placed l (child_number l q k c) (d + 1) (fail_to q (step s l f c)) (vector_at l (child_number l q k c) + 2 ^ u)

-- what it takes to do so
pub record Sowable (l : List ℕ) (s q f d k c u : ℕ) : Type 0 where
  pub slots : s * 19 ≤ length l
  pub parent : q < s
  pub fails : f < s
  pub child : child_number l q k c < s
  pub deep : d < 32
  pub tag : u < 16
  pub goes : fail_to q (step s l f c) < 65536
  pub mask : vector_at l (child_number l q k c) + 2 ^ u < 65536

-- what a state's vector has from its failure state
unfoldable pub inherits : ℕ → List ℕ → ℕ → ℕ
inherits zero l f = 0
inherits (suc q) l f = vector_at l f

-- the first of n children behind k states; 0 if there are none
abbrev pub first_behind : ℕ → ℕ → ℕ
first_behind k n = cond (eqb n 0) 0 k

-- a state whose map is laid, with its first child and its vector
abbrev pub closed : List ℕ → ℕ → ℕ → ℕ → ℕ → List ℕ
closed l q k f own = set (set l (q * 19 + 16) (first_behind k (ones_over l q 0 16))) (q * 19 + 18) (inherits q l f + own)

-- what it takes to do so
pub record Closable (l : List ℕ) (q k f own : ℕ) : Type 0 where
  pub room : q * 19 + 18 < length l
  pub fails : f * 19 + 18 < length l
  pub few : k < 65536
  pub vector : inherits q l f + own < 65536

-- a run of so many numbers, all zeros but for the mask of the start state: all of so many tags
pub record Begun (tags : ℕ) (table : List ℕ) (len : ℕ) : Type 0 where
  pub long : length table ≡ len
  pub blank : (j : ℕ) → (j ≡ 18 → ⊥) → get_or table j 0 ≡ 0
  pub mask : get_or table 18 0 + 1 ≡ 2 ^ tags
