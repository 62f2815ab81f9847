-- A machine's slots while they are made: the tree of its prefixes first, then its nexts and vectors, in place.
use Rattle.std.specs.Prelude.{◌*◌, ◌+◌, ◌<◌, ◌≤◌, ℕ, cond, true, ◌⊎◌, ◌≡◌, eqb, get_or, length, set, take}
use mathlib.Core.List.{List, [], tail}
use Rattle.machines.specs.Fronts.{known}
use Rattle.machines.specs.declared.filling.Walk.{Walk}
use Rattle.matching.specs.Laws.Links.{child}
use Rattle.matching.specs.Machine.{longest, next, prefixes, states, vector}
use Rattle.matching.specs.Words.{AllBelow, AllShort, Word, among, index_of}
use Rattle.matching.specs.Limits.{longest_tag, most_tags}

-- the place of number c of slot q, where a slot has m nexts and a vector
abbrev pub cell : ℕ → ℕ → ℕ → ℕ
cell m q c = q * (m + 1) + c

-- what the code asks of the tags of a machine: at most 16, of at most 32 letters
pub record Fit (ts : List Word) : Type 0 where
  pub few : length ts ≤ most_tags
  pub short : AllShort longest_tag ts

-- what it asks of letters and slots: letters below m, at most 256, and a slot for each state
pub record Roomy (ts : List Word) (m len : ℕ) : Type 0 where
  pub low : AllBelow m ts
  pub small : m ≤ 256
  pub room : states ts * (m + 1) ≤ len

-- ---- the tree

-- a child at a place, unless there is one
abbrev pub sown_at : List ℕ → ℕ → ℕ → List ℕ
sown_at l i count = cond (eqb (get_or l i 0) 0) (set l i count) l

-- the number of states then
abbrev pub sown_count : List ℕ → ℕ → ℕ → ℕ
sown_count l i count = cond (eqb (get_or l i 0) 0) (count + 1) count

-- l holds the tree of the states ps: each state's children, and zeros behind them
pub record Sown (ps : List Word) (m : ℕ) (l : List ℕ) : Type 0 where
  pub kids : (q c : ℕ) → q < length ps → c < m → get_or l (cell m q c) 0 ≡ child ps q c
  pub blank : (j : ℕ) → length ps * (m + 1) ≤ j → get_or l j 0 ≡ 0

-- l holds the tree of ts, which has so many states
pub record Planted (ts : List Word) (m count : ℕ) (l : List ℕ) : Type 0 where
  pub counted : count ≡ states ts
  pub sown : Sown (prefixes ts) m l

-- the first t tags are planted
pub record Planting (ts : List Word) (m t count : ℕ) (l : List ℕ) : Type 0 where
  pub fit : Fit ts
  pub roomy : Roomy ts m (length l)
  pub planted : Planted (take t ts) m count l

-- ---- nexts and vectors

-- the first where it isn't 0, else the second
abbrev pub pick_of : ℕ → ℕ → ℕ
pick_of a b = cond (eqb a 0) b a

-- slot q of l is made from itself, slot x and a vector; all else is as in l₀
pub record Made (m q x vector : ℕ) (l₀ l : List ℕ) : Type 0 where
  pub nexts : (c : ℕ) → c < m → get_or l (cell m q c) 0 ≡ pick_of (get_or l₀ (cell m q c) 0) (get_or l₀ (cell m x c) 0)
  pub flags : get_or l (cell m q m) 0 ≡ vector
  pub below : (j : ℕ) → j < cell m q 0 → get_or l j 0 ≡ get_or l₀ j 0
  pub above : (j : ℕ) → cell m q m < j → get_or l j 0 ≡ get_or l₀ j 0
  pub long : length l ≡ length l₀

-- slot q of l is as the machine of ts has it
pub record Done (ts : List Word) (m q : ℕ) (l : List ℕ) : Type 0 where
  pub nexts : (c : ℕ) → c < m → get_or l (cell m q c) 0 ≡ next (prefixes ts) q c
  pub flags : get_or l (cell m q m) 0 ≡ vector ts (get_or (prefixes ts) q [])

-- every state's slot is, and there are zeros behind them
pub record Filled (ts : List Word) (m : ℕ) (l : List ℕ) : Type 0 where
  pub done : (q : ℕ) → q < states ts → Done ts m q l
  pub blank : (j : ℕ) → states ts * (m + 1) ≤ j → get_or l j 0 ≡ 0

-- a tag at the start state, and each of the tags there, with what it shares with those before it
abbrev pub no_walk : Walk
no_walk = record { front = 0; at = 0; fail = 0 }

abbrev pub front_of : List Word → ℕ → ℕ
front_of ts u = known (take u ts) (get_or ts u [])

pub record Started (ts : List Word) (walks : List Walk) : Type 0 where
  pub each : (u : ℕ) → u < length ts → get_or walks u no_walk ≡ record { front = front_of ts u; at = 0; fail = 0 }
  pub room : length walks ≡ most_tags

-- a walk is at the state of the first d letters of w, and knows the state that this one fails to
pub record Place (ps : List Word) (w : Word) (d : ℕ) (walk : Walk) : Type 0 where
  pub state : walk.at ≡ index_of (take d w) ps
  pub failed : walk.fail ≡ index_of (longest ps (tail (take d w))) ps

-- the slots of the words of at most d letters are made, and those of d + 1 letters that a tag before t begins with; in the others a
-- next is still a child; each tag's walk knows what it shares with those before it, and where it is
pub record Level (ts : List Word) (m d t : ℕ) (walks : List Walk) (l : List ℕ) : Type 0 where
  pub cells : (q c : ℕ) → q < states ts → c < m
      → (get_or l (cell m q c) 0 ≡ next (prefixes ts) q c) ⊎ (get_or l (cell m q c) 0 ≡ child (prefixes ts) q c)
  pub rows : (v : Word) → among v (prefixes ts) ≡ true → length v ≤ d → Done ts m (index_of v (prefixes ts)) l
  pub fresh : (u : ℕ) → u < t → d < length (get_or ts u []) → Done ts m (index_of (take (d + 1) (get_or ts u [])) (prefixes ts)) l
  pub knows : (u : ℕ) → u < length ts → (get_or walks u no_walk).front ≡ front_of ts u
  pub gone : (u : ℕ) → u < t → d < length (get_or ts u []) → Place (prefixes ts) (get_or ts u []) (d + 1) (get_or walks u no_walk)
  pub here : (u : ℕ) → t ≤ u → u < length ts → d ≤ length (get_or ts u []) → Place (prefixes ts) (get_or ts u []) d (get_or walks u no_walk)
  pub blank : (j : ℕ) → states ts * (m + 1) ≤ j → get_or l j 0 ≡ 0
  pub room : length walks ≡ most_tags

-- a level on its way
pub record Filling (ts : List Word) (m d t : ℕ) (walks : List Walk) (l : List ℕ) : Type 0 where
  pub fit : Fit ts
  pub roomy : Roomy ts m (length l)
  pub level : Level ts m d t walks l
