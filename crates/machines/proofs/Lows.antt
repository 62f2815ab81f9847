-- Letters and tags by their number.
use Prim.Native.Nat.{◌<◌, ◌≤◌, suc, zero, ℕ}
use mathlib.Core.List.{List, [], ◌∷◌}
use native.Mathlib.Omega.{arith}
use lib.ListN.{get_or, length}
use Rattle.matching.specs.Words.{AllBelow, AllShort, Below, Word}

pub below_at : (m : ℕ) (w : Word) (i : ℕ) → Below m w → i < length w → get_or w i 0 < m
below_at m [] i b h = absurd (omega arith)
below_at m (x ∷ w) zero b h = b.0
below_at m (x ∷ w) (suc i) b h = below_at m w i b.1 (omega arith)

pub all-at : (m : ℕ) (ts : List Word) (t : ℕ) → AllBelow m ts → t < length ts → Below m (get_or ts t [])
all-at m [] t b h = absurd (omega arith)
all-at m (w ∷ ts) zero b h = b.0
all-at m (w ∷ ts) (suc t) b h = all-at m ts t b.1 (omega arith)

pub short-at : (n : ℕ) (ts : List Word) (t : ℕ) → AllShort n ts → length (get_or ts t []) ≤ n
short-at n [] t b = omega arith
short-at n (w ∷ ts) zero b = b.0
short-at n (w ∷ ts) (suc t) b = short-at n ts t b.1
