-- The places of the numbers of slots.
use Prim.Native.Nat.{◌%◌, ◌*◌, ◌+◌, ◌/◌, ◌<◌, ◌≤◌, suc, ℕ}
use mathlib.Core.Path.{◌∙◌, ◌≡◌, ap, sym}
use native.Mathlib.Nat.{mul-le-mul_right, suc-mul}
use native.Mathlib.Omega.{arith}
use lib.Arith.{digits_div, digits_mod}
use Rattle.machines.specs.Rows.{cell}

pub cell_row : (m q q' c c' : ℕ) → c ≤ m → c' ≤ m → cell m q c ≡ cell m q' c' → q ≡ q'
cell_row m q q' c c' h k e =
    sym (digits_div q {m = m + 1} {r = c} (omega arith)) ∙ ap (λ (x : ℕ). x / (m + 1)) e ∙ digits_div q' {m = m + 1} {r = c'} (omega arith)

pub cell_col : (m q q' c c' : ℕ) → c ≤ m → c' ≤ m → cell m q c ≡ cell m q' c' → c ≡ c'
cell_col m q q' c c' h k e =
    sym (digits_mod q {m = m + 1} {r = c} (omega arith)) ∙ ap (λ (x : ℕ). x % (m + 1)) e ∙ digits_mod q' {m = m + 1} {r = c'} (omega arith)

-- a slot lies before the next
pub cell-fits : (m q c n : ℕ) → q < n → c ≤ m → cell m q c < n * (m + 1)
cell-fits m q c n h k = omega (arith, mul-le-mul_right {m = suc q} {n = n} (m + 1) h, suc-mul q (m + 1))

-- with at most 513 slots of at most 257 numbers
pub cell-small : (m q : ℕ) → m ≤ 256 → q ≤ 513 → q * (m + 1) ≤ 131841
cell-small m q h k = omega (arith, mul-le-mul_right {m = q} {n = 513} (m + 1) k)
