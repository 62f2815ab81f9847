-- How many slots a table has, and that they lie in it.
use Rattle.std.specs.Prelude.{◌*◌, ◌+◌, ◌/◌, ◌<◌, ◌^◌, ◌≤◌, ℕ, ◌≡◌, refl}
use Rattle.std.proofs.Common.{sym, div-mul-le_self, le_of_eq, le_trans, mul_assoc, mul_comm, mul-le-mul, mul-le-mul_right, arith, lit<}
use Rattle.std.proofs.Math.Nat.{pow-le-pow_right}
use Rattle.matching.specs.Table.{slot_size, slots_in}

-- the numbers of a slot, and of a slot of each of k machines, are few
pub slot-size : (n : ℕ) → n ≤ 8 → 2 ^ n + 1 ≤ 257
slot-size n h = omega (arith, pow-le-pow_right {n = 2} (lit< tt) {i = n} {j = 8} h)

pub row_size : (n k : ℕ) → n ≤ 8 → k ≤ 8 → k * (2 ^ n + 1) ≤ 8 * 257
row_size n k h few = mul-le-mul few (slot-size n h)

-- s, of the machines' letters
module _ (len n k l : ℕ) (e : l ≡ 2 ^ n) where
  pub slots-some : len / (k * (l + 1)) < 513 → len / (k * (l + 1)) ≡ slots_in n k len
  slots-some h = rw (← e) (omega arith)

  pub slots-most : 513 ≤ len / (k * (l + 1)) → 513 ≡ slots_in n k len
  slots-most h = rw (← e) (omega arith)

-- the slots that a table has lie in it
pub slots-room : (n k len s : ℕ) → s ≡ slots_in n k len → k * s * slot_size n ≤ len
slots-room n k len s e =
    let d : s ≤ len / (k * (2 ^ n + 1)) = omega arith in
    le_trans (rw (mul_comm k s, mul_assoc) (mul-le-mul_right (k * (2 ^ n + 1)) d)) (div-mul-le_self len (k * (2 ^ n + 1)))

-- the same, as the machines lie one behind the other
pub slots-fit : (n k len : ℕ) → k * (slots_in n k len * slot_size n) ≤ len
slots-fit n k len = le_trans (le_of_eq (sym (mul_assoc k (slots_in n k len) (slot_size n)))) (slots-room n k len (slots_in n k len) refl)
