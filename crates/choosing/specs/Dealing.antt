-- A vector over the tags of one kind made into one over the whole set, and the vectors of a machine's slots.
use Rattle.std.specs.Prelude.{◌%◌, ◌*◌, ◌+◌, ◌/◌, ◌<◌, ◌^◌, ◌≤◌, ℕ, Bool, cond, List, ◌≡◌, eqb, drop, get_or, length}
use Rattle.matching.specs.Laws.Dealt.{dealt}
use Rattle.choosing.specs.declared.Dealing.{Dealing}

-- a kind is this one
abbrev pub is_of : ℕ → ℕ → Bool
is_of kind k = eqb k kind

-- one tag more
abbrev pub dealt_next : Bool → Dealing → Dealing
dealt_next own d = record {
  left = cond own (d.left / 2) d.left;
  value = d.value * 2;
  out = cond own (d.out + d.value * (d.left % 2)) d.out;
}

-- numbers of 16 bits
pub record Small (d : Dealing) : Type 0 where
  pub value : d.value ≤ 32768
  pub out : d.out < 65536

-- the first i of some kinds are dealt to: with what is left for the others it is all of v
pub record DealtTo (kind : ℕ) (ks : List ℕ) (v i : ℕ) (d : Dealing) : Type 0 where
  pub within : i ≤ length ks
  pub value : d.value ≡ 2 ^ i
  pub total : dealt (is_of kind) ks v ≡ d.out + d.value * dealt (is_of kind) (drop i ks) d.left

-- slots of m nexts and a vector each: the vectors are dealt, all else is as it was
pub record DealtOut (deal : ℕ → ℕ) (m : ℕ) (before after : List ℕ) : Type 0 where
  pub long : length after ≡ length before
  pub vectors : (q : ℕ) → get_or after (q * (m + 1) + m) 0 ≡ deal (get_or before (q * (m + 1) + m) 0)
  pub nexts : (q c : ℕ) → c < m → get_or after (q * (m + 1) + c) 0 ≡ get_or before (q * (m + 1) + c) 0

-- those of the slots before i are, which is where the next slot's vector stands
pub record DealingOut (deal : ℕ → ℕ) (m : ℕ) (before after : List ℕ) (i : ℕ) : Type 0 where
  pub slot : ℕ
  pub place : i ≡ slot * (m + 1) + m
  pub long : length after ≡ length before
  pub vectors : (q : ℕ) → q < slot → get_or after (q * (m + 1) + m) 0 ≡ deal (get_or before (q * (m + 1) + m) 0)
  pub raw : (q : ℕ) → slot ≤ q → get_or after (q * (m + 1) + m) 0 ≡ get_or before (q * (m + 1) + m) 0
  pub nexts : (q c : ℕ) → c < m → get_or after (q * (m + 1) + c) 0 ≡ get_or before (q * (m + 1) + c) 0
