-- A byte's step in the rules' words (docs/RULES.md, 4): the ways that it can go over any run of numbers.
use Rattle.std.specs.Prelude.{◌<◌, ◌≤◌, ℕ, false, true, List, ◌≡◌}
use Rattle.bitmap.specs.Steps.{Step, To, Wrong, child_of, fail_at, in_map, moved}

-- from state q, byte c: where it leads and the failure moves on the way, or that a number on the way is wrong
pub data Way (s : ℕ) (table : List ℕ) (c : ℕ) : ℕ → Step → Type 0 where
  to_child : {q : ℕ} → in_map table q c ≡ true → child_of table q c < s → Way s table c q (To (child_of table q c) 0)
  child_no_state : {q : ℕ} → in_map table q c ≡ true → s ≤ child_of table q c → Way s table c q Wrong
  stays : in_map table 0 c ≡ false → Way s table c 0 (To 0 0)
  fails_on : {q : ℕ} {t : Step} → in_map table q c ≡ false → 0 < q → fail_at table q < q → Way s table c (fail_at table q) t → Way s table c q (moved t)
  fails_not_lower : {q : ℕ} → in_map table q c ≡ false → 0 < q → q ≤ fail_at table q → Way s table c q Wrong
