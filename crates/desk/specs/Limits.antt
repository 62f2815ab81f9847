-- The limits of the desk.
use Rattle.std.specs.Prelude.{ℕ}

-- the tickets that are open or stale
abbrev pub most_tickets : ℕ
most_tickets = 16

-- the records that are held
abbrev pub most_records : ℕ
most_records = 256
