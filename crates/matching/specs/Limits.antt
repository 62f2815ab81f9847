-- The limits of the rules, by name.
use Rattle.std.specs.Prelude.{ℕ}

-- the tags of a set
abbrev pub most_tags : ℕ
most_tags = 16

-- the bytes of a tag
abbrev pub longest_tag : ℕ
longest_tag = 32

-- the slots of a machine
abbrev pub most_slots : ℕ
most_slots = 513

-- the largest serial and the largest edition, and the most bytes that are taken for a ticket
abbrev pub largest : ℕ
largest = 4294967295
