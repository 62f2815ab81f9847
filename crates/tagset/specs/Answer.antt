-- What reading a set answers, and the rules' number and values of each fault.
use Rattle.std.specs.Prelude.{Result, Ok, Err, ℕ, ◌+◌, ◌-◌, List, [], ◌∷◌, ◌++◌, length, replicate, take, drop}
use Rattle.matching.specs.Words.{Word}
use Rattle.tagset.specs.Grammar.{EntryOf, whole_tag, at_fault, SetOf, good_set, bad_set}
use Rattle.tagset.specs.declared.SetFault.{SetFault}
use Rattle.tagset.specs.declared.SetFault.TheVariants.{Cut, Many, Kind, Length, Empty, Repeat}
use Rattle.tagset.specs.declared.Places.{Places}
use Rattle.tagset.specs.declared.Place.{Place}
use Rattle.matching.specs.Limits.{most_tags}
use Rattle.matching.specs.Tags.{Tag, Tags}

-- the number of a fault in the table of refusals
abbrev pub fault_number : SetFault → ℕ
fault_number (Cut k) = 1
fault_number (Many k) = 2
fault_number (Kind k) = 3
fault_number (Length k) = 4
fault_number Empty = 5
fault_number (Repeat k) = 6

-- what is returned with it: the entry
abbrev pub fault_values : SetFault → List ℕ
fault_values (Cut k) = k ∷ []
fault_values (Many k) = k ∷ []
fault_values (Kind k) = k ∷ []
fault_values (Length k) = k ∷ []
fault_values Empty = 0 ∷ []
fault_values (Repeat k) = k ∷ []

-- a number for each of the entries of tags, by where it begins and its tag, the first beginning at `at`
unfoldable pub along : (ℕ → Tag → ℕ) → ℕ → Tags → List ℕ
along f at [] = []
along f at (t ∷ tags) = f at t ∷ along f (at + 4 + length t.word) tags

-- where the payload of an entry begins, where it ends, and its kind
abbrev pub begin_of : ℕ → Tag → ℕ
begin_of at t = at + 4

abbrev pub end_of : ℕ → Tag → ℕ
end_of at t = at + 4 + length t.word

abbrev pub kind_of_tag : ℕ → Tag → ℕ
kind_of_tag at t = t.kind

-- where the payloads of entries begin, where they end, and their kinds
abbrev pub begun : ℕ → Tags → List ℕ
begun at tags = along begin_of at tags

abbrev pub ended : ℕ → Tags → List ℕ
ended at tags = along end_of at tags

abbrev pub kinds_from : ℕ → Tags → List ℕ
kinds_from at tags = along kind_of_tag at tags

-- so many numbers: a list's, and zeros behind them
abbrev pub padded : ℕ → List ℕ → List ℕ
padded n l = l ++ replicate (n - length l) 0

-- where the tags of a set lie, and their kinds
unfoldable pub tags_lie : Tags → Places
tags_lie tags = record {
  count = length tags;
  from = padded most_tags (begun 0 tags);
  to = padded most_tags (ended 0 tags);
  kinds = padded most_tags (kinds_from 0 tags);
}

-- a set as it was read: its tags' places; or its fault
unfoldable pub set_read : SetOf → Result Places SetFault
set_read (good_set tags) = Ok (tags_lie tags)
set_read (bad_set fault) = Err fault

-- the runs of bytes that stand at some places
unfoldable pub cut_at : List ℕ → List ℕ → List ℕ → List Word
cut_at bytes [] tos = []
cut_at bytes (a ∷ froms) [] = []
cut_at bytes (a ∷ froms) (e ∷ tos) = take (e - a) (drop a bytes) ∷ cut_at bytes froms tos

-- words with their kinds are tags
unfoldable pub as_tags : List Word → List ℕ → Tags
as_tags [] ks = []
as_tags (w ∷ ws) [] = []
as_tags (w ∷ ws) (k ∷ ks) = record { kind = k; word = w } ∷ as_tags ws ks

-- the tags that lie at some places
abbrev pub tags_in : List ℕ → List ℕ → List ℕ → List ℕ → Tags
tags_in bytes froms tos ks = as_tags (cut_at bytes froms tos) ks

-- an entry that begins at `at`, as it is read
abbrev pub placed : ℕ → EntryOf → Result Place SetFault
placed at (whole_tag t) = Ok (record { from = at + 4; to = at + 4 + length t.word; kind = t.kind })
placed at (at_fault fault) = Err fault

-- a set's fault alone, if it has one
abbrev pub verdict_of : SetOf → Result (Unit {0}) SetFault
verdict_of (good_set tags) = Ok tt
verdict_of (bad_set fault) = Err fault
