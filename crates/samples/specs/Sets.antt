-- The tags, sets and calls that the samples speak of.
use Rattle.std.specs.Prelude.{◌*◌, suc, zero, ℕ, List, [], ◌++◌, ◌∷◌, drop, length, replicate, take}
use Rattle.desk.specs.Rooms.{edition_of, serial_of}
use Rattle.desk.specs.Shared.{record_of}
use Rattle.desk.specs.declared.Record.{Record}
use Rattle.matching.specs.Occurrence.{Occurrence}
use Rattle.matching.specs.Kinds.{exact_kind, folded_kind}
use Rattle.matching.specs.Parts.{part, part_built}
use Rattle.matching.specs.Tags.{Tag, Tags, exact, exact_tag}
use Rattle.matching.specs.Words.{Word}
use Rattle.desk.specs.Reached.{Call, call_close, call_feed, call_open, call_replace}
use Rattle.desk.specs.Layout.{Lent, by_set, lent}
use Rattle.verdicts.specs.GateHistory.{GateAct, gate_begin, gate_decide, gate_piece, gate_replace}

-- the set of these tags: an entry for each, none of 256 bytes or more
unfoldable pub as_set : Tags → List ℕ
as_set [] = []
as_set (t ∷ tags) = (length t.word ∷ 0 ∷ t.kind ∷ 0 ∷ t.word) ++ as_set tags

-- the rules' example of a set, 02 00 01 00 68 65: length 2, kind 1, "he"
abbrev pub he_set : List ℕ
he_set = 2 ∷ 0 ∷ 1 ∷ 0 ∷ 104 ∷ 101 ∷ []

-- "he", "she", "his", "hers"
abbrev pub words : List Word
words = (104 ∷ 101 ∷ []) ∷ (115 ∷ 104 ∷ 101 ∷ []) ∷ (104 ∷ 105 ∷ 115 ∷ []) ∷ (104 ∷ 101 ∷ 114 ∷ 115 ∷ []) ∷ []

abbrev pub tags : Tags
tags = exact words

-- "a", "aa"
abbrev pub one-two : Tags
one-two = exact ((97 ∷ []) ∷ (97 ∷ 97 ∷ []) ∷ [])

-- "aa"
abbrev pub two : Tags
two = exact ((97 ∷ 97 ∷ []) ∷ [])

-- "s", "us"
abbrev pub later : Tags
later = exact ((115 ∷ []) ∷ (117 ∷ 115 ∷ []) ∷ [])

-- a tag of kind 2
abbrev pub folded_tag : Word → Tag
folded_tag w = record { kind = folded_kind; word = w }

-- "He" of kind 2, and "He" of kind 1
abbrev pub He : Word
He = 72 ∷ 101 ∷ []

abbrev pub both : Tags
both = folded_tag He ∷ exact_tag He ∷ []

-- "heh_ehe"
abbrev pub heh_ehe : Word
heh_ehe = 104 ∷ 101 ∷ 104 ∷ 69 ∷ 72 ∷ 101 ∷ []

-- so many tags of one byte, and one tag of so many
unfoldable pub singles : ℕ → Tags
singles zero = []
singles (suc n) = singles n ++ exact_tag (n ∷ []) ∷ []

abbrev pub long : ℕ → Tags
long n = exact_tag (replicate n 97) ∷ []

-- "ush", "ers", "ushers", "hishers", "hx"
abbrev pub ush : Word
ush = 117 ∷ 115 ∷ 104 ∷ []

abbrev pub ers : Word
ers = 101 ∷ 114 ∷ 115 ∷ []

abbrev pub ushers : Word
ushers = 117 ∷ 115 ∷ 104 ∷ 101 ∷ 114 ∷ 115 ∷ []

abbrev pub hishers : Word
hishers = 104 ∷ 105 ∷ 115 ∷ 104 ∷ 101 ∷ 114 ∷ 115 ∷ []

abbrev pub hx : Word
hx = 104 ∷ 120 ∷ []

-- the record of a reading with this end and tag, and a desk's with serial and edition
abbrev pub at : ℕ → ℕ → Occurrence
at end tag = record { end = end; tag = tag }

abbrev pub a_record : ℕ → ℕ → ℕ → ℕ → Record
a_record s e end tag = record_of (serial_of s) (edition_of e) (at end tag)

-- the split tables that building leaves of tags, with so many slots a machine in each; of exact tags alone the second has one state
abbrev pub split_of : ℕ → ℕ → Tags → Lent
split_of s t tags = lent (part_built (part exact_kind 1 8 0) tags s) (part_built (part folded_kind 1 8 8) tags t)

abbrev pub split : ℕ → Tags → Lent
split s tags = split_of s 1 tags

-- runs for so many slots, all 0
abbrev pub zeros : ℕ → ℕ → Lent
zeros s t = lent (replicate (24 * s) 0) (replicate (24 * t) 0)

-- three slots a machine are enough for "a", "aa"; a ticket's 127 bytes "a" give 253 records, each "a" of another's first bytes one more
abbrev pub calls_254 : List Call
calls_254 =
    call_replace (by_set (as_set one-two)) (zeros 3 1)
    ∷ call_open
    ∷ call_feed (serial_of 1) (split 3 one-two) (replicate 127 97)
    ∷ call_open
    ∷ call_feed (serial_of 2) (split 3 one-two) (97 ∷ [])
    ∷ call_open
    ∷ []

abbrev pub calls_255 : List Call
calls_255 = calls_254 ++ call_open ∷ call_feed (serial_of 4) (split 3 one-two) (97 ∷ []) ∷ []

-- ten slots a machine are enough for "he", "she", "his", "hers"
abbrev pub calls_open : List Call
calls_open = call_replace (by_set (as_set tags)) (zeros 10 1) ∷ call_open ∷ []

-- an approval is half read, "ush" of "ushers", when the set is replaced: by itself, or by another
abbrev pub calls-half : Tags → List Call
calls-half next = calls_open ++ call_feed (serial_of 1) (split 10 tags) ush ∷ call_replace (by_set (as_set next)) (zeros 10 1) ∷ []

-- a ticket closed, and another opened
abbrev pub calls-closed : List Call
calls-closed = calls_open ++ call_close (serial_of 1) ∷ call_open ∷ []

-- "He" of both kinds, and "heh_ehe" fed in one piece
abbrev pub calls-both : List Call
calls-both = call_replace (by_set (as_set both)) (zeros 3 3) ∷ call_open ∷ call_feed (serial_of 1) (split_of 3 3 both) heh_ehe ∷ []

-- two approvals at a gate: the first, "heh_ehe", comes in two pieces, and between them the second, "hx"
abbrev pub calls-held : List GateAct
calls-held =
    gate_replace (by_set (as_set both)) (zeros 3 3)
    ∷ gate_begin
    ∷ gate_begin
    ∷ gate_piece (serial_of 1) (split_of 3 3 both) (take 4 heh_ehe)
    ∷ gate_piece (serial_of 2) (split_of 3 3 both) hx
    ∷ gate_piece (serial_of 1) (split_of 3 3 both) (drop 4 heh_ehe)
    ∷ []

-- an approval at a gate is half read when another set comes
abbrev pub calls-replaced : List GateAct
calls-replaced =
    gate_replace (by_set (as_set tags)) (zeros 10 1)
    ∷ gate_begin
    ∷ gate_piece (serial_of 1) (split 10 tags) ush
    ∷ gate_replace (by_set (as_set later)) (zeros 10 1)
    ∷ []

-- the rest of it is refused, it is decided, a set of no bytes is refused, and it comes again, in the same room
abbrev pub calls-again : List GateAct
calls-again =
    calls-replaced
    ++ gate_piece (serial_of 1) (split 10 later) ers
    ∷ gate_decide (serial_of 1)
    ∷ gate_replace (by_set []) (zeros 10 1)
    ∷ gate_begin
    ∷ gate_piece (serial_of 2) (split 10 later) ushers
    ∷ []
