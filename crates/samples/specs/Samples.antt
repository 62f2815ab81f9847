-- The samples of docs/RULES.md, 10, together, each by its number; all are computed from the definitions.
use Rattle.desk.specs.Given.{not_held}
use Rattle.matching.specs.declared.Stop.TheVariants as S
use Rattle.desk.specs.declared.FeedRefusal.TheVariants as F
use Rattle.gate.specs.declared.Verdict.TheVariants as Q
use Rattle.tables.specs.declared.BuildFault.TheVariants as B
use Rattle.tables.specs.Building.{of_parts}
use Rattle.tagset.specs.declared.SetFault.TheVariants as D
use Rattle.std.specs.Prelude.{◌%◌, ◌*◌, ◌/◌, min, suc, zero, ℕ, true, List, [], ◌++◌, ◌∷◌, map, ◌≡◌, refl, drop, get_or, replicate, take, Ok, Err}
use Rattle.std.proofs.Common.{arith}
use Rattle.desk.specs.Calls.{close_of, open_of, take_of}
use Rattle.desk.specs.Feed.{advance, feed_of}
use Rattle.desk.specs.Replace.{replace_of, replaced_run}
use Rattle.desk.specs.Rooms.{edition_of, first_room, room_of, serial_of}
use Rattle.desk.specs.Shared.{push_all, round}
use Rattle.desk.specs.TakeMany.{oldest, take_many_of, without}
use Rattle.gate.specs.Feeding.{fed_on}
use Rattle.gate.specs.Gate.{begin_of, change_of, decide_of, piece_of}
use Rattle.gate.specs.Noting.{noted}
use Rattle.history.specs.History.{AsLeft, Proper, on_serial, run, start, stream}
use Rattle.matching.specs.Kinds.{as_read, exact_kind, folded_kind, is_among, kind_of, kinds, lower, tag_kind}
use Rattle.matching.specs.Limits.{largest, longest_tag, most_slots, most_tags}
use Rattle.matching.specs.Machine.{longest, next, prefixes, states, vector, vector_by, walk, with_prefixes, with_tags, with_word}
use Rattle.matching.specs.Occurrence.{numbers_where, occur_at, occurrences_by, tags_ending}
use Rattle.matching.specs.Parts.{Layout, Runs, beside, has_part, insert, kinds_for, part_built, part_room, part_step, part_table, place_below, read_in, room_in, slots_over}
use Rattle.matching.specs.Parts.{split_layout, start_in, step_in, tables_for, union, whole_layout, width}
use Rattle.matching.specs.Reading.{Outcome, all_below, flagged, nexts, ones_of, table_step, vectors_at}
use Rattle.matching.specs.Slicing.{anded, reduced, slice}
use Rattle.matching.specs.Stepping.{halted, read_by, stepped, took_byte}
use Rattle.matching.specs.Table.{built, laid, room_from, slot, slots, slots_in, spot, tags_for, vector_in}
use Rattle.matching.specs.Tags.{chosen, ends_by, exact, exact_tag, found_in, of_kind, tags_at}
use Rattle.matching.specs.Words.{Below, Word, among, ends, index_of, same}
use Rattle.samples.specs.BuiltSample.{below_by}
use Rattle.verdicts.specs.GateHistory.{GateProper, gate_run, gate_start, on_approval}
use Rattle.samples.specs.Sets.{He, a_record, calls_254, calls_255, calls-closed, calls-half, calls_open, as_set, at, both, calls-both, ers, folded_tag, he_set, heh_ehe, hishers}
use Rattle.samples.specs.Sets.{calls-again, calls-held, calls-replaced, hx, later, long, one-two, singles, split, split_of, tags, two, ush, ushers, words}
use Rattle.tables.specs.Building.{built_of, most_states, needed_of, tables_of}
use Rattle.tagset.specs.Answer.{along, cut_at, set_read, tags_lie}
use Rattle.tagset.specs.Grammar.{among_tags, bad_set, distinct, entries_from, entry_of, good_set, set_of}
use Rattle.desk.specs.Layout.{Lent, desk_built, desk_read, desk_slots, desk_table, lent_fits, one_bit, place_fits, runs_of}
use Rattle.desk.specs.Reached.{call_feed, call_open}
use Rattle.desk.specs.Limits.{most_records, most_tickets}

-- a piece read over the split tables from the start, with room for so many records
abbrev pub read_of-split : Lent → ℕ → Word → Outcome
read_of-split l room piece = read_in split_layout (runs_of l) (start_in split_layout) 0 room piece

-- after "hx" each bit machine is in a state: that state's vector, as the table has it, for machines 0 to 7
abbrev pub vectors_after_hx : List ℕ
vectors_after_hx = vectors_at 1 10 (split 10 tags).first 0 (take 8 (read_of-split (split 10 tags) 0 hx).place)

-- of the machines and of reading
pub record OfReading : Type 0 where
  -- the rules' six bytes, 02 00 01 00 68 65, are the set of the one tag "he"; reading them answers one tag, from byte 4 up to byte 6, and that
  -- part of them is "he"
  pub example : set_of kinds he_set ≡ good_set (exact ((104 ∷ 101 ∷ []) ∷ []))
  pub example-read : set_read (set_of kinds he_set)
      ≡ Ok (record { count = 1; from = 4 ∷ replicate 15 0; to = 6 ∷ replicate 15 0; kinds = 1 ∷ replicate 15 0 })
  pub example-tag : get_or (cut_at he_set (4 ∷ replicate 15 0) (6 ∷ replicate 15 0)) 0 [] ≡ 104 ∷ 101 ∷ []
  -- the sets of the samples below are made alike
  pub example-made : as_set (exact ((104 ∷ 101 ∷ []) ∷ [])) ≡ he_set
  -- 1: the whole-byte machine has 10 states, and "hxhe" goes 0, 1, 0, 1, 2
  pub sample_1_states : states words ≡ 10
  pub sample_1_walk : map (walk (prefixes words) 0) ([] ∷ (104 ∷ []) ∷ hx ∷ (104 ∷ 120 ∷ 104 ∷ []) ∷ (104 ∷ 120 ∷ 104 ∷ 101 ∷ []) ∷ [])
      ≡ 0 ∷ 1 ∷ 0 ∷ 1 ∷ 2 ∷ []
  -- 2: the states of bit machines 0 to 7
  pub sample_2 : map (λ m. states (tags_for 1 words m)) (0 ∷ 1 ∷ 2 ∷ 3 ∷ 4 ∷ 5 ∷ 6 ∷ 7 ∷ []) ≡ 9 ∷ 8 ∷ 8 ∷ 10 ∷ 8 ∷ 5 ∷ 5 ∷ 5 ∷ []
  -- 3: the occurrences in "hishers", and what reading it gives
  pub sample_3 : found_in tags hishers ≡ at 3 2 ∷ at 5 0 ∷ at 5 1 ∷ at 7 3 ∷ []
  pub sample_3_read : (read_of-split (split 10 tags) 4 hishers).found ≡ at 3 2 ∷ at 5 0 ∷ at 5 1 ∷ at 7 3 ∷ []
  -- 4: after "hx", machine 7 flags tag 0, machine 3 doesn't, and the AND is empty
  pub sample_4_seven : get_or vectors_after_hx 7 0 % 2 ≡ 1
  pub sample_4_three : get_or vectors_after_hx 3 0 % 2 ≡ 0
  pub sample_4_and : anded 65535 vectors_after_hx ≡ 0
  -- 5: tags a, aa on "aa"
  pub sample_5 : found_in one-two (97 ∷ 97 ∷ []) ≡ at 1 0 ∷ at 2 0 ∷ at 2 1 ∷ []
  pub sample_5_read : (read_of-split (split 3 one-two) 3 (97 ∷ 97 ∷ [])).found ≡ at 1 0 ∷ at 2 0 ∷ at 2 1 ∷ []
  -- 6: tag aa on "aaaa"
  pub sample_6 : found_in two (97 ∷ 97 ∷ 97 ∷ 97 ∷ []) ≡ at 2 0 ∷ at 3 0 ∷ at 4 0 ∷ []
  pub sample_6_read : (read_of-split (split 3 two) 3 (97 ∷ 97 ∷ 97 ∷ 97 ∷ [])).found ≡ at 2 0 ∷ at 3 0 ∷ at 4 0 ∷ []
  -- 7: an empty piece, over any tables, from any place and count
  pub sample_7 : (layout : Layout) (runs : Runs) (place : List ℕ) (count room : ℕ) → read_in layout runs place count room []
      ≡ record { taken = 0; place = place; stop = S.All; found = [] }
  -- 8: nine slots are one too few for machine 3, ten are enough
  pub sample_8_short : built_of split_layout (as_set tags) (9 * 24 ∷ 24 ∷ []) ≡ Err (B.Table 3 10)
  pub sample_8_enough : built_of split_layout (as_set tags) (10 * 24 ∷ 24 ∷ []) ≡ Ok 4
  -- 11: 16 tags and a length of 32 are accepted, a 17th is MANY and 33 LENGTH
  pub sample_11_tags : set_of kinds (as_set (singles 16)) ≡ good_set (singles 16)
  pub sample_11_many : set_of kinds (as_set (singles 17)) ≡ bad_set (D.Many 16)
  pub sample_11_length : set_of kinds (as_set (long 32)) ≡ good_set (long 32)
  pub sample_11_long : set_of kinds (as_set (long 33)) ≡ bad_set (D.Length 0)

-- of tags in either letter case
pub record OfFolded : Type 0 where
  -- 16: "He" of kind 2 and "He" of kind 1: the states of machines 0 to 7 and of machines 8 to 15; and what is found in "heh_ehe", and read
  pub sample_16_exact : map (λ m. states (tags_for 1 (of_kind exact_kind both) m)) (0 ∷ 1 ∷ 2 ∷ 3 ∷ 4 ∷ 5 ∷ 6 ∷ 7 ∷ []) ≡ replicate 8 3
  pub sample_16_folded : map (λ m. states (tags_for 1 (of_kind folded_kind both) m)) (0 ∷ 1 ∷ 2 ∷ 3 ∷ 4 ∷ 5 ∷ 6 ∷ 7 ∷ []) ≡ replicate 8 3
  pub sample_16 : found_in both heh_ehe ≡ at 2 0 ∷ at 4 0 ∷ at 6 0 ∷ at 6 1 ∷ []
  pub sample_16_read : (read_of-split (split_of 3 3 both) 4 heh_ehe).found ≡ at 2 0 ∷ at 4 0 ∷ at 6 0 ∷ at 6 1 ∷ []
  -- 17: a second table that is short by one slot, and the one slot that it needs without tags
  pub sample_17_short : built_of split_layout (as_set both) (3 * 24 ∷ 2 * 24 ∷ []) ≡ Err (B.Table 8 3)
  pub sample_17_none : built_of split_layout (as_set tags) (10 * 24 ∷ 23 ∷ []) ≡ Err (B.Table 8 1)
  pub sample_17_one : needed_of split_layout (as_set tags) ≡ Ok (of_parts 10 1)
  -- 18: equal after folding is REPEAT, the same bytes in two kinds are not; the bytes before A and behind Z are exact
  pub sample_18_repeat : set_of kinds (as_set (folded_tag (104 ∷ 101 ∷ []) ∷ folded_tag (72 ∷ 69 ∷ []) ∷ [])) ≡ bad_set (D.Repeat 1)
  pub sample_18_kinds : set_of kinds (as_set (folded_tag (104 ∷ 101 ∷ []) ∷ exact_tag (104 ∷ 101 ∷ []) ∷ []))
      ≡ good_set (folded_tag (104 ∷ 101 ∷ []) ∷ exact_tag (104 ∷ 101 ∷ []) ∷ [])
  pub sample_18_at : found_in (folded_tag (64 ∷ []) ∷ []) (96 ∷ []) ≡ []
  pub sample_18_bracket : found_in (folded_tag (91 ∷ []) ∷ []) (123 ∷ []) ≡ []
  -- a tag of kind 2 has at most 32 bytes too, and at least one
  pub longest_folded : set_of kinds (as_set (folded_tag (replicate 32 97) ∷ [])) ≡ good_set (folded_tag (replicate 32 97) ∷ [])
  pub long_folded : set_of kinds (as_set (folded_tag (replicate 33 97) ∷ [])) ≡ bad_set (D.Length 0)
  pub short_folded : set_of kinds (as_set (folded_tag [] ∷ [])) ≡ bad_set (D.Length 0)
  -- the whole-byte layout takes no tag of kind 2
  pub whole_refuses : built_of whole_layout (as_set both) (2570 ∷ []) ≡ Err (B.Set (D.Kind 0))

-- at the edges of the rules
pub record OfEdges : Type 0 where
  -- 19: kinds 0 and 3, and 257, whose low byte is 1; a length of 257, whose low byte is 1 too
  pub sample_19_kind_0 : set_of kinds (1 ∷ 0 ∷ 0 ∷ 0 ∷ 104 ∷ []) ≡ bad_set (D.Kind 0)
  pub sample_19_kind_3 : set_of kinds (1 ∷ 0 ∷ 3 ∷ 0 ∷ 104 ∷ []) ≡ bad_set (D.Kind 0)
  pub sample_19_kind_257 : set_of kinds (1 ∷ 0 ∷ 1 ∷ 1 ∷ 104 ∷ []) ≡ bad_set (D.Kind 0)
  pub sample_19_length : set_of kinds (1 ∷ 1 ∷ 1 ∷ 0 ∷ 104 ∷ 101 ∷ []) ≡ bad_set (D.Length 0)
  -- "He" and "he" of kind 1 are two tags
  pub sample_19_exact : set_of kinds (as_set (exact (He ∷ (104 ∷ 101 ∷ []) ∷ []))) ≡ good_set (exact (He ∷ (104 ∷ 101 ∷ []) ∷ []))
  -- "a" and "{" of kind 2 have the same bit 5: folding is downward, and a capital has another
  pub sample_19_bit_5 : states (tags_for 1 (of_kind folded_kind (folded_tag (97 ∷ []) ∷ folded_tag (123 ∷ []) ∷ [])) 5) ≡ 2
  -- a whole-byte table that is short by one slot, and two split tables that are both short
  pub sample_19_whole : built_of whole_layout (as_set tags) (9 * 257 ∷ []) ≡ Err (B.Table 254 10)
  pub sample_19_both : built_of split_layout (as_set both) (2 * 24 ∷ 2 * 24 ∷ []) ≡ Err (B.Table 0 3)

-- of the gate: its histories are as the theorems of the verdict ask, and what it decides
pub record OfGate : Type 0 where
  -- "heh_ehe" in two pieces is held for both tags of 16, and "hx" beside it passes
  pub in_two_pieces : GateProper (gate_start one_bit) calls-held
  pub held : (decide_of (gate_run (gate_start one_bit) calls-held).gate (serial_of 1)).answer ≡ Ok (Q.Hold 3)
  pub passed : (decide_of (gate_run (gate_start one_bit) calls-held).gate (serial_of 2)).answer ≡ Ok Q.Pass
  -- an approval half read when another set came is stale
  pub set-replaced : GateProper (gate_start one_bit) calls-replaced
  pub stale : (decide_of (gate_run (gate_start one_bit) calls-replaced).gate (serial_of 1)).answer ≡ Ok (Q.Stale (edition_of 1))
  -- read again from its front, after refused calls and in the room of the one that was decided, it is held for both tags of the new set
  pub read_again : GateProper (gate_start one_bit) calls-again
  pub held-again : (decide_of (gate_run (gate_start one_bit) calls-again).gate (serial_of 2)).answer ≡ Ok (Q.Hold 3)

-- of the desk
pub record OfDesk : Type 0 where
  -- 16: the same over a desk's two tables
  pub sample_16_desk : stream (run (start one_bit) calls-both) ≡ a_record 1 1 2 0 ∷ a_record 1 1 4 0 ∷ a_record 1 1 6 0 ∷ a_record 1 1 6 1 ∷ []
  -- 9: 254 records held, tags a, aa, piece "aa"
  pub sample_9_held : (run (start one_bit) calls_254).desk.records.count ≡ 254
  pub sample_9 : (feed_of (run (start one_bit) calls_254).desk (serial_of 3) (run (start one_bit) calls_254).table (97 ∷ 97 ∷ [])).answer
      ≡ Ok (advance 1 1 S.Full)
  -- 10: with 255 held a byte with one match is taken, and one with two is not
  pub sample_10_held : (run (start one_bit) calls_255).desk.records.count ≡ 255
  pub sample_10_one : (feed_of (run (start one_bit) calls_255).desk (serial_of 3) (run (start one_bit) calls_255).table (97 ∷ [])).answer
      ≡ Ok (advance 1 1 S.All)
  pub sample_10_two : (feed_of (run (start one_bit) calls_255).desk (serial_of 4) (run (start one_bit) calls_255).table (97 ∷ [])).answer
      ≡ Ok (advance 0 0 S.Full)
  -- 12: "ush" then "ers" gives the records of "ushers"
  pub sample_12 : stream (run (start one_bit) (calls_open ++ call_feed (serial_of 1) (split 10 tags) ush ∷ call_feed (serial_of 1) (split 10 tags) ers ∷ []))
      ≡ stream (run (start one_bit) (calls_open ++ call_feed (serial_of 1) (split 10 tags) ushers ∷ []))
  pub sample_12_records : stream (run (start one_bit) (calls_open ++ call_feed (serial_of 1) (split 10 tags) ushers ∷ []))
      ≡ a_record 1 1 4 0 ∷ a_record 1 1 4 1 ∷ a_record 1 1 6 3 ∷ []
  -- 13: replaced by the same set again, the old ticket is STALE
  pub sample_13 : (feed_of (run (start one_bit) (calls-half tags)).desk (serial_of 1) (run (start one_bit) (calls-half tags)).table ers).answer
      ≡ Err (F.Stale (edition_of 1))
  -- 14: a closed serial is NO TICKET, and its room serves the next opening
  pub sample_14_feed : (feed_of (run (start one_bit) calls-closed).desk (serial_of 1) (run (start one_bit) calls-closed).table ush).answer ≡ Err F.NoTicket
  pub sample_14_close : (close_of (run (start one_bit) calls-closed).desk (serial_of 1)).answer ≡ Err not_held
  pub sample_14_room : room_of (run (start one_bit) calls-closed).desk.tickets (serial_of 2) ≡ 0

-- the incident: another set comes while an approval is half read
pub record Incident : Type 0 where
  -- the rest of it is refused, with the edition of its ticket
  pub refused : (feed_of (run (start one_bit) (calls-half later)).desk (serial_of 1) (run (start one_bit) (calls-half later)).table ers).answer
      ≡ Err (F.Stale (edition_of 1))
  -- read again from its opening, it gives the records of the new set, under the new edition, and none under the old ticket
  pub again : stream (run (start one_bit)
      (calls-half later ++ call_feed (serial_of 1) (split 10 later) ers ∷ call_open ∷ call_feed (serial_of 2) (split 10 later) ushers ∷ []))
      ≡ a_record 2 2 2 0 ∷ a_record 2 2 2 1 ∷ a_record 2 2 6 0 ∷ []

-- these histories are as the theorems of demand 3 ask: of bytes, and each feed is lent the table as the last replacement left it
pub record LentTables : Type 0 where
  pub nearly_full : Proper (start one_bit) calls_255
  pub in_either_case : Proper (start one_bit) calls-both
  pub in_pieces : Proper (start one_bit) (calls_open ++ call_feed (serial_of 1) (split 10 tags) ush ∷ call_feed (serial_of 1) (split 10 tags) ers ∷ [])
  pub in_one : Proper (start one_bit) (calls_open ++ call_feed (serial_of 1) (split 10 tags) ushers ∷ [])
  pub half-read : Proper (start one_bit) (calls-half tags)
  pub read_again : Proper (start one_bit)
      (calls-half later ++ call_feed (serial_of 1) (split 10 later) ers ∷ call_open ∷ call_feed (serial_of 2) (split 10 later) ushers ∷ [])

-- the limits, in the rules' numbers
pub record Limits : Type 0 where
  pub tickets : most_tickets ≡ 16
  pub records : most_records ≡ 256
  pub tags-of-a-set : most_tags ≡ 16
  pub bytes-of-a-tag : longest_tag ≡ 32
  -- each kind with its number and its shortest and longest payload
  pub kinds-of-tags : kinds ≡ tag_kind 1 1 32 ∷ tag_kind 2 1 32 ∷ []
  pub slots-of-a-machine : most_slots ≡ 513
  -- the slots of a run of so many numbers: for eight one-bit machines of 3 numbers a slot, and for the whole-byte machine of 257
  pub slots-split : (len : ℕ) → slots_in 1 8 len ≡ min (len / 24) 513
  pub slots-whole : (len : ℕ) → slots_in 8 1 len ≡ min (len / 257) 513
  pub largest-number : largest ≡ 4294967295

pub record Samples : Type 0 where
  pub of-reading : OfReading
  pub of_folded : OfFolded
  pub of_edges : OfEdges
  pub of-desk : OfDesk
  pub of-gate : OfGate
  pub incident : Incident
  pub lent : LentTables
  pub limits : Limits

-- words of the samples are bytes, by a test
by : (w : List ℕ) → all_below 256 w ≡ true → Below 256 w
by = below_by 256

ones : (n : ℕ) → Below 256 (replicate n 97)
ones zero = tt
ones (suc n) = (omega arith, ones n)

-- THE SAMPLES
pub samples : Samples
unfolding as_set singles same among ends index_of with_word with_prefixes with_tags prefixes states longest next walk vector_by vector slice reduced anded
    spot laid slot slots built vector_in room_from numbers_where tags_ending occur_at occurrences_by nexts vectors_at ones_of flagged all_below halted took_byte stepped
    read_by table_step lower as_read is_among kind_of chosen of_kind ends_by tags_at has_part kinds_for slots_over part_room room_in part_built part_table tables_for part_step insert union beside
    step_in read_in place_below width among_tags entry_of entries_from distinct set_of along tags_lie set_read cut_at built_of tables_of most_states needed_of first_room push_all
    open_of close_of take_of replace_of replaced_run feed_of on_serial run AsLeft round
    oldest without take_many_of fed_on noted begin_of change_of decide_of piece_of gate_run on_approval
    Rattle.desk.specs.Layout.start_place desk_slots lent_fits place_fits desk_read desk_built desk_table
samples = record {
  of-reading = record {
    example = refl;
    example-read = refl;
    example-tag = refl;
    example-made = refl;
    sample_1_states = refl;
    sample_1_walk = refl;
    sample_2 = refl;
    sample_3 = refl;
    sample_3_read = refl;
    sample_4_seven = refl;
    sample_4_three = refl;
    sample_4_and = refl;
    sample_5 = refl;
    sample_5_read = refl;
    sample_6 = refl;
    sample_6_read = refl;
    sample_7 = λ layout runs place count room. refl;
    sample_8_short = refl;
    sample_8_enough = refl;
    sample_11_tags = refl;
    sample_11_many = refl;
    sample_11_length = refl;
    sample_11_long = refl;
  };
  of_folded = record {
    sample_16_exact = refl;
    sample_16_folded = refl;
    sample_16 = refl;
    sample_16_read = refl;
    sample_17_short = refl;
    sample_17_none = refl;
    sample_17_one = refl;
    sample_18_repeat = refl;
    sample_18_kinds = refl;
    sample_18_at = refl;
    sample_18_bracket = refl;
    longest_folded = refl;
    long_folded = refl;
    short_folded = refl;
    whole_refuses = refl;
  };
  of_edges = record {
    sample_19_kind_0 = refl;
    sample_19_kind_3 = refl;
    sample_19_kind_257 = refl;
    sample_19_length = refl;
    sample_19_exact = refl;
    sample_19_bit_5 = refl;
    sample_19_whole = refl;
    sample_19_both = refl;
  };
  of-gate = record {
    in_two_pieces = (
      by (as_set both) refl,
      (tt, (tt, ((refl, by (take 4 heh_ehe) refl), ((refl, by hx refl), ((refl, by (drop 4 heh_ehe) refl), tt))))),
    );
    held = refl;
    passed = refl;
    set-replaced = (by (as_set tags) refl, (tt, ((refl, by ush refl), (by (as_set later) refl, tt))));
    stale = refl;
    read_again = (
      by (as_set tags) refl,
      (tt, ((refl, by ush refl), (by (as_set later) refl, ((refl, by ers refl), (tt, (tt, (tt, ((refl, by ushers refl), tt)))))))),
    );
    held-again = refl;
  };
  of-desk = record {
    sample_16_desk = refl;
    sample_9_held = refl;
    sample_9 = refl;
    sample_10_held = refl;
    sample_10_one = refl;
    sample_10_two = refl;
    sample_12 = refl;
    sample_12_records = refl;
    sample_13 = refl;
    sample_14_feed = refl;
    sample_14_close = refl;
    sample_14_room = refl;
  };
  incident = record { refused = refl; again = refl };
  lent = record {
    nearly_full = (
      (by (as_set one-two) refl, (tt, (ones 127, (tt, (ones 1, (tt, (tt, (ones 1, tt)))))))),
      (tt, (tt, (refl, (tt, (refl, (tt, (tt, (refl, tt)))))))),
    );
    in_either_case = ((by (as_set both) refl, (tt, (by heh_ehe refl, tt))), (tt, (tt, (refl, tt))));
    in_pieces = ((by (as_set tags) refl, (tt, (by ush refl, (by ers refl, tt)))), (tt, (tt, (refl, (refl, tt)))));
    in_one = ((by (as_set tags) refl, (tt, (by ushers refl, tt))), (tt, (tt, (refl, tt))));
    half-read = ((by (as_set tags) refl, (tt, (by ush refl, (by (as_set tags) refl, tt)))), (tt, (tt, (refl, (tt, tt)))));
    read_again = (
      (by (as_set tags) refl, (tt, (by ush refl, (by (as_set later) refl, (by ers refl, (tt, (by ushers refl, tt))))))),
      (tt, (tt, (refl, (tt, (refl, (tt, (refl, tt))))))),
    );
  };
  limits = record {
    tickets = refl;
    records = refl;
    tags-of-a-set = refl;
    bytes-of-a-tag = refl;
    kinds-of-tags = refl;
    slots-of-a-machine = refl;
    slots-split = λ len. refl;
    slots-whole = λ len. refl;
    largest-number = refl;
  };
}
