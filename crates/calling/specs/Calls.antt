-- What the program holds, what each call makes of it, and the text of its answer.
use Rattle.std.specs.Prelude.{ℕ, ◌≡◌, List, [], ◌∷◌, ◌++◌, length, take, drop, set, get_or, replicate}
use Rattle.answers.specs.Answers.{word_line, not_acall_line, replace_line, open_line, feed_line, close_line, state_line, take_line, built_line, numbers_line, read_lines}
use Rattle.answers.specs.Answers.{map_lines}
use Rattle.answers.specs.Show.{show_lines}
use Rattle.desk.specs.Calls.{new_desk, open_of, close_of, take_of}
use Rattle.desk.specs.Feed.{feed_of}
use Rattle.desk.specs.Replace.{replace_of, replaced_run}
use Rattle.desk.specs.Rooms.{serial_of}
use Rattle.desk.specs.State.{state_of}
use Rattle.desk.specs.declared.Desk.{Desk}
use Rattle.reading.specs.Outside.{read_of, split_by, whole_by, list_by}
use Rattle.bitmap_reading.specs.Outside.{map_by, read_map_of}
use Rattle.bitmap_reading.specs.declared.Standing.{Standing}
use Rattle.reading.specs.declared.Answer.{Answer}
use Rattle.script.specs.Calls.{CallOf, passed_over, not_acall, call_set, call_lend, call_replace, call_open, call_feed, call_close, call_state, call_take}
use Rattle.script.specs.Calls.{call_show, call_build, call_read, call_poke, call_peek}
use Rattle.script.specs.declared.Table.{Table}
use Rattle.script.specs.declared.Table.TheVariants.{First, Second}
use Rattle.script.specs.declared.Layout.{Layout}
use Rattle.script.specs.declared.Layout.TheVariants.{Split, Whole, Bitmap}
use Rattle.calling.specs.declared.state.State.{State}
use Rattle.bitmap_tables.specs.Building.{map_built_of, map_table_of}
use Rattle.matching.specs.Parts.{first_run, split_layout, whole_layout}
use Rattle.tables.specs.Building.{built_of, tables_of}
use Rattle.tables.specs.Building.{Built}
use Rattle.output.specs.Buffer.{Puts}
use Rattle.output.specs.declared.Buffer.{Buffer}
use Rattle.desk.specs.Layout.{Lent, Sizes, by_set, lens_of, lent, lent_from, one_bit, runs_of, sizes, sizes_of}

-- one desk, one set, the numbers of both tables, and how many of the first numbers of each are lent
pub record Held : Type 0 where
  pub desk : Desk
  pub bytes : List ℕ
  pub tables : Lent
  pub lent : Sizes

-- at first: a new desk, no bytes, tables of zeros, 479 slots of 24 numbers lent of each
abbrev pub held_at_first : Held
held_at_first = record { desk = new_desk one_bit; bytes = []; tables = lent (replicate 131841 0) (replicate 16384 0); lent = sizes 11496 11496 }

-- the lent parts of the tables
abbrev pub front_of : Sizes → Lent → Lent
front_of z l = lent (take z.first l.first) (take z.second l.second)

abbrev pub lent_tables : Held → Lent
lent_tables h = front_of h.lent h.tables

abbrev pub with_desk : Held → Desk → Held
with_desk h desk = record { desk = desk; bytes = h.bytes; tables = h.tables; lent = h.lent }

-- the lent parts changed, and the rest as it was
abbrev pub behind_lent : Sizes → Lent → Lent → Lent
behind_lent z l run = lent (run.first ++ drop z.first l.first) (run.second ++ drop z.second l.second)

abbrev pub with_lent : Held → Lent → Held
with_lent h run = record { desk = h.desk; bytes = h.bytes; tables = behind_lent h.lent h.tables run; lent = h.lent }

-- table T
abbrev pub table_at : Lent → Table → List ℕ
table_at l First = l.first
table_at l Second = l.second

-- so many of its numbers lent; another number put in it
abbrev pub lend_at : Sizes → ℕ → Table → Sizes
lend_at z n First = sizes n z.second
lend_at z n Second = sizes z.first n

abbrev pub put_at : Lent → ℕ → ℕ → Table → Lent
put_at l at value First = lent (set l.first at value) l.second
put_at l at value Second = lent l.first (set l.second at value)

-- what is held after a call, and what was said
pub record Answered : Type 0 where
  pub held : Held
  pub text : List ℕ

abbrev pub answered : Held → List ℕ → Answered
answered held text = record { held = held; text = text }

abbrev pub set_on : Held → List ℕ → Answered
set_on h bytes = answered (record { desk = h.desk; bytes = bytes; tables = h.tables; lent = h.lent }) (word_line (115 ∷ 101 ∷ 116 ∷ 32 ∷ []) (length bytes))

abbrev pub lend_on : Held → ℕ → Table → Answered
lend_on h n t =
    answered (record { desk = h.desk; bytes = h.bytes; tables = h.tables; lent = lend_at h.lent n t }) (word_line (108 ∷ 101 ∷ 110 ∷ 116 ∷ 32 ∷ []) n)

abbrev pub replace_on : Held → Answered
replace_on h =
    answered (with_lent (with_desk h (replace_of h.desk (by_set h.bytes) (sizes_of (lent_tables h))).desk)
    (replaced_run h.desk (by_set h.bytes) (lent_tables h)))
    (replace_line (replace_of h.desk (by_set h.bytes) (sizes_of (lent_tables h))).answer)

abbrev pub open_on : Held → Answered
open_on h = answered (with_desk h (open_of h.desk).desk) (open_line (open_of h.desk).answer)

abbrev pub feed_on : Held → ℕ → List ℕ → Answered
feed_on h serial piece =
    answered (with_desk h (feed_of h.desk (serial_of serial) (lent_tables h) piece).desk)
    (feed_line (feed_of h.desk (serial_of serial) (lent_tables h) piece).answer)

abbrev pub close_on : Held → ℕ → Answered
close_on h serial = answered (with_desk h (close_of h.desk (serial_of serial)).desk) (close_line serial (close_of h.desk (serial_of serial)).answer)

abbrev pub state_on : Held → ℕ → Answered
state_on h serial = answered h (state_line serial (state_of h.desk (serial_of serial)))

abbrev pub take_on : Held → Answered
take_on h = answered (with_desk h (take_of h.desk).desk) (take_line (take_of h.desk).answer)

-- building outside the desk: of the split layout's two tables; the whole-byte and the bitmap layout have the first table alone
abbrev pub built_by : Layout → List ℕ → Sizes → Built
built_by Split bytes z = built_of split_layout bytes (lens_of z)
built_by Whole bytes z = built_of whole_layout bytes (z.first ∷ [])
built_by Bitmap bytes z = map_built_of bytes z.first

abbrev pub tables_by : Layout → List ℕ → Lent → Lent
tables_by Split bytes l = lent_from (tables_of split_layout bytes (runs_of l))
tables_by Whole bytes l = lent (first_run (tables_of whole_layout bytes (l.first ∷ []))) l.second
tables_by Bitmap bytes l = lent (map_table_of bytes l.first) l.second

abbrev pub build_on : Held → Layout → Answered
build_on h layout = answered (with_lent h (tables_by layout h.bytes (lent_tables h))) (built_line (built_by layout h.bytes (sizes_of (lent_tables h))))

-- the list before a read outside: ROOM numbers, each 7
abbrev pub sevens : ℕ → List ℕ
sevens room = replicate room 7

abbrev pub split_text : Answer (List ℕ) → List ℕ → List ℕ
split_text r list = read_lines r.taken r.ending r.records r.place list

abbrev pub whole_text : Answer ℕ → List ℕ → List ℕ
whole_text r list = read_lines r.taken r.ending r.records (r.place ∷ []) list

abbrev pub map_text : Answer Standing → List ℕ → List ℕ
map_text r list = map_lines r.taken r.ending r.records r.place.moves (r.place.state ∷ []) list

abbrev pub read_text : Lent → Layout → ℕ → ℕ → List ℕ → List ℕ → List ℕ
read_text l Split count room place piece =
    split_text (split_by place (read_of split_layout (runs_of l) place count piece room)) (list_by (sevens room) (read_of split_layout (runs_of l) place count piece room))
read_text l Whole count room place piece =
    whole_text (whole_by (get_or place 0 0) (read_of whole_layout (l.first ∷ []) (get_or place 0 0 ∷ []) count piece room))
    (list_by (sevens room) (read_of whole_layout (l.first ∷ []) (get_or place 0 0 ∷ []) count piece room))
read_text l Bitmap count room place piece =
    map_text (map_by (get_or place 0 0) (read_map_of l.first (get_or place 0 0) count piece room))
    (list_by (sevens room) (read_map_of l.first (get_or place 0 0) count piece room))

abbrev pub poke_on : Held → ℕ → ℕ → Table → Answered
poke_on h at value t = answered (record { desk = h.desk; bytes = h.bytes; tables = put_at h.tables at value t; lent = h.lent })
    (word_line (112 ∷ 111 ∷ 107 ∷ 101 ∷ 100 ∷ 32 ∷ []) at)

-- the call of line n
abbrev pub call_on : Held → ℕ → CallOf → Answered
call_on h n passed_over = answered h []
call_on h n not_acall = answered h (not_acall_line n)
call_on h n (call_set bytes) = set_on h bytes
call_on h n (call_lend lent t) = lend_on h lent t
call_on h n call_replace = replace_on h
call_on h n call_open = open_on h
call_on h n (call_feed serial piece) = feed_on h serial piece
call_on h n (call_close serial) = close_on h serial
call_on h n (call_state serial) = state_on h serial
call_on h n call_take = take_on h
call_on h n call_show = answered h (show_lines h.desk)
call_on h n (call_build layout) = build_on h layout
call_on h n (call_read layout count room place piece) = answered h (read_text (lent_tables h) layout count room place piece)
call_on h n (call_poke at value t) = poke_on h at value t
call_on h n (call_peek at count t) = answered h (numbers_line (take count (drop at (table_at h.tables t))))

-- what the state holds, over any buffers and over its own
abbrev pub held_with : State → List ℕ → Lent → Held
held_with s bytes tables = record { desk = s.desk; bytes = take s.held bytes; tables = tables; lent = sizes s.first_lent s.second_lent }

abbrev pub held_by : State → Held
held_by s = held_with s s.set (lent s.first s.second)

-- a call was made as it is defined: what is held after it, and what was put for it
pub record Did (said : Answered) (before : Buffer) (holds : Held) (after : Buffer) : Type 0 where
  pub same : holds ≡ said.held
  pub puts : Puts before said.text after
