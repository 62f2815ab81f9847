-- What call a line makes: each call of the replay script, with its numbers and bytes.
use Rattle.std.specs.Prelude.{ℕ, zero, suc, ◌+◌, ◌-◌, ◌≤◌, ◌<◌, Bool, true, false, ◌||◌, cond, List, [], ◌∷◌, ◌≡◌, eqb, leb, ltb, length, take, get_or, Option, Some, None, unwrap_or}
use Rattle.matching.specs.Words.{same}
use Rattle.script.specs.Words.{reach, word_of, behind, skipped}
use Rattle.script.specs.Numbers.{number_of, numbers_of}
use Rattle.script.specs.Bytes.{bytes_of}
use Rattle.script.specs.Sets.{set_of}
use Rattle.script.specs.declared.Layout.{Layout}
use Rattle.script.specs.declared.Layout.TheVariants.{Split, Whole, Bitmap}
use Rattle.script.specs.declared.Table.{Table}
use Rattle.script.specs.declared.Table.TheVariants.{First, Second}
use Rattle.script.specs.declared.Call.{Call}
use Rattle.script.specs.declared.Call.TheVariants as C
use Rattle.script.specs.declared.names.Name.{Name}
use Rattle.script.specs.declared.names.Name.TheVariants as N

-- a line passed over in silence, a line that is no call, and the calls
pub data CallOf : Type 0 where
  passed_over : CallOf
  not_acall : CallOf
  call_set : List ℕ → CallOf
  call_lend : ℕ → Table → CallOf
  call_replace : CallOf
  call_open : CallOf
  call_feed : ℕ → List ℕ → CallOf
  call_close : ℕ → CallOf
  call_state : ℕ → CallOf
  call_take : CallOf
  call_show : CallOf
  call_build : Layout → CallOf
  call_read : Layout → ℕ → ℕ → List ℕ → List ℕ → CallOf
  call_poke : ℕ → ℕ → Table → CallOf
  call_peek : ℕ → ℕ → Table → CallOf

-- how many numbers a place of a layout has
abbrev pub machines_of : Layout → ℕ
machines_of Split = 16
machines_of Whole = 1
machines_of Bitmap = 1

-- the numbers that the program has in table 0, the first, and in table 1, the second
abbrev pub size_of : Table → ℕ
size_of First = 131841
size_of Second = 16384

-- what a call means beside the bytes that were read with it
abbrev pub meant : List ℕ → Call → CallOf
meant bytes C.PassedOver = passed_over
meant bytes C.NotACall = not_acall
meant bytes (C.Set n) = call_set (take n bytes)
meant bytes (C.Lend lent t) = call_lend lent t
meant bytes C.Replace = call_replace
meant bytes C.Open = call_open
meant bytes (C.Feed serial n) = call_feed serial (take n bytes)
meant bytes (C.Close serial) = call_close serial
meant bytes (C.State serial) = call_state serial
meant bytes C.Take = call_take
meant bytes C.Show = call_show
meant bytes (C.Build layout) = call_build layout
meant bytes (C.Read r) = call_read r.layout r.count r.room (take (machines_of r.layout) r.place) (take r.piece bytes)
meant bytes (C.Poke at value t) = call_poke at value t
meant bytes (C.Peek at count t) = call_peek at count t

-- a call's numbers stand within what the program holds, and its bytes within the buffer
abbrev pub Bounded : Call → Type 0
Bounded C.PassedOver = Unit {0}
Bounded C.NotACall = Unit {0}
Bounded (C.Set n) = n ≤ 4096
Bounded (C.Lend lent t) = lent ≤ size_of t
Bounded C.Replace = Unit {0}
Bounded C.Open = Unit {0}
Bounded (C.Feed serial n) = n ≤ 20000
Bounded (C.Close serial) = Unit {0}
Bounded (C.State serial) = Unit {0}
Bounded C.Take = Unit {0}
Bounded C.Show = Unit {0}
Bounded (C.Build layout) = Unit {0}
Bounded (C.Read r) = (r.room ≤ 2048) × (r.piece ≤ 20000)
Bounded (C.Poke at value t) = at < size_of t
Bounded (C.Peek at count t) = at + count ≤ size_of t

-- what was made of some words: a call, or none
abbrev pub made : Option Call → Call
made call = unwrap_or call C.NotACall

-- a call says this, whatever bytes stand beside it, and is bounded
pub record Plain (says : CallOf) (call : Call) : Type 0 where
  pub means : (bytes : List ℕ) → meant bytes call ≡ says
  pub bounded : Bounded call

-- a call says this of the bytes that were read with it, and is bounded
pub record Says (bytes : List ℕ) (says : CallOf) (call : Call) : Type 0 where
  pub means : meant bytes call ≡ says
  pub bounded : Bounded call

-- the name of a layout
unfoldable pub layout_of : List ℕ → Option Layout
layout_of word =
    cond (same word (115 ∷ 112 ∷ 108 ∷ 105 ∷ 116 ∷ [])) (Some Split)
    (cond (same word (119 ∷ 104 ∷ 111 ∷ 108 ∷ 101 ∷ [])) (Some Whole)
    (cond (same word (98 ∷ 105 ∷ 116 ∷ 109 ∷ 97 ∷ 112 ∷ [])) (Some Bitmap) None))

abbrev pub place_by : Option ℕ → Option (List ℕ) → Option (List ℕ)
place_by (Some n) (Some more) = Some (n ∷ more)
place_by (Some n) None = None
place_by None more = None

-- the k numbers of a place that was read
abbrev pub place_in : ℕ → Option (List ℕ) → Option (List ℕ)
place_in k (Some numbers) = Some (take k numbers)
place_in k None = None

-- the first k words as the numbers of a place
unfoldable pub place_of : ℕ → List ℕ → Option (List ℕ)
place_of zero words = Some []
place_of (suc k) words = place_by (number_of 65535 (word_of words)) (place_of k (behind words))

abbrev pub set_by : Option (List ℕ) → CallOf
set_by (Some bytes) = call_set bytes
set_by None = not_acall

abbrev pub table_by : Option ℕ → Option Table
table_by (Some t) = Some (cond (eqb t 0) First Second)
table_by None = None

-- T: the table that is named behind the word at the front, 0 where nothing stands there
unfoldable pub table_of : List ℕ → Option Table
table_of words = cond (eqb (reach 32 words) (length words)) (Some First) (table_by (number_of 1 (behind words)))

abbrev pub lend_by : Table → Option ℕ → CallOf
lend_by t (Some lent) = call_lend lent t
lend_by t None = not_acall

-- LENT, of table T
abbrev pub lend_of : Option Table → List ℕ → CallOf
lend_of (Some t) words = lend_by t (number_of (size_of t) (word_of words))
lend_of None words = not_acall

abbrev pub feed_by : Option ℕ → Option (List ℕ) → CallOf
feed_by (Some serial) (Some piece) = call_feed serial piece
feed_by (Some serial) None = not_acall
feed_by None piece = not_acall

abbrev pub close_by : Option ℕ → CallOf
close_by (Some serial) = call_close serial
close_by None = not_acall

abbrev pub state_by : Option ℕ → CallOf
state_by (Some serial) = call_state serial
state_by None = not_acall

abbrev pub build_by : Option Layout → CallOf
build_by (Some layout) = call_build layout
build_by None = not_acall

abbrev pub read_by : Layout → ℕ → ℕ → Option (List ℕ) → Option (List ℕ) → CallOf
read_by layout count room (Some place) (Some piece) = call_read layout count room place piece
read_by layout count room (Some place) None = not_acall
read_by layout count room None piece = not_acall

-- PLACE... BYTES
unfoldable pub read_from : Layout → ℕ → ℕ → List ℕ → CallOf
read_from layout count room words =
    read_by layout count room (place_of (machines_of layout) words) (bytes_of (skipped (machines_of layout) words))

abbrev pub counted_by : Layout → Option ℕ → Option ℕ → List ℕ → CallOf
counted_by layout (Some count) (Some room) words = read_from layout count room words
counted_by layout (Some count) None words = not_acall
counted_by layout None room words = not_acall

-- COUNT ROOM PLACE... BYTES
unfoldable pub read_over : Layout → List ℕ → CallOf
read_over layout words =
    counted_by layout (number_of 4294967295 (word_of words)) (number_of 2048 (word_of (behind words))) (skipped 2 words)

abbrev pub read_on : Option Layout → List ℕ → CallOf
read_on (Some layout) words = read_over layout words
read_on None words = not_acall

abbrev pub poke_by : Table → Option (ℕ × ℕ) → CallOf
poke_by t (Some (at, value)) = call_poke at value t
poke_by t None = not_acall

-- AT VALUE, of table T
abbrev pub poke_of : Option Table → List ℕ → CallOf
poke_of (Some t) words = poke_by t (numbers_of (size_of t - 1) 65535 words)
poke_of None words = not_acall

-- all numbers that are shown stand in the table
abbrev pub peek_by : Table → Option (ℕ × ℕ) → CallOf
peek_by t (Some (at, count)) = cond (leb (at + count) (size_of t)) (call_peek at count t) not_acall
peek_by t None = not_acall

-- AT COUNT, of table T
abbrev pub peek_of : Option Table → List ℕ → CallOf
peek_of (Some t) words = peek_by t (numbers_of 4294967295 256 words)
peek_of None words = not_acall

-- the name of a call on the desk
unfoldable pub desk_name : List ℕ → Option Name
desk_name word =
    cond (same word (114 ∷ 101 ∷ 112 ∷ 108 ∷ 97 ∷ 99 ∷ 101 ∷ [])) (Some N.Replace)
    (cond (same word (111 ∷ 112 ∷ 101 ∷ 110 ∷ [])) (Some N.Open)
    (cond (same word (102 ∷ 101 ∷ 101 ∷ 100 ∷ [])) (Some N.Feed)
    (cond (same word (99 ∷ 108 ∷ 111 ∷ 115 ∷ 101 ∷ [])) (Some N.Close)
    (cond (same word (115 ∷ 116 ∷ 97 ∷ 116 ∷ 101 ∷ [])) (Some N.State)
    (cond (same word (116 ∷ 97 ∷ 107 ∷ 101 ∷ [])) (Some N.Take)
    (cond (same word (115 ∷ 104 ∷ 111 ∷ 119 ∷ [])) (Some N.Show) None))))))

-- the name of a call
unfoldable pub name_of : List ℕ → Option Name
name_of word =
    cond (same word (115 ∷ 101 ∷ 116 ∷ [])) (Some N.Set)
    (cond (same word (108 ∷ 101 ∷ 110 ∷ 100 ∷ [])) (Some N.Lend)
    (cond (same word (98 ∷ 117 ∷ 105 ∷ 108 ∷ 100 ∷ [])) (Some N.Build)
    (cond (same word (114 ∷ 101 ∷ 97 ∷ 100 ∷ [])) (Some N.Read)
    (cond (same word (112 ∷ 111 ∷ 107 ∷ 101 ∷ [])) (Some N.Poke)
    (cond (same word (112 ∷ 101 ∷ 101 ∷ 107 ∷ [])) (Some N.Peek) (desk_name word))))))

-- a row of names: this one, where the word is what it is called by, and else another
pub record Row {A : Type 0} (word call : List ℕ) (name other r : A) : Type 0 where
  pub is : r ≡ cond (same word call) name other

-- what the first row says whose call the word is
abbrev pub first_row : {B A : Type 0} → (B → List ℕ) → (B → A) → List ℕ → List B → Option A
first_row call name word [] = None
first_row call name word (r ∷ rows) = cond (same word (call r)) (Some (name r)) (first_row call name word rows)

-- a call that has nothing behind its name
abbrev pub alone : Bool → CallOf → CallOf
alone true call = call
alone false call = not_acall

-- this call where nothing stands behind its name, and else none
pub record Alone (whole : Bool) (call r : Call) : Type 0 where
  pub is : r ≡ cond whole call C.NotACall

-- a call by its name, whether that is the whole line, and the words behind it
abbrev pub call_by : Option Name → Bool → List ℕ → CallOf
call_by (Some N.Set) whole words = set_by (set_of words)
call_by (Some N.Lend) whole words = lend_of (table_of words) words
call_by (Some N.Replace) whole words = alone whole call_replace
call_by (Some N.Open) whole words = alone whole call_open
call_by (Some N.Feed) whole words = feed_by (number_of 4294967295 (word_of words)) (bytes_of (behind words))
call_by (Some N.Close) whole words = close_by (number_of 4294967295 words)
call_by (Some N.State) whole words = state_by (number_of 4294967295 words)
call_by (Some N.Take) whole words = alone whole call_take
call_by (Some N.Show) whole words = alone whole call_show
call_by (Some N.Build) whole words = build_by (layout_of words)
call_by (Some N.Read) whole words = read_on (layout_of (word_of words)) (behind words)
call_by (Some N.Poke) whole words = poke_of (table_of (behind words)) words
call_by (Some N.Peek) whole words = peek_of (table_of (behind words)) words
call_by None whole words = not_acall

-- a call says what its name and the words behind it mean
pub record Called (name : Name) (whole : Bool) (words bytes : List ℕ) (call : Call) : Type 0 where
  pub says : Says bytes (call_by (Some name) whole words) call

-- the call of a line without its end: a line over 20,000 bytes is none, an empty one and one that begins with # are passed over
unfoldable pub call_of : List ℕ → CallOf
call_of line =
    cond (ltb 20000 (length line)) not_acall
    (cond (eqb (length line) 0 || eqb (get_or line 0 0) 35) passed_over
    (call_by (name_of (word_of line)) (eqb (reach 32 line) (length line)) (behind line)))
