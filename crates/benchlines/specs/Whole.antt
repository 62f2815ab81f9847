-- An input of no more than 4,294,967,295 bytes is taken whole: only LONG ends the run before the input ends.
use Rattle.desk.specs.Given.{Feeding, replaced_as}
use Rattle.desk.specs.declared.FeedRefusal.TheVariants as F
use Rattle.desk.specs.declared.StateAnswer.TheVariants as A
use Rattle.std.specs.Prelude.{ℕ, ◌+◌, ◌<◌, ◌≤◌, ◌≡◌, refl, drop, get_or, length, take, Ok, Err}
use mathlib.Core.List.{List, [], ◌∷◌, ◌++◌}
use Rattle.std.proofs.Common.{◌∙◌, arith, length-append, length-drop, length-take-le, take_all}
use Rattle.std.proofs.Math.Path.{ap}
use Rattle.desk.specs.Calls.{new_desk, open_of}
use Rattle.desk.specs.Feed.{feed_of}
use Rattle.desk.proofs.Laws.Pieces.{fed-at-most}
use Rattle.desk.specs.Laws.Views.{Feeds, feed_long, feed_no-place, feed_no-ticket, feed_other-slots, feed_read, feed_stale}
use Rattle.desk.proofs.Laws.Views.{feeds}
use Rattle.desk.specs.Replace.{replace_of, replaced_run}
use Rattle.desk.specs.Rooms.{edition_of, room_of, serial_of}
use Rattle.desk.specs.Shared.{records_of}
use Rattle.desk.specs.State.{state_of}
use Rattle.desk.specs.declared.Desk.{Desk}
use Rattle.desk.specs.declared.Edition.{Edition}
use Rattle.history.specs.History.{Account, account_at, grown, no_account, on_serial, Proper, run, start, step, World}
use Rattle.history.specs.Laws.Becomes.{proper_append, proper-one, run_append}
use Rattle.history.specs.Laws.Feeding.{agrees}
use Rattle.history.specs.Laws.Invariant.{Inv}
use Rattle.history.specs.Laws.LedgerSteps.{sound-left}
use Rattle.history.specs.Laws.States.{state-is, state_of_account}
use Rattle.history.specs.Laws.Takings.{below_rest}
use Rattle.history.specs.Progress.{progress}
use Rattle.history.specs.Served.{joined}
use Rattle.matching.specs.Words.{AllBelow, Below, Word}
use Rattle.serving.specs.Lines.{lines_of}
use Rattle.serving.specs.Serving.{Served, ServedAll, all-taken, no-piece, none-taken, one_piece, rest_taken, some-taken}
use Rattle.tagset.specs.Grammar.{good_set}
use Rattle.benchlines.specs.Laws.Acts.{Comes, rest_comes_by, served_comes}
use Rattle.benchlines.specs.Occurrences.{Begun, account_of, begun, writes_the_occurrences}
use Rattle.desk.specs.Layout.{by_set, desk_set, Lent, one_bit, sizes_of}
use Rattle.desk.specs.Reached.{Call, call_open, call_replace}
use Rattle.matching.specs.Tags.{Tags, found_in}
use Rattle.matching.specs.Limits.{largest}

-- a history in which the one ticket is open and has taken these bytes, and no record is held
pub record Ready (ts : Tags) (before : Word) (calls : List Call) : Type 0 where
  pub proper : Proper (start one_bit) calls
  pub accounts_are : (run (start one_bit) calls).accounts ≡ account_of ts before ∷ []
  pub edition-is : (run (start one_bit) calls).edition ≡ 1
  pub empty : (run (start one_bit) calls).desk.records.count ≡ 0

module _ {ts : Tags} {before : Word} {calls : List Call} (ready : Ready ts before calls) where
  abbrev w : World
  w = run (start one_bit) calls

  v : Inv (Unit {0}) w
  v = (sound-left one_bit calls ready.proper.0 ready.proper.1).inv

  one : 0 < length w.accounts
  one = rw ready.accounts_are (omega arith)

  account : account_at w 0 ≡ account_of ts before
  account = ap (λ (l : List Account). get_or l 0 no_account) ready.accounts_are

  ticket_open : state_of w.desk (serial_of 1) ≡ A.Open (edition_of 1) (length before)
  ticket_open = state-is w v 0 one ∙ ap (λ (a : Account). state_of_account w.edition a) account
      ∙ ap (λ (e : ℕ). state_of_account e (account_of ts before)) ready.edition-is

  not-long : (piece : Word) → length before + length piece ≤ largest → (feed_of w.desk (serial_of 1) w.table piece).answer ≡ Err F.Long → ⊥
  not-long piece few e = go _ (feeds w.desk (serial_of 1) w.table piece) e
    where
      go : (r : Feeding) → Feeds w.desk (room_of w.desk.tickets (serial_of 1)) w.table piece r → r.answer ≡ Err F.Long → ⊥
      go r (feed_no-ticket h) q = absurd (let z : ◌≡◌ {A = ℕ} 0 1 = cc in omega arith)
      go r (feed_stale h n) q = absurd (let z : ◌≡◌ {A = ℕ} 0 1 = cc in omega arith)
      go r (feed_other-slots h n m) q = absurd (let z : ◌≡◌ {A = ℕ} 0 1 = cc in omega arith)
      go r (feed_no-place h n m l k) q = absurd (let z : ◌≡◌ {A = ℕ} 0 1 = cc in omega arith)
      go r (feed_read h n m l) q = absurd (let z : ◌≡◌ {A = ℕ} 0 1 = cc in omega arith)
      go r (feed_long h n m l) q =
          omega (arith, l, few, (agrees w v (serial_of 1) 0 one refl h).taken, ap (λ (a : Account). length a.bytes) account)

  some_bytes : (c : ℕ) (piece : Word) → Below 256 (c ∷ piece) → length before + length (c ∷ piece) ≤ largest
      → 0 < rest_taken (serial_of 1) w.table w.desk (c ∷ piece)
  some_bytes c piece below few =
      progress one_bit calls ready.proper.0 (serial_of 1) (edition_of 1) (length before) ticket_open ready.empty c piece (not-long (c ∷ piece) few)

  -- after a history that goes on from there
  ready_on : {taken : Word} {e : Desk} {lines : List ℕ} (c : Comes w (serial_of 1) taken e lines) → Ready ts (before ++ taken) (calls ++ c.calls)
  unfolding on_serial
  ready_on {taken} c = record {
    proper = proper_append (start one_bit) calls c.calls ready.proper c.proper;
    accounts_are = ap (λ (x : World). x.accounts) (run_append (start one_bit) calls c.calls) ∙ c.accounts_are
        ∙ ap (λ (l : List Account). on_serial 1 (grown taken) l) ready.accounts_are;
    edition-is = ap (λ (x : World). x.edition) (run_append (start one_bit) calls c.calls) ∙ c.edition-is ∙ ready.edition-is;
    empty =
        ap (λ (x : World). x.desk.records.count) (run_append (start one_bit) calls c.calls)
        ∙ ap (λ (d : Desk). d.records.count) c.desk-is
        ∙ c.empty v.reached ready.empty;
  }

parts_length : (before piece : Word) (t : ℕ) → t ≤ length piece → length (before ++ take t piece) + length (drop t piece) ≡ length before + length piece
parts_length before piece t h = omega (arith, length-append before (take t piece), length-take-le t piece h, length-drop t piece)

-- a piece that isn't LONG is taken whole
whole : {ts : Tags} {table : Lent} {before : Word} (calls : List Call) {d e : Desk} {piece : Word} {lines : List ℕ} {n : ℕ} → Ready ts before calls
    → (run (start one_bit) calls).desk ≡ d → (run (start one_bit) calls).table ≡ table → Below 256 piece → length before + length piece ≤ largest
    → Served (serial_of 1) table d piece e lines n → n ≡ length piece
whole calls ready at lent below few all-taken = refl
whole {table = table} calls {d} {piece = []} ready at lent below few (none-taken some none) = absurd (omega arith)
whole {table = table} calls {d} {piece = c ∷ piece} ready at lent below few (none-taken some none) =
    let taken : 0 < rest_taken (serial_of 1) table d (c ∷ piece) = rw (← at, ← lent) (some_bytes ready c piece below few) in
    absurd (omega (arith, taken, none))
whole {table = table} {before = before} calls {d} {piece = piece} ready at lent below few (some-taken some more) =
    let s = serial_of 1 in
    let t = rest_taken s table d piece in
    let c = rest_comes_by (run (start one_bit) calls) s table d piece at lent below in
    let part = fed-at-most d s table piece in
    let same = run_append (start one_bit) calls c.calls in
    let left : length (before ++ take t piece) + length (drop t piece) ≤ largest = omega (arith, parts_length before piece t part, few) in
    let rest = whole {before = before ++ take t piece} (calls ++ c.calls) (ready_on ready c) (ap (λ (x : World). x.desk) same ∙ c.desk-is)
    (ap (λ (x : World). x.table) same ∙ c.table_is ∙ lent) (below_rest t piece below) left more in
    omega (arith, rest, part, length-drop t piece)

whole_input : {ts : Tags} {table : Lent} {before : Word} (calls : List Call) {d e : Desk} {pieces : List Word} {lines : List ℕ} {bytes : Word}
    → Ready ts before calls
    → (run (start one_bit) calls).desk ≡ d → (run (start one_bit) calls).table ≡ table → AllBelow 256 pieces → length before + length (joined pieces) ≤ largest
    → ServedAll (serial_of 1) table d pieces e lines bytes → bytes ≡ joined pieces
unfolding joined
whole_input calls ready at lent below few no-piece = refl
whole_input {before = before} calls ready at lent below few (one_piece {piece = piece} {pieces = pieces} {n = n} {bytes = bytes} served more) =
    let sizes = length-append piece (joined pieces) in
    let taken : n ≡ length piece = whole calls ready at lent below.0 (omega (arith, few, sizes)) served in
    let c = served_comes (serial_of 1) (run (start one_bit) calls) at lent below.0 served in
    let all : take n piece ≡ piece = take_all n piece (omega (arith, taken)) in
    let same = run_append (start one_bit) calls c.calls in
    let left : length (before ++ take n piece) + length (joined pieces) ≤ largest =
    omega (arith, few, sizes, length-append before (take n piece), ap (λ (x : Word). length x) all) in
    let rest : bytes ≡ joined pieces =
    whole_input {before = before ++ take n piece} (calls ++ c.calls) (ready_on ready c) (ap (λ (x : World). x.desk) same ∙ c.desk-is)
    (ap (λ (x : World). x.table) same ∙ c.table_is ∙ lent) below.1 left more in
    ap (λ (x : Word). x ++ bytes) all ∙ ap (λ (x : Word). piece ++ x) rest

-- so bench writes the occurrences in the whole input
pub whole_input_written : (set : List ℕ) (lent : Lent) (ts : Tags) (edition : Edition) (count : ℕ) (pieces : List Word) (e : Desk) (lines : List ℕ)
    (bytes : Word)
    → Below 256 set → desk_set set ≡ good_set ts → (replace_of (new_desk one_bit) (by_set set) (sizes_of lent)).answer ≡ Ok (replaced_as edition count) → AllBelow 256 pieces
    → length (joined pieces) ≤ largest
    → ServedAll (serial_of 1) (replaced_run (new_desk one_bit) (by_set set) lent)
    (open_of (replace_of (new_desk one_bit) (by_set set) (sizes_of lent)).desk).desk pieces e lines bytes
    → (bytes ≡ joined pieces) × (lines ≡ lines_of (records_of (serial_of 1) (edition_of 1) (found_in ts (joined pieces))))
unfolding run
whole_input_written set lent ts edition count pieces e lines bytes below tags accepted small few served = (
  taken,
  writes_the_occurrences set lent ts edition count pieces e lines bytes below tags accepted small served
      ∙ ap (λ (x : Word). lines_of (records_of (serial_of 1) (edition_of 1) (found_in ts x))) taken,
)
  where
    b : Begun ts (run (start one_bit) (call_replace (by_set set) lent ∷ call_open ∷ []))
        (open_of (replace_of (new_desk one_bit) (by_set set) (sizes_of lent)).desk).desk (replaced_run (new_desk one_bit) (by_set set) lent)
    b = begun set lent ts edition count tags accepted

    both : Proper (start one_bit) (call_replace (by_set set) lent ∷ call_open ∷ [])
    both = proper_append (start one_bit) (call_replace (by_set set) lent ∷ []) (call_open ∷ []) (proper-one (start one_bit) (call_replace (by_set set) lent) below tt)
        (proper-one (step (start one_bit) (call_replace (by_set set) lent)) call_open tt tt)

    ready : Ready ts [] (call_replace (by_set set) lent ∷ call_open ∷ [])
    ready = record { proper = both; accounts_are = b.accounts_are; edition-is = b.edition-is; empty = b.empty }

    taken : bytes ≡ joined pieces
    taken = whole_input (call_replace (by_set set) lent ∷ call_open ∷ []) ready b.desk-is b.table_is small (omega (arith, few)) served
