-- Serving a piece is a history of calls: feeds, each followed by as many takings as there are records.
use Rattle.desk.specs.Given.{FeedAnswer}
use Rattle.std.specs.Prelude.{ℕ, List, [], ◌∷◌, ◌++◌, ◌≡◌, refl, drop, replicate, take}
use Rattle.std.proofs.Common.{append_assoc, append-nil, ◌∙◌, sym, ap, ap₂, subst, take-add}
use Rattle.std.proofs.Math.Nat.{min-le_left}
use Rattle.desk.specs.Feed.{feed_of}
use Rattle.desk.specs.Laws.TakeMany.{many-takings, take-many-reached}
use Rattle.desk.specs.Reached.{by_call, Call, call_feed, call_take, Reached}
use Rattle.desk.specs.TakeMany.{many_of, oldest, take_many_of}
use Rattle.desk.specs.declared.Desk.{Desk}
use Rattle.desk.specs.declared.Record.{Record}
use Rattle.desk.specs.declared.Serial.{Serial}
use Rattle.history.specs.History.{Account, feeding, grown, on_serial, Proper, run, with_out, World}
use Rattle.history.specs.Laws.Becomes.{proper_append, proper-none, run_append}
use Rattle.history.specs.Laws.Takings.{below_rest, emptied, fed-accounts, fed-desk, fed-edition, fed-out, fed-table, fed-taken, takes_run}
use Rattle.matching.specs.Words.{AllBelow, Below, Word}
use Rattle.serving.specs.Lines.{lines_of, record_line}
use Rattle.serving.specs.Serving.{Served, ServedAll, all-taken, no-piece, none-taken, one_piece, rest_desk, rest_lines, rest_taken, some-taken}
use Rattle.desk.specs.Layout.{Lent}
use Rattle.history.specs.Laws.Accounts.{grown-none, grown_twice}
use Rattle.desk.specs.Limits.{most_records}

-- a history from a world in which bytes are taken for a ticket: the desk then, and the lines of the records handed out
pub record Comes (w : World) (s : Serial) (taken : Word) (e : Desk) (lines : List ℕ) : Type 0 where
  pub calls : List Call
  pub proper : Proper w calls
  pub records : List Record
  pub lines_are : lines ≡ lines_of records
  pub desk-is : (run w calls).desk ≡ e
  pub table_is : (run w calls).table ≡ w.table
  pub out-is : (run w calls).out ≡ w.out ++ records
  pub edition-is : (run w calls).edition ≡ w.edition
  pub accounts_are : (run w calls).accounts ≡ on_serial s.0 (grown taken) w.accounts
  pub reached : Reached w.desk → Reached e
  pub empty : Reached w.desk → w.desk.records.count ≡ 0 → e.records.count ≡ 0

rest_comes : (w : World) (s : Serial) (rest : Word) → Below 256 rest
    → Comes w s (take (rest_taken s w.table w.desk rest) rest) (rest_desk s w.table w.desk rest) (rest_lines s w.table w.desk rest)
unfolding run take_many_of
rest_comes w s rest below = record {
  calls = call_feed s w.table rest ∷ replicate m call_take;
  proper = fed-taken w s rest m below;
  records = oldest m fed.records;
  lines_are = refl;
  desk-is = ap (λ (x : World). x.desk) taken;
  table_is = ap (λ (x : World). x.table) taken ∙ fed-table w s rest fed answer;
  out-is = ap (λ (x : World). x.out) taken ∙ ap (λ (l : List Record). l ++ oldest m fed.records) (fed-out w s rest fed answer);
  edition-is = ap (λ (x : World). x.edition) taken ∙ fed-edition w s rest fed answer;
  accounts_are = ap (λ (x : World). x.accounts) taken ∙ fed-accounts w s rest fed answer;
  reached = λ r. take-many-reached fed 1024 (by_call r (call_feed s w.table rest));
  empty = λ r none. emptied fed (by_call r (call_feed s w.table rest));
}
  where
    fed : Desk
    fed = (feed_of w.desk s w.table rest).desk

    answer : FeedAnswer
    answer = (feed_of w.desk s w.table rest).answer

    m : ℕ
    m = many_of fed 1024

    after : World
    after = feeding w s rest fed answer

    taken : run after (replicate m call_take) ≡ with_out after (rest_desk s w.table w.desk rest) (after.out ++ oldest m fed.records)
    taken = takes_run after (fed-desk w s rest fed answer) (many-takings m fed (min-le_left fed.records.count most_records))

lines_append : (a b : List Record) → lines_of (a ++ b) ≡ lines_of a ++ lines_of b
unfolding lines_of
lines_append [] b = refl
lines_append (r ∷ a) b =
    let line = record_line r.serial.0 r.end r.tag.0 in
    ap (λ (l : List ℕ). line ++ l) (lines_append a b) ∙ sym (append_assoc line (lines_of a) (lines_of b))

-- what a feed of the rest comes to, by the desk and the table that it meets
pub rest_comes_by : (w : World) (s : Serial) (table : Lent) (d : Desk) (rest : Word) → w.desk ≡ d → w.table ≡ table → Below 256 rest
    → Comes w s (take (rest_taken s table d rest) rest) (rest_desk s table d rest) (rest_lines s table d rest)
rest_comes_by w s table d rest at lent below = rw (← at, ← lent) (rest_comes w s rest below)

-- one after the other
pub comes_then : (w : World) (s : Serial) (x y : Word) {d e : Desk} {a b : List ℕ} (c : Comes w s x d a) → Comes (run w c.calls) s y e b
    → Comes w s (x ++ y) e (a ++ b)
comes_then w s x y c next = record {
  calls = c.calls ++ next.calls;
  proper = proper_append w c.calls next.calls c.proper next.proper;
  records = c.records ++ next.records;
  lines_are = ap₂ (λ (a b : List ℕ). a ++ b) c.lines_are next.lines_are ∙ sym (lines_append c.records next.records);
  desk-is = ap (λ (v : World). v.desk) (run_append w c.calls next.calls) ∙ next.desk-is;
  table_is = ap (λ (v : World). v.table) (run_append w c.calls next.calls) ∙ next.table_is ∙ c.table_is;
  out-is =
      ap (λ (v : World). v.out) (run_append w c.calls next.calls)
      ∙ next.out-is
      ∙ ap (λ (l : List Record). l ++ next.records) c.out-is
      ∙ append_assoc w.out c.records next.records;
  edition-is = ap (λ (v : World). v.edition) (run_append w c.calls next.calls) ∙ next.edition-is ∙ c.edition-is;
  accounts_are =
      ap (λ (v : World). v.accounts) (run_append w c.calls next.calls)
      ∙ next.accounts_are
      ∙ ap (λ (l : List Account). on_serial s.0 (grown y) l) c.accounts_are
      ∙ grown_twice s.0 x y w.accounts;
  reached = λ r. next.reached (subst Reached (sym c.desk-is) (c.reached r));
  empty = λ r none. next.empty (subst Reached (sym c.desk-is) (c.reached r)) (ap (λ (x : Desk). x.records.count) c.desk-is ∙ c.empty r none);
}

-- no bytes and no call
pub comes_none : (w : World) (s : Serial) {d : Desk} → w.desk ≡ d → Comes w s [] d []
unfolding run lines_of
comes_none w s at = record {
  calls = [];
  proper = proper-none w;
  records = [];
  lines_are = refl;
  desk-is = at;
  table_is = refl;
  out-is = sym (append-nil w.out);
  edition-is = refl;
  accounts_are = sym (grown-none s.0 w.accounts);
  reached = λ r. subst Reached at r;
  empty = λ r none. ap (λ (x : Desk). x.records.count) (sym at) ∙ none;
}

pub served_comes : (s : Serial) {table : Lent} (w : World) {d e : Desk} {piece : Word} {lines : List ℕ} {n : ℕ} → w.desk ≡ d → w.table ≡ table
    → Below 256 piece
    → Served s table d piece e lines n → Comes w s (take n piece) e lines
served_comes s w at lent below all-taken = comes_none w s at
served_comes s {table} w {d} {piece = piece} at lent below (none-taken some none) =
    subst (λ (k : ℕ). Comes w s (take k piece) (rest_desk s table d piece) (rest_lines s table d piece)) none (rest_comes_by w s table d piece at lent below)
served_comes s {table} w {d} {piece = piece} at lent below (some-taken {e = e} {lines = lines} {n = n} some more) =
    let t = rest_taken s table d piece in
    let c = rest_comes_by w s table d piece at lent below in
    subst (λ (x : Word). Comes w s x e (rest_lines s table d piece ++ lines)) (sym (take-add t n piece))
    (comes_then w s (take t piece) (take n (drop t piece)) c
    (served_comes s (run w c.calls) c.desk-is (c.table_is ∙ lent) (below_rest t piece below) more))

pub all_comes : (s : Serial) {table : Lent} (w : World) {d e : Desk} {pieces : List Word} {lines : List ℕ} {bytes : Word} → w.desk ≡ d → w.table ≡ table
    → AllBelow 256 pieces → ServedAll s table d pieces e lines bytes → Comes w s bytes e lines
all_comes s w at lent below no-piece = comes_none w s at
all_comes s w at lent below (one_piece served more) =
    let c = served_comes s w at lent below.0 served in
    comes_then w s _ _ c (all_comes s (run w c.calls) c.desk-is (c.table_is ∙ lent) below.1 more)
