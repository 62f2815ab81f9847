-- Laws of calls: from what the parts of a call ensure to what the call did.
use Rattle.desk.specs.Given.{Feeding, Replacing}
use Rattle.std.specs.Prelude.{ℕ, ◌+◌, ◌-◌, ◌≤◌, List, ◌++◌, ◌≡◌, refl, length, take, drop, set}
use Rattle.std.proofs.Common.{arith, ap, ap₂, subst, sym, ◌∙◌, length-take-le}
use Rattle.std.proofs.lemmas.List.{length-replicate}
use Rattle.std.proofs.Math.Seq.{paste}
use Rattle.answers.specs.Answers.{replace_line, feed_line, built_line, numbers_line}
use Rattle.desk.specs.Feed.{feed_of}
use Rattle.desk.specs.Replace.{replace_of, replaced_run}
use Rattle.desk.specs.Rooms.{serial_of}
use Rattle.desk.specs.declared.Desk.{Desk}
use Rattle.reading.specs.Outside.{ReadAt, list_by}
use Rattle.script.specs.Laws.Bytes.{front-put}
use Rattle.script.specs.Calls.{Bounded, size_of}
use Rattle.script.specs.declared.Call.{Call}
use Rattle.script.specs.declared.Layout.{Layout}
use Rattle.script.specs.declared.Table.{Table}
use Rattle.script.specs.declared.Table.TheVariants.{First, Second}
use Rattle.calling.specs.Calls.{Held, answered, build_on, built_by, Did, feed_on, front_of, held_with, lend_at, lend_on, poke_on, put_at, replace_on, sevens, table_at}
use Rattle.calling.specs.Calls.{tables_by, with_desk}
use Rattle.calling.specs.declared.state.State.{State}
use Rattle.tables.specs.Building.{Built}
use Rattle.output.specs.Buffer.{Puts}
use Rattle.output.specs.declared.Buffer.{Buffer}
use Rattle.desk.specs.Layout.{Lent, Sizes, by_set, lent, sizes, sizes_of}

-- a text that is known under another name
said : {b a : Buffer} {t u : List ℕ} → t ≡ u → Puts b t a → Puts b u a
said {b} {a} e p = subst (λ (x : List ℕ). Puts b x a) e p

pub did_desk : (h : Held) {d e : Desk} {t u : List ℕ} {b a : Buffer} → d ≡ e → t ≡ u → Puts b t a → Did (answered (with_desk h e) u) b (with_desk h d) a
did_desk h e f p = record { same = ap (with_desk h) e; puts = said f p }

-- a part from the front has its end's number of elements
pub off : (n : ℕ) → n - 0 ≡ n
off n = omega arith

pub lent_length : (n : ℕ) (l : List ℕ) → n ≤ length l → length (take (n - 0) l) ≡ n
lent_length n l h = rw (off n) (length-take-le n l h)

-- and one from `at` on so many as its end says
pub span : (at n : ℕ) → at + n - at ≡ n
span at n = omega arith

-- the parts lent of two tables, as the code cuts them
front-off : (z : Sizes) (l : Lent) → lent (take (z.first - 0) l.first) (take (z.second - 0) l.second) ≡ front_of z l
front-off z l = ap₂ (λ (m n : ℕ). lent (take m l.first) (take n l.second)) (off z.first) (off z.second)

pub did_set : (s : State) (bytes buffer after : List ℕ) (tables : Lent) {b a : Buffer} (text : List ℕ) → after ≡ paste buffer 0 bytes (length bytes)
    → Puts b text a
    → Did (answered (record { desk = s.desk; bytes = bytes; tables = tables; lent = sizes s.first_lent s.second_lent }) text) b
    (record { desk = s.desk; bytes = take (length bytes) after; tables = tables; lent = sizes s.first_lent s.second_lent }) a
did_set s bytes buffer after tables text e p = record {
  same =
      ap (λ (l : List ℕ). record { desk = s.desk; bytes = l; tables = tables; lent = sizes s.first_lent s.second_lent })
      (ap (take (length bytes)) e ∙ front-put buffer bytes (length bytes) refl);
  puts = p;
}

-- what is held where the lent parts became others
abbrev pub held_after : State → Desk → List ℕ → Lent → Lent → ℕ → ℕ → Held
held_after s d bytes tables run m n =
    record {
      desk = d;
      bytes = take s.held bytes;
      tables = lent (run.first ++ drop m tables.first) (run.second ++ drop n tables.second);
      lent = sizes s.first_lent s.second_lent;
    }

module _ (s : State) (bytes : List ℕ) (tables run : Lent) where
  abbrev lents : Sizes
  lents = sizes s.first_lent s.second_lent

  abbrev cut : Lent
  cut = lent (take (s.first_lent - 0) tables.first) (take (s.second_lent - 0) tables.second)

  -- as the code cuts them, and as they are meant
  held-off : (d : Desk) (left : Lent) → run ≡ left
      → held_after s d bytes tables run (s.first_lent - 0) (s.second_lent - 0) ≡ held_after s d bytes tables left s.first_lent s.second_lent
  held-off d left e =
      ap (λ (l : Lent). held_after s d bytes tables l (s.first_lent - 0) (s.second_lent - 0)) e
      ∙ ap₂ (held_after s d bytes tables left) (off s.first_lent) (off s.second_lent)

  pub did_replace : (r : Replacing) {b a : Buffer} → r ≡ replace_of s.desk (by_set (take (s.held - 0) bytes)) (sizes_of cut)
      → run ≡ replaced_run s.desk (by_set (take (s.held - 0) bytes)) cut
      → Puts b (replace_line r.answer) a
      → Did (replace_on (held_with s bytes tables)) b (held_after s r.desk bytes tables run (s.first_lent - 0) (s.second_lent - 0)) a
  did_replace r e f p =
      let set : take (s.held - 0) bytes ≡ take s.held bytes = ap (λ (n : ℕ). take n bytes) (off s.held) in
      let front = front-off lents tables in
      let is : r ≡ replace_of s.desk (by_set (take s.held bytes)) (sizes_of (front_of lents tables)) =
      e ∙ ap₂ (λ (l : List ℕ) (x : Lent). replace_of s.desk (by_set l) (sizes_of x)) set front in
      let left : run ≡ replaced_run s.desk (by_set (take s.held bytes)) (front_of lents tables) =
      f ∙ ap₂ (λ (l : List ℕ) (x : Lent). replaced_run s.desk (by_set l) x) set front in
      record {
        same = held-off r.desk _ left
            ∙ ap (λ (x : Replacing). held_after s x.desk bytes tables (replaced_run s.desk (by_set (take s.held bytes)) (front_of lents tables))
            s.first_lent s.second_lent) is;
        puts = said (ap (λ (x : Replacing). replace_line x.answer) is) p;
      }

  pub did_build : (layout : Layout) (x : Built) {b a : Buffer} → x ≡ built_by layout (take (s.held - 0) bytes) (sizes_of cut)
      → run ≡ tables_by layout (take (s.held - 0) bytes) cut
      → Puts b (built_line x) a
      → Did (build_on (held_with s bytes tables) layout) b (held_after s s.desk bytes tables run (s.first_lent - 0) (s.second_lent - 0)) a
  did_build layout x e f p =
      let set : take (s.held - 0) bytes ≡ take s.held bytes = ap (λ (n : ℕ). take n bytes) (off s.held) in
      let front = front-off lents tables in
      let is : x ≡ built_by layout (take s.held bytes) (sizes_of (front_of lents tables)) =
      e ∙ ap₂ (λ (l : List ℕ) (y : Lent). built_by layout l (sizes_of y)) set front in
      let left : run ≡ tables_by layout (take s.held bytes) (front_of lents tables) =
      f ∙ ap₂ (λ (l : List ℕ) (y : Lent). tables_by layout l y) set front in
      record { same = held-off s.desk _ left; puts = said (ap built_line is) p }

pub did_feed : (s : State) (serial : ℕ) (bytes : List ℕ) (tables : Lent) (piece : List ℕ) (r : Feeding) {b a : Buffer}
    → r ≡ feed_of s.desk (serial_of serial) (lent (take (s.first_lent - 0) tables.first) (take (s.second_lent - 0) tables.second)) piece
    → Puts b (feed_line r.answer) a
    → Did (feed_on (held_with s bytes tables) serial piece) b (with_desk (held_with s bytes tables) r.desk) a
did_feed s serial bytes tables piece r e p =
    let is : r ≡ feed_of s.desk (serial_of serial) (front_of (sizes s.first_lent s.second_lent) tables) piece =
    e ∙ ap (λ (l : Lent). feed_of s.desk (serial_of serial) l piece) (front-off (sizes s.first_lent s.second_lent) tables) in
    did_desk (held_with s bytes tables) (ap (λ (x : Feeding). x.desk) is) (ap (λ (x : Feeding). feed_line x.answer) is) p

-- ---- the numbers of a table, by which it is

pub size-first : (t : Table) → t ≡ First → size_of t ≡ 131841
size-first t e = rw e refl

pub size-second : (t : Table) → t ≡ Second → size_of t ≡ 16384
size-second t e = rw e refl

pub at_first : (l : Lent) (t : Table) → t ≡ First → table_at l t ≡ l.first
at_first l t e = rw e refl

pub at_second : (l : Lent) (t : Table) → t ≡ Second → table_at l t ≡ l.second
at_second l t e = rw e refl

pub put_first : (l : Lent) (at value : ℕ) (t : Table) → t ≡ First → lent (set l.first at value) l.second ≡ put_at l at value t
put_first l at value t e = rw e refl

pub put_second : (l : Lent) (at value : ℕ) (t : Table) → t ≡ Second → lent l.first (set l.second at value) ≡ put_at l at value t
put_second l at value t e = rw e refl

pub lend_first : (z : Sizes) (n : ℕ) (t : Table) → t ≡ First → sizes n z.second ≡ lend_at z n t
lend_first z n t e = rw e refl

pub lend_second : (z : Sizes) (n : ℕ) (t : Table) → t ≡ Second → sizes z.first n ≡ lend_at z n t
lend_second z n t e = rw e refl

-- and a line of some of them
pub numbers_said : (l : List ℕ) (at count : ℕ) (table : List ℕ) {b a : Buffer} → table ≡ l → Puts b (numbers_line (take (at + count - at) (drop at l))) a
    → Puts b (numbers_line (take count (drop at table))) a
numbers_said l at count table e p =
    said (ap₂ (λ (n : ℕ) (x : List ℕ). numbers_line (take n (drop at x))) (span at count) (sym e)) p

pub did_lend : (s : State) (n : ℕ) (t : Table) (first second : ℕ) (bytes : List ℕ) (tables : Lent) {b a : Buffer} → sizes first second ≡ lend_at (sizes s.first_lent s.second_lent) n t
    → Puts b (lend_on (held_with s bytes tables) n t).text a
    → Did (lend_on (held_with s bytes tables) n t) b
    (record { desk = s.desk; bytes = take s.held bytes; tables = tables; lent = sizes first second }) a
did_lend s n t first second bytes tables e p = record {
  same = ap (λ (z : Sizes). record { desk = s.desk; bytes = take s.held bytes; tables = tables; lent = z }) e;
  puts = p;
}

pub did_poke : (s : State) (at value : ℕ) (t : Table) (bytes : List ℕ) (tables after : Lent) {b a : Buffer} → after ≡ put_at tables at value t
    → Puts b (poke_on (held_with s bytes tables) at value t).text a → Did (poke_on (held_with s bytes tables) at value t) b (held_with s bytes after) a
did_poke s at value t bytes tables after e p = record { same = ap (held_with s bytes) e; puts = p }

-- ---- reads outside the desk

-- a read of any layout: what it comes to by the numbers of its list, the answer by that, and the text of an answer and a list
module _ {P A : Type 0} (came : ℕ → ReadAt P) (answer : ReadAt P → A) (text : A → List ℕ → List ℕ) where
  pub read-said : (list before after : List ℕ) (r : A) {b a : Buffer} → before ≡ sevens (length list) → r ≡ answer (came (length before))
      → after ≡ list_by before (came (length before)) → Puts b (text r after) a
      → Puts b (text (answer (came (length list))) (list_by (sevens (length list)) (came (length list)))) a
  read-said list before after r e f g p =
      let k : length before ≡ length list = ap length e ∙ length-replicate (length list) 7 in
      let is : r ≡ answer (came (length list)) = rw k at f in
      let left : after ≡ list_by before (came (length list)) = rw k at g in
      said (ap (λ (x : A). text x after) is ∙ ap (text (answer (came (length list)))) (left ∙ ap (λ (l : List ℕ). list_by l (came (length list))) e)) p

-- what a call keeps to, as its row has it
pub bound : {call k : Call} → call ≡ k → Bounded call → Bounded k
bound e h = subst Bounded e h
