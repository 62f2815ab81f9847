-- A piece is served in one way.
use Rattle.desk.specs.Given.{Feeding, TakingMany}
use Rattle.std.specs.Prelude.{ℕ, ◌+◌, ◌*◌, ◌-◌, ◌<◌, ◌≤◌, List, [], ◌++◌, ◌≡◌, refl, take, drop, length}
use Rattle.std.proofs.Common.{append_assoc, ◌∙◌, sym, ap, subst, zero-add, add-zero, add_assoc, arith, length-drop, drop_of_length-le, drop-drop, take_all}
use Rattle.desk.specs.declared.Desk.{Desk}
use Rattle.desk.specs.declared.Serial.{Serial}
use Rattle.desk.specs.Feed.{feed_of, taken_by}
use Rattle.desk.proofs.Laws.Pieces.{fed-at-most}
use Rattle.matching.specs.Words.{Word}
use Rattle.desk.specs.TakeMany.{list_taken, many_of, oldest, take_many_of}
use Rattle.serving.specs.Laws.Lines.{numbered-lines}
use Rattle.serving.specs.Lines.{lines_of, record_lines}
use Rattle.output.specs.Buffer.{Puts}
use Rattle.output.specs.declared.Buffer.{Buffer}
use Rattle.output.specs.Laws.Waiting.{put-none, put_then}
use Rattle.serving.specs.Serving.{FeedsPiece, FeedsRest, Served, all-taken, none-taken, rest_desk, rest_lines, rest_taken, some-taken}
use Rattle.serving.specs.declared.Fed.{Fed}
use Rattle.desk.specs.Layout.{Lent}

-- the parts of a feed of what is left, together
pub rest-fed : (s : Serial) (table : Lent) (d : Desk) (rest : Word) (before after : Buffer) (f : Feeding) (t : TakingMany) (list filled : List ℕ)
    (count : ℕ)
    → f ≡ feed_of d s table rest → 1024 ≡ length list → t ≡ take_many_of f.desk (length list)
    → filled ≡ list_taken f.desk list (many_of f.desk (length list)) → count ≡ taken_by f.answer
    → Puts before (record_lines t.answer filled) after
    → FeedsRest s table d rest before (record { desk = t.desk; taken = count }) after
unfolding take_many_of list_taken
rest-fed s table d rest before after f t list filled count fed long many taken counted put = record {
  desk = ap (λ (x : TakingMany). x.desk) many ∙ ap (λ (k : ℕ). (take_many_of f.desk k).desk) (sym long)
      ∙ ap (λ (x : Feeding). (take_many_of x.desk 1024).desk) fed;
  taken = counted ∙ ap (λ (x : Feeding). taken_by x.answer) fed;
  lines = subst (λ (l : List ℕ). Puts before l after) same put;
}
  where
    same : record_lines t.answer filled ≡ rest_lines s table d rest
    same =
        let n = many_of f.desk 1024 in
        let held : t.answer ≡ n = ap (λ (x : TakingMany). x.answer) many ∙ ap (λ (k : ℕ). many_of f.desk k) (sym long) in
        ap (λ (k : ℕ). record_lines k filled) held
        ∙ ap (λ (l : List ℕ). record_lines n l) (taken ∙ ap (λ (k : ℕ). list_taken f.desk list (many_of f.desk k)) (sym long))
        ∙ numbered-lines n f.desk.records (drop (4 * n) list)
        ∙ ap (λ (x : Feeding). lines_of (oldest (many_of x.desk 1024) x.desk.records)) fed

-- what is left of a piece, as a part of its slice
pub left-fed : {s : Serial} {table : Lent} {now : Desk} (piece : Word) (from : ℕ) {between after : Buffer} {r : Fed}
    → FeedsRest s table now (take (length piece - from) (drop from piece)) between r after → FeedsRest s table now (drop from piece) between r after
left-fed piece from fed = rw (take_all (length piece - from) (drop from piece) (simp length-drop (omega arith))) at fed

module _ (s : Serial) (table : Lent) (d : Desk) (piece : Word) (before : Buffer) where
  -- a piece that is served so far: its lines wait, and whatever the rest of it comes to, so does the whole
  pub record SoFar (now : Desk) (from : ℕ) (after : Buffer) : Type 0 where
    pub within : from ≤ length piece
    pub lines : List ℕ
    pub put : Puts before lines after
    pub on : (e : Desk) (more : List ℕ) (n : ℕ) → Served s table now (drop from piece) e more n → Served s table d piece e (lines ++ more) (from + n)

  pub so_far_none : SoFar d 0 before
  so_far_none = record {
    within = omega arith;
    lines = [];
    put = put-none before;
    on = λ e more n h. rw (zero-add n) h;
  }

  module _ {now : Desk} {from : ℕ} {between after : Buffer} {r : Fed} (far : SoFar now from between)
      (fed : FeedsRest s table now (drop from piece) between r after) where
    pub fed-within : from + r.taken ≤ length piece
    fed-within = omega (arith, far.within, fed.taken, fed-at-most now s table (drop from piece), length-drop from piece)

    pub so_far_more : 0 < r.taken → SoFar r.desk (from + r.taken) after
    so_far_more h = record {
      within = fed-within;
      lines = far.lines ++ rest_lines s table now (drop from piece);
      put = put_then far.put fed.lines;
      on = onward;
    }
      where
        onward : (e : Desk) (more : List ℕ) (n : ℕ) → Served s table r.desk (drop (from + r.taken) piece) e more n
            → Served s table d piece e ((far.lines ++ rest_lines s table now (drop from piece)) ++ more) (from + r.taken + n)
        onward e more n served =
            let t = rest_taken s table now (drop from piece) in
            let rest : Served s table (rest_desk s table now (drop from piece)) (drop t (drop from piece)) e more n =
            rw (drop-drop t from piece, ← fed.taken, ← fed.desk) served in
            rw (append_assoc far.lines (rest_lines s table now (drop from piece)) more, fed.taken, add_assoc from t n)
            (far.on e _ _ (some-taken (rw fed.taken at h) rest))

    pub so_far_idle : from < length piece → r.taken ≡ 0 → FeedsPiece s table d piece before
        (record { desk = r.desk; taken = from }) after
    so_far_idle h z =
        let some : 0 < length (drop from piece) = simp length-drop (omega arith) in
        record {
          lines = far.lines ++ rest_lines s table now (drop from piece);
          served = rw fed.desk (rw (add-zero from) at (far.on _ _ 0 (none-taken some (sym fed.taken ∙ z))));
          put = put_then far.put fed.lines;
        }

  pub so_far_all : {now : Desk} {from : ℕ} {after : Buffer} → SoFar now from after → length piece ≤ from
      → FeedsPiece s table d piece before (record { desk = now; taken = from }) after
  so_far_all {now} {from} {after} far h = record {
    lines = far.lines ++ [];
    served = rw (add-zero from) at (far.on now [] 0 (rw (drop_of_length-le piece h) all-taken));
    put = put_then far.put (put-none after);
  }

-- a piece is served in one way
module _ (s : Serial) (table : Lent) where
  pub served_once : {d e f : Desk} {rest : Word} {a b : List ℕ} {m n : ℕ} → Served s table d rest e a m → Served s table d rest f b n
      → (e ≡ f) × (a ≡ b) × (m ≡ n)
  served_once all-taken all-taken = (refl, refl, refl)
  served_once all-taken (none-taken some none) = absurd (omega arith)
  served_once {d} all-taken (some-taken some more) = absurd (omega (arith, some, fed-at-most d s table []))
  served_once (none-taken some none) all-taken = absurd (omega arith)
  served_once (none-taken some none) (none-taken other nothing) = (refl, refl, refl)
  served_once (none-taken some none) (some-taken other more) = absurd (omega (arith, none, other))
  served_once {d} (some-taken some more) all-taken = absurd (omega (arith, some, fed-at-most d s table []))
  served_once (some-taken some more) (none-taken other nothing) = absurd (omega (arith, some, nothing))
  served_once {d} {rest = rest} (some-taken some more) (some-taken other again) =
      let same = served_once more again in
      (same.0, ap (λ (l : List ℕ). rest_lines s table d rest ++ l) same.1, ap (λ (k : ℕ). rest_taken s table d rest + k) same.2)
