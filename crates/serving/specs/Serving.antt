-- What the bench program does with a piece: it feeds what is left of it and takes every record, until all is taken or a feed takes nothing.
use Rattle.std.specs.Prelude.{ℕ, ◌+◌, ◌<◌, List, [], ◌∷◌, ◌++◌, ◌≡◌, drop, length, take}
use Rattle.desk.specs.declared.Desk.{Desk}
use Rattle.desk.specs.declared.Serial.{Serial}
use Rattle.desk.specs.Feed.{feed_of, taken_by}
use Rattle.desk.specs.TakeMany.{many_of, oldest, take_many_of}
use Rattle.matching.specs.Words.{Word}
use Rattle.output.specs.Buffer.{Puts}
use Rattle.output.specs.declared.Buffer.{Buffer}
use Rattle.serving.specs.Lines.{lines_of}
use Rattle.serving.specs.declared.Fed.{Fed}
use Rattle.desk.specs.Layout.{Lent}

module _ (s : Serial) (table : Lent) (d : Desk) (rest : Word) where
  -- one feed of what is left of a piece, and the taking of every record: the bytes taken, the lines of the records, and the desk then.
  -- A list of 1,024 numbers has room for the 256 records that a desk can hold
  abbrev pub rest_taken : ℕ
  rest_taken = taken_by (feed_of d s table rest).answer

  abbrev pub rest_lines : List ℕ
  rest_lines = lines_of (oldest (many_of (feed_of d s table rest).desk 1024) (feed_of d s table rest).desk.records)

  abbrev pub rest_desk : Desk
  rest_desk = (take_many_of (feed_of d s table rest).desk 1024).desk

  pub record FeedsRest (before : Buffer) (r : Fed) (after : Buffer) : Type 0 where
    pub desk : r.desk ≡ rest_desk
    pub taken : r.taken ≡ rest_taken
    pub lines : Puts before rest_lines after

module _ (s : Serial) (table : Lent) where
  -- one feed after another: the desk then, the lines of the records taken meanwhile, and the bytes taken
  pub data Served : Desk → Word → Desk → List ℕ → ℕ → Type 0 where
    all-taken : {d : Desk} → Served d [] d [] 0
    none-taken : {d : Desk} {rest : Word} → 0 < length rest → rest_taken s table d rest ≡ 0
        → Served d rest (rest_desk s table d rest) (rest_lines s table d rest) 0
    some-taken : {d e : Desk} {rest : Word} {lines : List ℕ} {n : ℕ} → 0 < rest_taken s table d rest
        → Served (rest_desk s table d rest) (drop (rest_taken s table d rest) rest) e lines n
        → Served d rest e (rest_lines s table d rest ++ lines) (rest_taken s table d rest + n)

  -- a whole piece
  pub record FeedsPiece (d : Desk) (piece : Word) (before : Buffer) (r : Fed) (after : Buffer) : Type 0 where
    pub lines : List ℕ
    pub served : Served d piece r.desk lines r.taken
    pub put : Puts before lines after

  -- the pieces of an input, one after another: the lines, and the bytes taken
  pub data ServedAll : Desk → List Word → Desk → List ℕ → Word → Type 0 where
    no-piece : {d : Desk} → ServedAll d [] d [] []
    one_piece : {d e f : Desk} {piece : Word} {pieces : List Word} {lines more : List ℕ} {n : ℕ} {bytes : Word} → Served d piece e lines n
        → ServedAll e pieces f more bytes → ServedAll d (piece ∷ pieces) f (lines ++ more) (take n piece ++ bytes)
