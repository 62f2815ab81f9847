-- `kinds::row_of`: the rows before `row` are other kinds'.
use Prim.Native.Nat.{◌<◌, ◌≤◌, ℕ}
use mathlib.Core.Path.{◌∙◌, ◌≡◌, ap, sym}
use native.Mathlib.Omega.{arith}
use lib.ListN.{get_or, length, take}
use lib.Seq.{get_or-take, length-take-le}
use Rattle.matching.specs.Kinds.{TagKind, kinds, no_kind}
use Rattle.kinds.specs.Laws.Rows.{row_found, row_on, row_out}
use Rattle.kinds.proofs.row_of.Goals as goal

-- the rows that are looked through, and what stands in them
rows_long : (rows : ℕ) → rows ≤ 2 → length (take rows kinds) ≡ rows
rows_long rows h = length-take-le rows kinds h

its-number : (rows row : ℕ) → row < rows → (get_or (take rows kinds) row no_kind).number ≡ (get_or kinds row no_kind).number
its-number rows row h = ap (λ (k : TagKind). k.number) (get_or-take rows kinds row no_kind h)

pub returns-then-kind_in-number : goal.returns-then-kind_in-number
returns-then-kind_in-number c =
    let l = c.loop-row in
    let a = c.args in
    let h : l.row < a.rows = c.loop-row-test.true in (
      h,
      row_found a.number (take a.rows kinds) l.row l.invariant (omega (arith, h, rows_long a.rows c.requires))
          (its-number a.rows l.row h ∙ sym c.kind_in.ensures.0 ∙ c.if-kind_in-number.true),
    )

pub loop-row-preserved : goal.loop-row-preserved
loop-row-preserved c =
    let l = c.loop-row in
    let a = c.args in
    let h : l.row < a.rows = c.loop-row-test.true in
    row_on a.number (take a.rows kinds) l.row l.invariant (omega (arith, h, rows_long a.rows c.requires))
    (λ e. c.if-kind_in-number.false (c.kind_in.ensures.0 ∙ sym (its-number a.rows l.row h) ∙ e))

pub returns : goal.returns
returns c =
    let l = c.loop-row in
    let a = c.args in
    omega (
      arith,
      row_out a.number (take a.rows kinds) l.row l.invariant (omega (arith, rows_long a.rows c.requires, c.loop-row-test.false)),
      c.loop-row-test.false,
      l.auto.row-end,
    )
