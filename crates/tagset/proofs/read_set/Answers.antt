-- `tagset::read_set` meets its contract. The entries, then the test of equal tags.
use mathlib.Core.List.{List}
use mathlib.Core.Path.{◌∙◌, ◌≡◌, ap, sym}
use Prim.Native.Nat.{ℕ}
use lib.ListN.{take}
use Rattle.kinds.specs.Rows.{kinds_taken}
use Rattle.kinds.specs.declared.Takes.{Takes}
use Rattle.std.proofs.Common.{eqb-true}
use Rattle.std.proofs.lemmas.Bool.{eqb-false}
use Rattle.std.proofs.lemmas.Result.{err_from_is_err_and}
use Rattle.matching.specs.Kinds.{TagKind, kinds}
use Rattle.tagset.proofs.Joined.{joined-empty, joined-fault, joined-good, joined-repeat, lain, lain_short}
use Rattle.tagset.specs.Answer.{set_read}
use Rattle.tagset.specs.Grammar.{set_of}
use Rattle.tagset.specs.Laws.Lent.{lent-from, lent-kinds, lent-to}
use Rattle.tagset.proofs.read_set.Goals as goal

-- the kinds that are taken are those of the first rows
taken : (takes : Takes) (rows : ℕ) (set : List ℕ) → take rows kinds ≡ kinds_taken takes → set_read (set_of (take rows kinds) set) ≡ set_read (set_of (kinds_taken takes) set)
taken takes rows set e = ap (λ (ks : List TagKind). set_read (set_of ks set)) e

pub returns-then-is_empty : goal.returns-then-is_empty
returns-then-is_empty c = joined-empty _ c.args.set.now (eqb-true _ _ (sym c.if-is_empty.ensures))

pub returns-in_err-read : goal.returns-in_err-read
returns-in_err-read c =
    let (fault, is, same) = err_from_is_err_and c.from_residual.result c.from_residual.ensures.1 in
    rw (is, same)
    (joined-fault _ c.args.set.now (eqb-false _ _ (sym c.if-is_empty.ensures)) c.in_err-read.ensures
    ∙ taken c.args.takes _ c.args.set.now c.rows_taken.ensures.1)

pub slice_bounds-from-end : goal.slice_bounds-from-end
slice_bounds-from-end c = (lain _ c.args.set.now _ c.in_ok-read.ensures).lent.fits_from

pub slice_bounds-distinct_tags-end : goal.slice_bounds-distinct_tags-end
slice_bounds-distinct_tags-end c = lent-from (lain _ c.args.set.now _ c.in_ok-read.ensures).lent

pub slice_bounds-to-end : goal.slice_bounds-to-end
slice_bounds-to-end c = (lain _ c.args.set.now _ c.in_ok-read.ensures).lent.fits_to

pub slice_bounds-distinct_tags-end-2 : goal.slice_bounds-distinct_tags-end-2
slice_bounds-distinct_tags-end-2 c = lent-to (lain _ c.args.set.now _ c.in_ok-read.ensures).lent

pub slice_bounds-kinds-end : goal.slice_bounds-kinds-end
slice_bounds-kinds-end c = (lain _ c.args.set.now _ c.in_ok-read.ensures).lent.fits_kinds

pub slice_bounds-distinct_tags-end-3 : goal.slice_bounds-distinct_tags-end-3
slice_bounds-distinct_tags-end-3 c = lent-kinds (lain _ c.args.set.now _ c.in_ok-read.ensures).lent

pub distinct_tags-requires : goal.distinct_tags-requires
distinct_tags-requires c =
    let l = lain _ c.args.set.now _ c.in_ok-read.ensures in
    record {
      short = lain_short c.rows_taken.result c.args.set.now _ l;
      ends = sym (lent-to l.lent) ∙ lent-from l.lent;
      kinded = sym (lent-kinds l.lent) ∙ lent-from l.lent;
    }

pub returns-in_err-distinct_tags : goal.returns-in_err-distinct_tags
returns-in_err-distinct_tags c =
    let (fault, is, same) = err_from_is_err_and c.from_residual-in_err-distinct_tags.result c.from_residual-in_err-distinct_tags.ensures.1 in
    rw (is, same)
    (joined-repeat _ c.args.set.now (eqb-false _ _ (sym c.if-is_empty.ensures)) _ c.in_ok-read.ensures _ c.distinct_tags.ensures c.in_err-distinct_tags.was
    ∙ taken c.args.takes _ c.args.set.now c.rows_taken.ensures.1)

pub returns : goal.returns
returns c =
    joined-good _ c.args.set.now (eqb-false _ _ (sym c.if-is_empty.ensures)) _ c.in_ok-read.ensures _ c.distinct_tags.ensures c.in_ok-distinct_tags.was
    ∙ taken c.args.takes _ c.args.set.now c.rows_taken.ensures.1
