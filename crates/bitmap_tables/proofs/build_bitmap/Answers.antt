-- By the set's verdict, and then by its tags.
use Rattle.std.proofs.lemmas.Result.{err_from_is_err_and}
use Rattle.kinds.specs.declared.Takes.TheVariants.{ExactAlone}
use Rattle.matching.specs.Laws.Layouts.{whole_kinds}
use Rattle.tagset.specs.Laws.Lent.{lent-from, lent-to, taken_bad, taken-good}
use Rattle.tagset.specs.Laws.Places.{below_all}
use Rattle.bitmap_tables.proofs.Answers.{fault-answer, fault-table, good-answer, good-table, read-fit, read-lawful}
use Rattle.bitmap_tables.proofs.build_bitmap.Goals as goal

pub returns-in_err-places : goal.returns-in_err-places
returns-in_err-places c =
    let a = c.args in
    let (fault, is, same) = err_from_is_err_and c.from_residual.result c.from_residual.ensures.1 in
    let e = taken_bad ExactAlone whole_kinds a.set.now c.in_err-places.ensures in
    record { answer = rw (is, same) (fault-answer a.set.now a.table.now e); left = fault-table a.set.now a.table.now e }

pub slice_bounds-from-end : goal.slice_bounds-from-end
slice_bounds-from-end c =
    (taken-good ExactAlone whole_kinds c.args.set.now _ c.in_ok-places.ensures).lent.fits_from

pub slice_bounds-words-end : goal.slice_bounds-words-end
slice_bounds-words-end c =
    lent-from (taken-good ExactAlone whole_kinds c.args.set.now _ c.in_ok-places.ensures).lent

pub slice_bounds-to-end : goal.slice_bounds-to-end
slice_bounds-to-end c =
    (taken-good ExactAlone whole_kinds c.args.set.now _ c.in_ok-places.ensures).lent.fits_to

pub slice_bounds-words-end-2 : goal.slice_bounds-words-end-2
slice_bounds-words-end-2 c =
    lent-to (taken-good ExactAlone whole_kinds c.args.set.now _ c.in_ok-places.ensures).lent

pub build_tags-requires : goal.build_tags-requires
build_tags-requires c =
    let a = c.args in
    let g = taken-good ExactAlone whole_kinds a.set.now _ c.in_ok-places.ensures in
    let small = below_all 256 a.set.now (λ i h. (c.shared_slice_known-1.given i).fits) in
    (read-fit a.set.now a.table.now g small, read-lawful a.set.now a.table.now g small)

pub returns : goal.returns
returns c =
    let a = c.args in
    let g = taken-good ExactAlone whole_kinds a.set.now _ c.in_ok-places.ensures in
    record { answer = good-answer a.set.now a.table.now g _ c.build_tags.ensures.answer; left = good-table a.set.now a.table.now g _ c.build_tags.ensures.left }
