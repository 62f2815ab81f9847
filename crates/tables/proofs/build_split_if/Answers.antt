-- `tables::build_split_if` meets its contract. By the set's fault, then part by part, and then its tags.
use Prim.Native.Nat.{ℕ}
use mathlib.Core.List.{[], ◌∷◌}
use lib.ListN.{length}
use Rattle.std.proofs.Common.{◌∙◌, ◌≡◌, Ok, refl}
use Rattle.std.proofs.lemmas.Result.{err_from_is_err_and}
use Rattle.matching.specs.Kinds.{exact_kind, folded_kind}
use Rattle.matching.specs.Parts.{Part, part, part_room, part_slots, room_in, split_layout}
use Rattle.matching.specs.Tags.{Tags}
use Rattle.choosing.specs.Choosing.{lying_in}
use Rattle.tables.proofs.Answers.{alone, done-answer, done-tables, first-enough, first-refused, room-enough, room-refused, set-refused, two-tables}
use Rattle.tables.proofs.OnePart.{tags-many}
use Rattle.tables.specs.Shape.{judged_by}
use Rattle.tables.proofs.Held.{split-taken}
use Rattle.tables.proofs.build_split_if.Goals as goal

abbrev first_part : Part
first_part = part exact_kind 1 8 0

abbrev second_part : Part
second_part = part folded_kind 1 8 8

-- both parts have slots enough
both : (tags : Tags) (a b : ℕ) → Ok tt ≡ judged_by (part_room first_part tags (part_slots first_part a))
    → Ok tt ≡ judged_by (part_room second_part tags (part_slots second_part b)) → Ok tt ≡ judged_by (room_in split_layout tags (a ∷ b ∷ []))
both tags a b e f = f ∙ alone tags second_part b ∙ first-enough tags first_part (second_part ∷ []) a (b ∷ []) e

pub returns-in_err-good : goal.returns-in_err-good
returns-in_err-good c =
    let (fault, is, same) = err_from_is_err_and c.from_residual.result c.from_residual.ensures.1 in
    let a = c.args in
    let r = set-refused split_layout a.set.now (split-taken _ c.in_err-good.ensures) a.write (a.first.now ∷ a.second.now ∷ []) in
    record { answer = rw (is, same) r.answer; left = r.left }

pub returns-in_err-judge_part : goal.returns-in_err-judge_part
returns-in_err-judge_part c =
    let a = c.args in
    let (fault, is, same) = err_from_is_err_and c.from_residual-in_err-judge_part.result c.from_residual-in_err-judge_part.ensures.1 in
    let e = first-refused _ first_part (second_part ∷ []) (length a.first.now) (length a.second.now ∷ []) _ c.in_err-judge_part.ensures in
    let r = room-refused split_layout a.set.now (split-taken _ c.in_ok-good.ensures.1) _ a.write (a.first.now ∷ a.second.now ∷ []) e in
    record { answer = rw (is, same) r.answer; left = r.left }

pub returns-in_err-judge_part-2 : goal.returns-in_err-judge_part-2
returns-in_err-judge_part-2 c =
    let a = c.args in
    let (fault, is, same) = err_from_is_err_and c.from_residual-in_err-judge_part-2.result c.from_residual-in_err-judge_part-2.ensures.1 in
    let e = c.in_err-judge_part-2.ensures ∙ alone _ second_part (length a.second.now)
    ∙ first-enough _ first_part (second_part ∷ []) (length a.first.now) (length a.second.now ∷ []) c.in_ok-judge_part.ensures in
    let r = room-refused split_layout a.set.now (split-taken _ c.in_ok-good.ensures.1) _ a.write (a.first.now ∷ a.second.now ∷ []) e in
    record { answer = rw (is, same) r.answer; left = r.left }

pub fill_part-requires : goal.fill_part-requires
fill_part-requires c =
    let a = c.args in
    (room-enough split_layout a.set.now (split-taken _ c.in_ok-good.ensures.1) (a.first.now ∷ a.second.now ∷ [])
    (both _ _ _ c.in_ok-judge_part.ensures c.in_ok-judge_part-2.ensures)).0

pub fill_part-requires-then-write : goal.fill_part-requires-then-write
fill_part-requires-then-write c =
    let a = c.args in
    (room-enough split_layout a.set.now (split-taken _ c.in_ok-good.ensures.1) (a.first.now ∷ a.second.now ∷ [])
    (both _ _ _ c.in_ok-judge_part.ensures c.in_ok-judge_part-2.ensures)).1.0

pub returns-then-write : goal.returns-then-write
returns-then-write c =
    let a = c.args in
    let good = c.in_ok-good.good in
    let tags = lying_in good.bytes.now good.places in
    let runs = a.first.now ∷ a.second.now ∷ [] in
    let enough = both tags _ _ c.in_ok-judge_part.ensures c.in_ok-judge_part-2.ensures in
    record {
      answer = done-answer split_layout a.set.now (split-taken _ c.in_ok-good.ensures.1) runs enough _ (tags-many good.held);
      left = rw c.if-write.true (done-tables split_layout a.set.now (split-taken _ c.in_ok-good.ensures.1) runs enough _
          (two-tables tags first_part second_part a.first.now a.second.now _ _ c.fill_part.ensures c.fill_part-then-write.ensures));
    }

pub returns-else-write : goal.returns-else-write
returns-else-write c =
    let a = c.args in
    let good = c.in_ok-good.good in
    let tags = lying_in good.bytes.now good.places in
    let enough = both tags _ _ c.in_ok-judge_part.ensures c.in_ok-judge_part-2.ensures in
    record {
      answer = done-answer split_layout a.set.now (split-taken _ c.in_ok-good.ensures.1) (a.first.now ∷ a.second.now ∷ []) enough _ (tags-many good.held);
      left = rw c.if-write.false refl;
    }
