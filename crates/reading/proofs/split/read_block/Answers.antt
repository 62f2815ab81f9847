-- All is taken; or the block is walked again up to the byte that is not.
use Rattle.matching.specs.Laws.Stepping.{damaged_not-all, full-not-all}
use Rattle.matching.specs.Parts.{read_in}
use Rattle.reading.specs.Laws.Blocks.{block-all, block-full, block-wrong}
use Rattle.reading.specs.declared.went.Went.{Went}
use Prim.Native.Nat.{ℕ}
use mathlib.Core.List.{List}
use mathlib.Core.Path.{◌∙◌, ap, sym}
use native.Mathlib.Nat.{sub-zero}
use Rattle.reading.proofs.split.read_block.Goals as goal

pub returns-then-block-at : goal.returns-then-block-at
unfolding read_in
returns-then-block-at c =
    let z = block-all _ _ _ _ _ _ c.walk_block-all.ensures.came _ _ _ _ _ c.write_noted-wrote.ensures.0
    c.if-block-at.true in
    record { tells = (c.stopped.ensures ∙ z.0, z.1); forgets = λ e. c.write_noted-wrote.ensures.1 }

pub returns-then-at-end : goal.returns-then-at-end
unfolding read_in
returns-then-at-end c =
    let again = rw (sub-zero c.write_noted-wrote.result.at) at c.walk_block-again.ensures.came in
    let z = block-full _ _ _ _ _ _ c.walk_block-all.ensures.came _ _ _ _ _ c.write_noted-wrote.ensures.0 c.if-block-at.false _ _ _ again
    c.if-at-end.true in
    record {
      tells = (c.stopped-then-at-end.ensures ∙ z.0, z.1);
      forgets = λ e. absurd (full-not-all (sym (ap (λ (r : Went (List ℕ)). r.stop) c.stopped-then-at-end.ensures) ∙ e));
    }

pub returns : goal.returns
unfolding read_in
returns c =
    let again = rw (sub-zero c.write_noted-wrote.result.at) at c.walk_block-again.ensures.came in
    let z = block-wrong _ _ _ _ _ _ c.walk_block-all.ensures.came _ _ _ _ _ c.write_noted-wrote.ensures.0 c.if-block-at.false _ _ _ again
    c.if-at-end.false in
    record {
      tells = (c.stopped-2.ensures ∙ z.0, z.1);
      forgets = λ e. absurd (damaged_not-all (sym (ap (λ (r : Went (List ℕ)). r.stop) c.stopped-2.ensures) ∙ e));
    }
