-- `machines::words::tag_ends` meets its contract: from `i` on the letters are those of the tag.
use Prim.Native.Nat.{◌-◌}
use mathlib.Core.Path.{sym}
use Rattle.matching.specs.Laws.Words.{ends-short}
use Rattle.machines.proofs.Ends.{last-all, last-differ, last-more, last-none}
use Rattle.machines.proofs.words.tag_ends.Goals as goal

pub returns-then-word-tag : goal.returns-then-word-tag
returns-then-word-tag c = sym (ends-short c.args.tag.now c.args.word.now c.if-word-tag.true)

pub loop-i-init : goal.loop-i-init
loop-i-init c = last-none c.args.word.now c.args.tag.now c.if-word-tag.false

pub returns-then-last-i : goal.returns-then-last-i
returns-then-last-i c = last-differ c.args.word.now c.args.tag.now c.if-word-tag.false (c.loop-i.i - 1) c.if-last-i.true

pub loop-i-preserved : goal.loop-i-preserved
loop-i-preserved c =
    last-more c.args.word.now c.args.tag.now c.if-word-tag.false c.loop-i.i c.loop-i-test.true c.loop-i.auto.i c.loop-i.invariant c.if-last-i.false

pub returns : goal.returns
returns c = last-all c.args.word.now c.args.tag.now c.if-word-tag.false c.loop-i.i c.loop-i-test.false c.loop-i.invariant
