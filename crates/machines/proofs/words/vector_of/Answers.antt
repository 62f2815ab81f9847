-- `machines::words::vector_of` meets its contract. From the last tag down: the vector of the tags from `i` on.
use native.Mathlib.Omega.{arith}
use Rattle.machines.proofs.Ends.{bit_small, vector_down, vector-half, vector-none}
use Rattle.tagset.specs.Cutting.{words_of}
use Rattle.machines.proofs.words.vector_of.Goals as goal

pub loop-i-init : goal.loop-i-init
loop-i-init c = vector-none (words_of c.args.words.now) c.args.word.now c.count-i.result (omega arith)

pub overflow_mul-v : goal.overflow_mul-v
overflow_mul-v c = omega (arith, vector-half (words_of c.args.words.now) c.args.word.now c.loop-i.i c.loop-i-test.true (omega arith))

pub overflow_add-v : goal.overflow_add-v
overflow_add-v c =
    omega (arith, vector-half (words_of c.args.words.now) c.args.word.now c.loop-i.i c.loop-i-test.true (omega arith), bit_small c.tag_ends.result)

pub loop-i-preserved : goal.loop-i-preserved
loop-i-preserved c =
    vector_down (words_of c.args.words.now) c.args.word.now c.loop-i.i c.loop-i.v c.from.result c.tag.result.now c.tag_ends.result c.loop-i-test.true
    (omega arith) c.loop-i.invariant c.tag.ensures c.tag_ends.ensures c.from.ensures
