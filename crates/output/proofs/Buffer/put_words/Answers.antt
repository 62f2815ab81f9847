use Rattle.output.specs.Laws.Waiting.{put-none, put_next}
use Rattle.output.proofs.Buffer.put_words.Goals as goal

pub loop-byte-init : goal.loop-byte-init
loop-byte-init c = put-none c.args.self.now

pub loop-byte-preserved : goal.loop-byte-preserved
loop-byte-preserved c =
    put_next c.args.words.now c.loop-byte.byte-index c.loop-byte-test.true c.loop-byte.invariant c.put_byte-used.ensures
