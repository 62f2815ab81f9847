-- The low bits are what the mask leaves.
use lib.Bits.{and_mask}
use Rattle.bitmap.specs.Laws.Loops.{shifted}
use Rattle.bitmap.proofs.slots.low.Goals as goal

pub returns : goal.returns
returns c = rw (shifted c.args.k c.requires) (and_mask c.args.word c.args.k)
