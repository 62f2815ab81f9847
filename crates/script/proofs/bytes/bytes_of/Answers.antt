-- `script::bytes::bytes_of` meets its contract: by the first byte of the word.
use Rattle.std.proofs.Common.{sym, ap, ◌∙◌}
use Rattle.script.specs.Bytes.{hex_of, quoted_of}
use Rattle.script.specs.Laws.Words.{rest-lent}
use Rattle.script.specs.Laws.Bytes.{bytes_hex, bytes_quoted}
use Rattle.script.proofs.bytes.bytes_of.Goals as goal

pub returns-in-120-clause-result_after : goal.returns-in-120-clause-result_after
returns-in-120-clause-result_after c =
    let w = c.args.word.now in c.hex.ensures.result_after ∙ ap hex_of (rest-lent w 1) ∙ sym (bytes_hex w c.in-120.is)

pub returns-in-34-clause-result_after : goal.returns-in-34-clause-result_after
returns-in-34-clause-result_after c =
    let w = c.args.word.now in c.quoted.ensures.result_after ∙ ap quoted_of (rest-lent w 1) ∙ sym (bytes_quoted w c.in-34.is)
