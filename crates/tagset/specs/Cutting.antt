-- The words that lie in a run of letters, and the tags of a set in hand.
use Rattle.std.specs.Prelude.{List}
use Rattle.matching.specs.Words.{Word}
use Rattle.matching.specs.Tags.{Tags}
use Rattle.tagset.specs.Answer.{cut_at, tags_in}
use Rattle.tagset.specs.declared.distinct.ReadTags.{ReadTags}
use Rattle.tagset.specs.declared.letters.Words.{Words}

abbrev pub words_of : Words → List Word
words_of w = cut_at w.letters.now w.from.now w.to.now

-- the tags of a set in hand
abbrev pub tags_read : ReadTags → Tags
tags_read r = tags_in r.set.now r.from.now r.to.now r.kinds.now
