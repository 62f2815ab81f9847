-- Where nothing was noted, nothing is to be written.
use Rattle.reading.specs.Laws.Noted.{noted-none}
use Rattle.reading.proofs.noted.write_noted.Goals as goal

pub returns : goal.returns
returns c =
    let none = c.requires.hits_len.1.1 c.if-loud.false in
    (noted-none _ _ c.requires.hits_len.0 c.requires.hits_len.1.0 _ _ _ none c.requires.from_in_bounds.0, none)
