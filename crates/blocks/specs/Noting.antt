-- What a walk notes: at each byte a number, whose ones are the tags found there. Several walks over the same bytes note into one run.
use Rattle.std.specs.Prelude.{ℕ, List, [], ◌∷◌, map}
use Rattle.std.specs.Int.Bits.{bit_or}
use Rattle.matching.specs.Limits.{most_tags}
use Rattle.matching.specs.Parts.{union}
use Rattle.matching.specs.Reading.{ones_of}

-- the tags that numbers stand for
abbrev pub tag_rows : List ℕ → List (List ℕ)
tag_rows vs = map (ones_of 0 most_tags) vs

-- numbers ORed into the front of a run
unfoldable pub ored : List ℕ → List ℕ → List ℕ
ored [] hits = hits
ored (v ∷ vs) [] = []
ored (v ∷ vs) (h ∷ hits) = bit_or v h ∷ ored vs hits

-- the tags of either of two walks, byte by byte
unfoldable pub unions : List (List ℕ) → List (List ℕ) → List (List ℕ)
unions [] more = []
unions (tags ∷ rows) [] = []
unions (tags ∷ rows) (those ∷ more) = union tags those ∷ unions rows more
