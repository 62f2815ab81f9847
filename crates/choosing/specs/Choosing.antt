-- The places of the tags of one kind among those of a set.
use Rattle.std.specs.Prelude.{◌+◌, ◌≤◌, ℕ, cond, List, [], ◌++◌, ◌∷◌, ◌≡◌, eqb, drop, length, set, take}
use Rattle.matching.specs.Limits.{most_tags}
use Rattle.matching.specs.Tags.{Tags}
use Rattle.matching.specs.Words.{Word}
use Rattle.tagset.specs.Answer.{cut_at, tags_in}
use Rattle.tagset.specs.declared.Places.{Places}
use Rattle.choosing.specs.declared.Chosen.{Chosen}

-- where tags begin, where they end, and their kinds: so many numbers of each array
abbrev pub begins_of : Places → List ℕ
begins_of p = take p.count p.from

abbrev pub ends_of : Places → List ℕ
ends_of p = take p.count p.to

abbrev pub kinds_of : Places → List ℕ
kinds_of p = take p.count p.kinds

-- the tags that lie there in the bytes of a set
abbrev pub lying_in : List ℕ → Places → Tags
lying_in bytes p = tags_in bytes (begins_of p) (ends_of p) (kinds_of p)

-- there are so many of each
pub record PlacesFit (p : Places) : Type 0 where
  pub few : p.count ≤ most_tags
  pub fits_from : p.count ≤ length p.from
  pub fits_to : p.count ≤ length p.to
  pub fits_kinds : p.count ≤ length p.kinds

-- of a list of numbers those at whose places a list of kinds has this one
unfoldable pub picked : ℕ → List ℕ → List ℕ → List ℕ
picked kind [] xs = []
picked kind (k ∷ ks) [] = []
picked kind (k ∷ ks) (x ∷ xs) = cond (eqb k kind) (x ∷ picked kind ks xs) (picked kind ks xs)

-- where the chosen begin, and where they end
abbrev pub own_begins : Chosen → List ℕ
own_begins own = take own.count own.from

abbrev pub own_ends : Chosen → List ℕ
own_ends own = take own.count own.to

-- the words that lie there in some bytes
abbrev pub own_words : List ℕ → Chosen → List Word
own_words bytes own = cut_at bytes (own_begins own) (own_ends own)

-- one more
abbrev pub with_place : Chosen → ℕ → ℕ → Chosen
with_place own a e = record { count = own.count + 1; from = set own.from own.count a; to = set own.to own.count e }

-- there is room for as many as a set may have
pub record RoomForAll (own : Chosen) : Type 0 where
  pub from : length own.from ≡ most_tags
  pub to : length own.to ≡ most_tags

-- those of the first i tags are chosen: with what is still to be picked they are all of the kind
pub record Choosing (kind : ℕ) (p : Places) (i : ℕ) (own : Chosen) : Type 0 where
  pub few : own.count ≤ i
  pub from : own_begins own ++ picked kind (drop i (kinds_of p)) (drop i (begins_of p)) ≡ picked kind (kinds_of p) (begins_of p)
  pub to : own_ends own ++ picked kind (drop i (kinds_of p)) (drop i (ends_of p)) ≡ picked kind (kinds_of p) (ends_of p)
  pub roomy : RoomForAll own

-- all of the kind are chosen
pub record ChosenOf (kind : ℕ) (p : Places) (own : Chosen) : Type 0 where
  pub few : own.count ≤ most_tags
  pub from : own_begins own ≡ picked kind (kinds_of p) (begins_of p)
  pub to : own_ends own ≡ picked kind (kinds_of p) (ends_of p)
  pub roomy : RoomForAll own
