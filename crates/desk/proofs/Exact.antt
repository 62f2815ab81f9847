-- EACH REFUSAL of the desk's calls is given where its condition holds and no condition before it does, and nowhere else.
use Rattle.std.specs.Prelude.{◌<◌, ◌↔◌, ◌≡◌, length}
use Rattle.desk.specs.Calls.{close_of, open_of}
use Rattle.desk.specs.Conditions.{CloseExact, FeedExact, HasRoom, OpenExact, ticket_of}
use Rattle.desk.specs.Feed.{feed_of}
use Rattle.desk.proofs.Laws.Exact.{closes_exactly, feeds_exactly, opens_exactly, stale-is-older}
use Rattle.desk.proofs.Laws.Good.{good}
use Rattle.desk.specs.Layout.{Lent}
use Rattle.desk.specs.Limits.{most_tickets}
use Rattle.desk.specs.Numbers.{feed_number}
use Rattle.desk.specs.Reached.{Reached}
use Rattle.desk.specs.declared.Desk.{Desk}
use Rattle.desk.specs.declared.Serial.{Serial}
use Rattle.matching.specs.Words.{Word}

-- OPEN, of a desk with all its rooms
pub open_exact : (d : Desk) → length d.tickets ≡ most_tickets → OpenExact d (open_of d).answer
open_exact = opens_exactly

-- so of every desk that comes from a new desk and the calls
pub open_exact-reached : (d : Desk) → Reached d → OpenExact d (open_of d).answer
open_exact-reached d r = opens_exactly d (good r).rooms

-- FEED
pub feed_exact : (d : Desk) (s : Serial) (table : Lent) (piece : Word) → FeedExact d s table piece (feed_of d s table piece).answer
feed_exact = feeds_exactly

-- STALE: the ticket is older than the set
pub stale-older : (d : Desk) (s : Serial) (table : Lent) (piece : Word) → Reached d
    → (feed_number (feed_of d s table piece).answer ≡ 13) ↔ (HasRoom d s × ((ticket_of d s).edition.0 < d.edition.0))
stale-older = stale-is-older

-- CLOSE
pub close_exact : (d : Desk) (s : Serial) → CloseExact d s (close_of d s).answer
close_exact = closes_exactly
