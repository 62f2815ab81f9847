-- The history in which the tickets of another history are served one after another, by serial. It is a history of the same calls, from
-- a new desk.
use Rattle.desk.specs.Given.{FeedAnswer}
use Rattle.matching.specs.declared.Stop.TheVariants as S
use Rattle.std.specs.Prelude.{◌+◌, ◌-◌, suc, zero, ℕ, Bool, false, true, List, [], ◌++◌, ◌∷◌, ◌≡◌, drop, length, replicate, take, Ok, Err}
use Rattle.desk.specs.Calls.{close_of, open_of, take_of}
use Rattle.desk.specs.Feed.{feed_of}
use Rattle.desk.specs.Numbers.{close_number, feed_number, open_number, replace_number, take_number}
use Rattle.desk.specs.Replace.{replace_of}
use Rattle.desk.specs.Rooms.{serial_of}
use Rattle.desk.specs.declared.Serial.{Serial}
use Rattle.history.specs.History.{Account, Replacement, run, start, step, World}
use Rattle.matching.specs.Words.{Word}
use Rattle.desk.specs.Layout.{Kind, sizes_of}
use Rattle.desk.specs.Reached.{Call, call_close, call_feed, call_open, call_replace, call_take}
use Rattle.matching.specs.declared.Stop.{Stop}

-- calls to come, which may go by what the calls before them have left
abbrev pub Script : Type 0
Script = World → List Call

-- no calls; and one script behind another
abbrev pub nothing : Script
nothing w = []

abbrev pub then : Script → Script → Script
then f g w = f w ++ g (run w (f w))

-- replacements as they were called
unfoldable pub called : List Replacement → List Call
called [] = []
called (o ∷ os) = call_replace o.order o.run ∷ called os

-- records are taken until the list is empty
abbrev pub emptied : Script
emptied w = replicate w.desk.records.count call_take

-- where a feed stops FULL the list is emptied, and then goes what is given for the bytes that it didn't take
abbrev pub on_full : Stop → Script → Script
on_full S.All more = nothing
on_full S.Full more = more
on_full S.Damaged more = nothing

abbrev pub after_full : FeedAnswer → (ℕ → Script) → Script
after_full (Ok a) more = on_full a.stop (then emptied (more a.taken))
after_full (Err why) more = nothing

-- bytes fed for a serial, in at most so many feeds
unfoldable pub fed_whole : ℕ → Serial → Word → Script
fed_whole zero s b w = []
fed_whole (suc most) s b w =
    call_feed s w.table b ∷ after_full (feed_of w.desk s w.table b).answer (λ count. fed_whole most s (drop count b)) (step w (call_feed s w.table b))

-- pieces fed one after another; emptying the list once more than there are bytes is always enough
unfoldable pub fed_pieces : Serial → List Word → Script
fed_pieces s [] w = []
fed_pieces s (p ∷ ps) w = then (fed_whole (length p + 2) s p) (fed_pieces s ps) w

-- the bytes of some pieces
unfoldable pub joined : List Word → Word
joined [] = []
joined (p ∷ ps) = p ++ joined ps

abbrev pub shut_if : Bool → Serial → Script
shut_if true s w = call_close s ∷ []
shut_if false s w = []

-- one ticket: the replacements up to its edition, its opening, its bytes in some pieces, and its closing if it was closed
abbrev pub served_one : List Replacement → Account → List Word → Script
served_one orders a pieces w =
    then (λ v. called (take (a.edition - v.edition) (drop v.edition orders)))
    (then (λ v. call_open ∷ []) (then (fed_pieces (serial_of a.serial) pieces) (shut_if a.closed (serial_of a.serial)))) w

-- tickets in the order of their accounts, the first of which is that of ticket k, then the replacements that are left
unfoldable pub served_all : List Replacement → (ℕ → List Word) → ℕ → List Account → Script
served_all orders cut k [] w = called (drop w.edition orders)
served_all orders cut k (a ∷ more) w = then (served_one orders a (cut k)) (served_all orders cut (suc k) more) w

-- the history that serves the tickets of a world one after another; the bytes taken for ticket k go in the pieces that `cut k` says
abbrev pub serving : Kind → (ℕ → List Word) → World → List Call
serving kind cut w = served_all w.orders cut 0 w.accounts (start kind)

-- whether a call goes through; FULL and DAMAGED are stops and no refusals
abbrev pub accepts : World → Call → Type 0
accepts w (call_replace order run) = replace_number (replace_of w.desk order (sizes_of run)).answer ≡ 0
accepts w call_open = open_number (open_of w.desk).answer ≡ 0
accepts w (call_feed s table piece) = feed_number (feed_of w.desk s table piece).answer ≡ 0
accepts w (call_close s) = close_number (close_of w.desk s).answer ≡ 0
accepts w call_take = take_number (take_of w.desk).answer ≡ 0

-- no call of a history is refused
unfoldable pub NoneRefused : World → List Call → Type 0
NoneRefused w [] = Unit {0}
NoneRefused w (a ∷ calls) = accepts w a × NoneRefused (step w a) calls
