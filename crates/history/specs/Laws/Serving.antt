-- Serving the tickets one after another: no call is refused, and the orders and the accounts come to be those of the history served.
use Rattle.desk.specs.Given.{FeedAnswer}
use Rattle.matching.specs.declared.Stop.TheVariants as S
use Rattle.std.specs.Prelude.{◌+◌, ◌<◌, ◌≤◌, suc, zero, ℕ, Bool, false, true, List, [], ◌++◌, ◌∷◌, ◌⊎◌, ◌≡◌, refl, drop, length, take, Ok}
use Rattle.std.proofs.Common.{inl, inr, ◌∙◌, ap, subst, subst₂, sym, le_of_eq, arith, length-append, length-drop, take-append-drop, length-take-le, take_all}
use Rattle.desk.specs.Rooms.{serial_of}
use Rattle.desk.specs.declared.Serial.{Serial}
use Rattle.history.specs.History.{Account, grown, Replacement, run, step, with_closed, World}
use Rattle.history.specs.Laws.Becomes.{Becomes, becomes_append, becomes_nothing, becomes_sound}
use Rattle.history.specs.Laws.LedgerSteps.{SoundLeft}
use Rattle.history.specs.Laws.Stages.{Emptied, FedSome, closed-one, emptied-all, fed-one}
use Rattle.history.specs.Served.{Script, after_full, emptied, fed_pieces, fed_whole, joined, shut_if, then}
use Rattle.matching.specs.Laws.Words.{below-drop, below-front}
use Rattle.matching.specs.Words.{Below, Word}
use Rattle.matching.specs.declared.Stop.{Stop}
use Rattle.desk.specs.Reached.{call_feed}
use Rattle.history.specs.Laws.Accounts.{grown-more, grown-nothing}
use Rattle.matching.specs.Limits.{largest}
use Rattle.desk.specs.Feed.{advance}

below_right : (m : ℕ) (x y : Word) → Below m (x ++ y) → Below m y
below_right m [] y h = h
below_right m (c ∷ x) y h = below_right m x y h.1

-- the ticket that is being served: the last account of a sound world, open
pub record Served (w : World) (pre : List Account) (x : Account) : Type 0 where
  pub sound : SoundLeft w
  pub accounts : w.accounts ≡ pre ++ x ∷ []
  pub live : x.closed ≡ false
  pub now : x.edition ≡ w.edition

-- the edition in force stays where the orders stay
same-edition : (w v : World) → SoundLeft w → SoundLeft v → v.orders ≡ w.orders → v.edition ≡ w.edition
same-edition w v s t e = sym t.ledger.editions ∙ ap {B = ℕ} length e ∙ s.ledger.editions

-- feeds are enough: one more than the bytes where the list is empty, and two more where it isn't
abbrev Enough : ℕ → World → Word → Type 0
Enough most w b = (suc (length b) < most) ⊎ ((length b < most) × (w.desk.records.count ≡ 0))

at-fed_whole : (most : ℕ) (w : World) (pre : List Account) (x : Account) → Served w pre x → (b : Word) → Below 256 b → length x.bytes + length b ≤ largest
    → Enough most w b
    → Becomes w (fed_whole most (serial_of x.serial) b w) w.orders (pre ++ grown b x ∷ [])
unfolding fed_whole run
at-fed_whole zero w pre x t b small short (inl h) = absurd (omega arith)
at-fed_whole zero w pre x t b small short (inr h) = absurd (omega (arith, h.0))
at-fed_whole (suc most) w pre x t b small short enough =
    subst (λ (y : FeedAnswer). Becomes w (call_feed n w.table b ∷ after_full y more w1) w.orders (pre ++ grown b x ∷ [])) (sym f.answer)
    (cases (at-fed_whole most) f.stops)
  where
    n : Serial
    n = serial_of x.serial

    w1 : World
    w1 = step w (call_feed n w.table b)

    more : ℕ → Script
    more count = fed_whole most n (drop count b)

    f : FedSome w pre x b
    f = fed-one w t.sound pre x t.accounts t.live t.now b small short

    c : ℕ
    c = f.count

    s1 : SoundLeft w1
    s1 = becomes_sound w (call_feed n w.table b ∷ []) _ _ t.sound f.becomes

    x1 : Account
    x1 = grown (take c b) x

    w2 : World
    w2 = run w1 (emptied w1)

    e : Emptied w1 w1.desk.records.count
    e = emptied-all w1.desk.records.count w1 refl

    s2 : SoundLeft w2
    s2 = becomes_sound w1 (emptied w1) _ _ s1 e.becomes

    t2 : Served w2 pre x1
    t2 = record {
      sound = s2;
      accounts = e.becomes.accounts_are ∙ f.becomes.accounts_are;
      live = t.live;
      now = t.now ∙ sym (same-edition w w2 t.sound s2 (e.becomes.orders_are ∙ f.becomes.orders_are));
    }

    left : (w.desk.records.count ≡ 0 → 0 < c) → c < length b → Enough (suc most) w b → length (drop c b) < most
    left some part (inl h) = omega (arith, length-drop c b)
    left some part (inr h) = omega (arith, length-drop c b, some h.1, h.0, part)

    cases : ((v : World) (l : List Account) (y : Account) → Served v l y → (p : Word) → Below 256 p → length y.bytes + length p ≤ largest → Enough most v p
        → Becomes v (fed_whole most (serial_of y.serial) p v) v.orders (l ++ grown p y ∷ []))
        → ((f.stop ≡ S.All) × (c ≡ length b)) ⊎ ((f.stop ≡ S.Full) × (c < length b) × (w.desk.records.count ≡ 0 → 0 < c))
        → Becomes w (call_feed n w.table b ∷ after_full (Ok (advance c f.records f.stop)) more w1) w.orders (pre ++ grown b x ∷ [])
    cases more-feeds (inl q) =
        subst (λ (y : Stop). Becomes w (call_feed n w.table b ∷ after_full (Ok (advance c f.records y)) more w1) w.orders (pre ++ grown b x ∷ []))
        (sym q.0)
        (subst (λ (p : Word). Becomes w (call_feed n w.table b ∷ []) w.orders (pre ++ grown p x ∷ [])) (take_all c b (le_of_eq (sym q.1)))
        f.becomes)
    cases more-feeds (inr q) =
        let rest = more-feeds w2 pre x1 t2 (drop c b) (below-drop 256 c b small)
        (omega (arith, short, length-append x.bytes (take c b), length-take-le c b (omega (arith, q.1)), length-drop c b, q.1))
        (inr (left q.2 q.1 enough, e.empty)) in
        let o2 : w2.orders ≡ w.orders = e.becomes.orders_are ∙ f.becomes.orders_are in
        let whole : grown (drop c b) x1 ≡ grown b x = grown-more x (take c b) (drop c b) ∙ ap (λ (p : Word). grown p x) (take-append-drop c b) in
        subst (λ (y : Stop). Becomes w (call_feed n w.table b ∷ after_full (Ok (advance c f.records y)) more w1) w.orders (pre ++ grown b x ∷ []))
        (sym q.0)
        (becomes_append w (call_feed n w.table b ∷ []) (then emptied (more c) w1) _ _ _ _ f.becomes
        (becomes_append w1 (emptied w1) (more c w2) _ _ _ _ e.becomes
        (subst₂ (λ (os : List Replacement) (y : Account). Becomes w2 (more c w2) os (pre ++ y ∷ [])) o2 whole rest)))

pub at-fed_pieces : (ps : List Word) (w : World) (pre : List Account) (x : Account) → Served w pre x → Below 256 (joined ps)
    → length x.bytes + length (joined ps) ≤ largest
    → Becomes w (fed_pieces (serial_of x.serial) ps w) w.orders (pre ++ grown (joined ps) x ∷ [])
unfolding fed_pieces joined
at-fed_pieces [] w pre x t small short =
    subst (λ (l : List Account). Becomes w [] w.orders l) (t.accounts ∙ ap {B = List Account} (λ (y : Account). pre ++ y ∷ []) (sym (grown-nothing x)))
    (becomes_nothing w)
at-fed_pieces (p ∷ ps) w pre x t small short =
    let n = serial_of x.serial in
    let sizes = length-append p (joined ps) in
    let one = at-fed_whole (length p + 2) w pre x t p (below-front 256 p (joined ps) small) (omega (arith, short, sizes)) (inl (omega arith)) in
    let w1 = run w (fed_whole (length p + 2) n p w) in
    let s1 = becomes_sound w (fed_whole (length p + 2) n p w) _ _ t.sound one in
    let t1 : Served w1 pre (grown p x) =
    record { sound = s1; accounts = one.accounts_are; live = t.live; now = t.now ∙ sym (same-edition w w1 t.sound s1 one.orders_are) } in
    let rest = at-fed_pieces ps w1 pre (grown p x) t1 (below_right 256 p (joined ps) small) (omega (arith, short, sizes, length-append x.bytes p)) in
    becomes_append w (fed_whole (length p + 2) n p w) (fed_pieces n ps w1) _ _ _ _ one
    (subst₂ (λ (os : List Replacement) (y : Account). Becomes w1 (fed_pieces n ps w1) os (pre ++ y ∷ [])) one.orders_are (grown-more x p (joined ps)) rest)

pub at-shut_if : (b : Bool) (w : World) (pre : List Account) (x : Account) → Served w pre x
    → Becomes w (shut_if b (serial_of x.serial) w) w.orders (pre ++ with_closed x b ∷ [])
at-shut_if true w pre x t = closed-one w t.sound pre x t.accounts t.live
at-shut_if false w pre x t =
    subst (λ (l : List Account). Becomes w [] w.orders l)
    (t.accounts ∙ ap {B = List Account} (λ (c : Bool). pre ++ with_closed x c ∷ [])
    t.live) (becomes_nothing w)
