use Prim.Native.Nat.{◌+◌}
use lib.Dec.{ltb}
use lib.ListN.{length}
use Rattle.desk.specs.Rooms.{is_for, ticket_in}
use Rattle.desk.proofs.Scanning.{by-other-slots, by-long, by-reading}
use native.Mathlib.Omega.{arith}
use borrow.Author.Rules.{rules}
use Rattle.std.specs.Prelude.{None, Some}
use Rattle.desk.specs.Laws.Rooms.{found_by}
use borrow.Author.Tests.{eq-eqb, ne_eqb, lt-ltb, le-ltb}
use Rattle.desk.specs.Feed.{feed_of}
use Rattle.desk.specs.Layout.{lent, place_fits, sizes_of}
use Rattle.desk.proofs.Desk.feed.Goals as goal

pub returns-in_default : goal.returns-in_default
unfolding feed_of
returns-in_default c =
    let none = found_by (is_for c.args.serial) c.args.self.tickets None (search rules) c.in_default.ensures in
    simp (le-ltb _ _ none)

pub returns-then-its-edition : goal.returns-then-its-edition
unfolding feed_of
returns-then-its-edition c =
    let room = found_by (is_for c.args.serial) c.args.self.tickets (Some c.in-Some.i) (search rules) c.in-Some.ensures in
    simp (← room.0, lt-ltb _ _ room.1, ne_eqb _ _ c.if-its-edition.true)

pub returns-then-not-fits : goal.returns-then-not-fits
unfolding feed_of
returns-then-not-fits c =
    let a = c.args in
    let i = c.in-Some.i in
    let room = found_by (is_for a.serial) a.self.tickets (Some i) (search rules) c.in-Some.ensures in
    let t = ticket_in a.self.tickets i in
    let tables = lent a.first.now a.second.now in
    simp (← room.0, lt-ltb _ _ room.1, eq-eqb _ _ c.if-its-edition.false)
    (by-other-slots a.self i t tables a.piece.now _ c.fits.ensures c.if-not-fits.true _ c.damaged.ensures
    (ltb 4294967295 (t.taken + length a.piece.now)) (place_fits (sizes_of tables) a.self.slots t.place))

pub returns-then-left-piece : goal.returns-then-left-piece
unfolding feed_of
returns-then-left-piece c =
    let a = c.args in
    let i = c.in-Some.i in
    let room = found_by (is_for a.serial) a.self.tickets (Some i) (search rules) c.in-Some.ensures in
    let t = ticket_in a.self.tickets i in
    let tables = lent a.first.now a.second.now in
    simp (← room.0, lt-ltb _ _ room.1, eq-eqb _ _ c.if-its-edition.false)
    (by-long a.self i t tables a.piece.now _ c.fits.ensures c.if-not-fits.false (omega arith) c.if-left-piece.true
    (place_fits (sizes_of tables) a.self.slots t.place))

pub returns : goal.returns
unfolding feed_of
returns c =
    let a = c.args in
    let i = c.in-Some.i in
    let room = found_by (is_for a.serial) a.self.tickets (Some i) (search rules) c.in-Some.ensures in
    let t = ticket_in a.self.tickets i in
    simp (← room.0, lt-ltb _ _ room.1, eq-eqb _ _ c.if-its-edition.false)
    (by-reading a.self i t (lent a.first.now a.second.now) a.piece.now _ c.fits.ensures c.if-not-fits.false (omega arith) _
    c.read_on.ensures)
