-- `tagset::read_entry` meets its contract. Each return is a check that failed, with those before it passed.
use mathlib.Core.Path.{◌∙◌, sym}
use Rattle.tagset.proofs.Entries.{cut_payload, other-kind, too_few, too_many, whole-tag, wrong-length}
use Rattle.tagset.proofs.read_entry.Goals as goal

pub returns-then-left-lt4 : goal.returns-then-left-lt4
returns-then-left-lt4 c =
    let args = c.args in
    too_few args.set.now args.rows c.requires.0 args.k args.at c.if-left-lt4.true

pub returns-then-k-eq-MOST_TAGS : goal.returns-then-k-eq-MOST_TAGS
returns-then-k-eq-MOST_TAGS c =
    let args = c.args in
    too_many args.set.now args.rows c.requires.0 args.k args.at c.if-left-lt4.false c.if-k-eq-MOST_TAGS.true

pub returns-in_default : goal.returns-in_default
returns-in_default c =
    let args = c.args in
    other-kind args.set.now args.rows c.requires.0 args.k args.at
    c.if-left-lt4.false c.if-k-eq-MOST_TAGS.false c.number_at-kind.result c.number_at-kind.ensures c.in_default.ensures

pub returns-then-wrong_length : goal.returns-then-wrong_length
returns-then-wrong_length c =
    let args = c.args in
    wrong-length args.set.now args.rows c.requires.0 args.k args.at
    c.if-left-lt4.false c.if-k-eq-MOST_TAGS.false c.number_at-kind.result c.number_at-kind.ensures c.in-Some.row c.in-Some.ensures.0 c.in-Some.ensures.1
    c.number_at-length.result c.number_at-length.ensures (sym c.wrong_length.ensures ∙ c.if-wrong_length.true)

pub returns-then-left-length : goal.returns-then-left-length
returns-then-left-length c =
    let args = c.args in
    cut_payload args.set.now args.rows c.requires.0 args.k args.at
    c.if-left-lt4.false c.if-k-eq-MOST_TAGS.false c.number_at-kind.result c.number_at-kind.ensures c.in-Some.row c.in-Some.ensures.0 c.in-Some.ensures.1
    c.number_at-length.result c.number_at-length.ensures (sym c.wrong_length.ensures ∙ c.if-wrong_length.false) c.if-left-length.true

pub returns : goal.returns
returns c =
    let args = c.args in
    whole-tag args.set.now args.rows c.requires.0 args.k args.at
    c.if-left-lt4.false c.if-k-eq-MOST_TAGS.false c.number_at-kind.result c.number_at-kind.ensures c.in-Some.row c.in-Some.ensures.0 c.in-Some.ensures.1
    c.number_at-length.result c.number_at-length.ensures (sym c.wrong_length.ensures ∙ c.if-wrong_length.false) c.if-left-length.false
