-- `script::sets::entries` meets its contract. The invariant: the entries put so far, and the words that are left.
use Rattle.std.proofs.Common.{ℕ, List, Option, Some, ◌≡◌, ◌-◌, ◌+◌, sym, ap, subst, ◌∙◌, arith, length}
use Rattle.script.specs.Sets.{kind_at, quoted_at, unmarked}
use Rattle.script.specs.declared.sets.Quoted.{Quoted}
use Rattle.script.specs.Laws.Sets.{Entered, Next, entered_fails, entered_full, entered_last, entered_more, entered_out, followed-fits, last_fits}
use Rattle.script.proofs.sets.entries.Goals as goal

-- the word that was found
next : {rest bare : List ℕ} {kind : ℕ} {q : Option Quoted} → bare ≡ unmarked rest → kind ≡ kind_at rest → q ≡ quoted_at bare → Next rest bare kind q
next w k e = record { words = w; kinds = k; quoted = sym e }

pub returns-in_err-k-clause-result_after : goal.returns-in_err-k-clause-result_after
returns-in_err-k-clause-result_after c =
    let w = next c.unmarked-bare.ensures c.kind_at-kind.ensures c.in_err-k.ensures in
    rw c.from_residual.ensures (entered_fails c.loop-done.invariant.1 (omega arith) w)

pub put_quoted-requires : goal.put_quoted-requires
put_quoted-requires c =
    let l = c.loop-done in
    (l.invariant.1.short, l.invariant.1.long, last_fits c.unmarked-bare.result.now c.in-Last.k (sym c.in_ok-k.ensures ∙ ap Some c.in-Last.is))

pub returns-in-Last-clause-result_after : goal.returns-in-Last-clause-result_after
returns-in-Last-clause-result_after c =
    let w = next c.unmarked-bare.ensures c.kind_at-kind.ensures (sym (ap Some c.in-Last.is) ∙ c.in_ok-k.ensures) in
    entered_last c.in-Last.k _ c.loop-done.invariant.1 (omega arith) w c.put_quoted.ensures.result_after

pub put_quoted-requires-in-Followed : goal.put_quoted-requires-in-Followed
put_quoted-requires-in-Followed c =
    let l = c.loop-done in
    let fits = followed-fits c.unmarked-bare.result.now c.in-Followed.k (sym c.in_ok-k.ensures ∙ ap Some c.in-Followed.is) in
    (l.invariant.1.short, l.invariant.1.long, omega arith)

pub returns-in_err-n-in-Followed-clause-result_after : goal.returns-in_err-n-in-Followed-clause-result_after
returns-in_err-n-in-Followed-clause-result_after c =
    let w = next c.unmarked-bare.ensures c.kind_at-kind.ensures (sym (ap Some c.in-Followed.is) ∙ c.in_ok-k.ensures) in
    rw c.from_residual-in_err-n-in-Followed.ensures
    (entered_full c.in-Followed.k c.loop-done.invariant.1 (omega arith) w c.in_err-n-in-Followed.ensures.result_after)

pub behind_quoted-rest-requires : goal.behind_quoted-rest-requires
behind_quoted-rest-requires c = followed-fits c.unmarked-bare.result.now c.in-Followed.k (sym c.in_ok-k.ensures ∙ ap Some c.in-Followed.is)

pub loop-done-preserved : goal.loop-done-preserved
loop-done-preserved c =
    let l = c.loop-done in
    let put = c.put_quoted-in-Followed in
    let n = c.in_ok-n-in-Followed in
    let w = next c.unmarked-bare.ensures c.kind_at-kind.ensures (sym (ap Some c.in-Followed.is) ∙ c.in_ok-k.ensures) in
    let one : length c.args.words.now - l._done - 1 ≡ length c.args.words.now - (l._done + 1) = omega arith in (
      put.auto.buffer ∙ l.invariant.0,
      subst (λ (left : ℕ). Entered c.args.words.now put.new.buffer c.behind_quoted-rest.result.now left n.n) one
          (entered_more c.in-Followed.k n.n put.new.buffer _ l.invariant.1 (omega arith) w n.ensures.result_after n.ensures.result_bound
          put.auto.buffer c.behind_quoted-rest.ensures),
    )

pub returns-clause-result_after : goal.returns-clause-result_after
returns-clause-result_after c = entered_out c.loop-done.invariant.1 (omega arith)
