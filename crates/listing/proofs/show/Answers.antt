-- `listing::show` meets its contract.
use native.Mathlib.Omega.{arith}
use mathlib.Core.Path.{◌≡◌, refl, sym, ◌∙◌}
use borrow.Author.Rules.{rules}
use Rattle.ground.proofs.Clauses.{heard_answer_out, told_answer_out}
use Rattle.ground.proofs.Joined.{joined_more}
use Rattle.rules.specs.Tables.{network_from}
use Rattle.slices.proofs.Putting.{put_none, put_as, put_then}
use Rattle.listing.specs.Shown.{shown, show_text}
use Rattle.listing.proofs.ShownUnits.{unfit_refused, shows, never_refused, row_high, row_shown}
use Rattle.listing.proofs.show.Goals as goal
use Rattle.listing.proofs.show.Goals.{in-Ok-row_of, in_default}
use Rattle.listing.proofs.show.Invariants.{lines_of}

pub returns-in-Err : goal.returns-in-Err
unfolding show_text
returns-in-Err c =
    let unfit = unfit_refused c.args.words.now c.args.queues.now (sym c.row_of.ensures ∙ c.in-Err.is) in
    rw (unfit.0, ← unfit.1, ← c.number.ensures) c.put_refused.ensures

pub overflow_cast-count : goal.overflow_cast-count
overflow_cast-count c =
    omega (arith, shows c.args.words.now c.args.queues.now (sym c.row_of.ensures ∙ c.in-Ok.is))

pub loop-i-init : goal.loop-i-init
loop-i-init c = (refl, put_none _ _)

pub put_unit-then-requires : goal.put_unit-then-requires
put_unit-then-requires c =
    row_high _ _ (shows c.args.words.now c.args.queues.now (sym c.row_of.ensures ∙ c.in-Ok.is)) _ c.loop-i-test.true
    (sym c.row_of-in-loop-i.ensures ∙ c.in-Ok-row_of.is)

pub loop-i-preserved : goal.loop-i-preserved
loop-i-preserved c =
    let here = c.loop-i in
    let args = c.args in
    let told = shows args.words.now args.queues.now (sym c.row_of.ensures ∙ c.in-Ok.is) in
    elim c.match-row_of-2.branch [
      | in-Ok-row_of w ↦
          let shown = row_shown _ _ told _ c.loop-i-test.true (sym c.row_of-in-loop-i.ensures ∙ w.in-Ok-row_of.is) in
          let more = put_as _ _ shown (heard_answer_out w.put_unit-then.ensures) in (
            search rules,
            rw (w.then-is, w.out-is)
                (put_as _ _ (sym (joined_more here.i (lines_of args.words.now args.queues.now)))
                (put_then _ _ _ _ here.invariant.1 more)),
          )
      | in_default w ↦
          absurd (never_refused _ _ told _ c.loop-i-test.true (sym c.row_of-in-loop-i.ensures ∙ w.in_default.is))
    ]

pub returns : goal.returns
unfolding show_text shown
returns c =
    let args = c.args in
    let told = shows args.words.now args.queues.now (sym c.row_of.ensures ∙ c.in-Ok.is) in
    let all : c.loop-i.i ≡ (network_from args.words.now args.queues.now).count = omega (arith, told.all) in
    rw (told.fit, ← all) (told_answer_out c.loop-i.invariant.1)
