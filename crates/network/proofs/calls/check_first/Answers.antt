-- `network::calls::check_first` meets its contract: the refusals of the ends, then of the costs and the link.
use mathlib.Core.Path.{refl}
use Rattle.std.proofs.lemmas.Result.{err_from_is_err_and}
use Rattle.ground.proofs.Answers.{number_some}
use Rattle.rules.specs.Network.{link_refusal}
use Rattle.fitness.specs.UnitTables.{is_linked}
use Rattle.network.proofs.calls.FirstRefusals.{ends_first, ends_passed}
use Rattle.network.proofs.calls.check_first.Goals as goal

pub returns-in_err-check_ends : goal.returns-in_err-check_ends
returns-in_err-check_ends c =
    let args = c.args in
    let exit = err_from_is_err_and c.from_residual.result c.from_residual.ensures.1 in
    rw (exit.1, exit.2)
    (ends_first args.words.now args.queues.now args.a args.b _ c.in_err-check_ends.ensures
    (number_some c.in_err-check_ends.field-0.0))

pub returns-then-not-legal : goal.returns-then-not-legal
returns-then-not-legal c =
    let args = c.args in
    rw c.if-not-legal.true
    (ends_passed args.words.now args.queues.now args.a args.b 4 c.in_ok-check_ends.ensures refl)

pub returns : goal.returns
returns c =
    let args = c.args in
    rw (c.if-not-legal.false, c.link_refusal.ensures, c.is_linked.ensures)
    (ends_passed args.words.now args.queues.now args.a args.b
    (link_refusal (is_linked args.words.now args.a args.b) args.asks)
    c.in_ok-check_ends.ensures refl)
