-- `unit::refusing::check_content` meets its contract: each return is a case of the refusals, by the tests that led there.
use native.Mathlib.Omega.{arith}
use mathlib.Core.Bool.{true}
use mathlib.Core.Logic.{inl, inr}
use mathlib.Core.Path.{◌≡◌, sym, ◌∙◌}
use borrow.Author.Rules.{rules}
use lib.ListN.{length}
use Rattle.std.proofs.lemmas.Result.{err_from_is_err_and}
use Rattle.ground.specs.Limits.{unit_limit, legal_count}
use Rattle.ground.proofs.Clauses.{heard_answer_changes}
use Rattle.ground.proofs.Limits.{count_legal}
use Rattle.rules.proofs.FitUnit.{fit_facts}
use Rattle.message.proofs.ReaderAnswers.{taken, unread, passed_on}
use Rattle.state.specs.Holding.{unit_of}
use Rattle.state.specs.declared.held.Held.{Held}
use Rattle.unit.specs.Reacted.{FitHeld}
use Rattle.unit.proofs.ContentRefusals.{refused_unread, refused_sender, refused_wait, refused_idle}
use Rattle.unit.proofs.ContentRefusals.{after_length, refused_tree, refused_none}
use Rattle.unit.proofs.HeldFit.{held_high, held_padded}
use Rattle.unit.proofs.refusing.check_content.Goals as goal
use Rattle.unit.proofs.refusing.check_content.Goals.{else-acknowledges-via-then-acknowledges+else-awaited-from-eq0, else-acknowledges-via-else-acknowledges}

-- The count is legal.
legal : (h : Held) → FitHeld h → legal_count h.count ≡ true
legal h p =
    let known = fit_facts (unit_of h) p.fit in
    count_legal h.count known.low known.high

pub overflow_cast-unit : goal.overflow_cast-unit
overflow_cast-unit c = omega (arith, held_high c.requires.0)

pub returns-in_err-kind : goal.returns-in_err-kind
returns-in_err-kind c =
    let passed = err_from_is_err_and c.from_residual.result c.from_residual.ensures.1 in
    let args = c.args in
    let read = c.read-read.result in
    let count = legal args.unit c.requires.0 in
    let promised = heard_answer_changes c.read-read.ensures in
    rw (passed.1, passed.2)
    (passed_on _ args.bytes.now read promised count c.in_err-kind.field-0.0 c.in_err-kind.was
    ∙ refused_unread (unit_of args.unit) args.from args.bytes.now
    (unread _ args.bytes.now read promised count c.in_err-kind.field-0.0 c.in_err-kind.was))

pub returns-then-sender-from : goal.returns-then-sender-from
returns-then-sender-from c =
    let args = c.args in
    let message =
    taken _ args.bytes.now c.read-read.result (heard_answer_changes c.read-read.ensures) c.in_ok-kind.field-0 c.in_ok-kind.was in
    refused_sender (unit_of args.unit) args.from args.bytes.now message.legible
    (λ e. c.if-sender-from.true (message.of_sender ∙ e))

pub bounds-awaited-from : goal.bounds-awaited-from
bounds-awaited-from c = omega (arith, c.requires.1, held_high c.requires.0)

pub returns-then-awaited-from-eq0 : goal.returns-then-awaited-from-eq0
returns-then-awaited-from-eq0 c =
    let args = c.args in
    refused_wait args.unit args.from args.bytes.now c.requires.0 c.requires.1 c.in_ok-kind.field-0
    (taken _ args.bytes.now c.read-read.result (heard_answer_changes c.read-read.ensures) c.in_ok-kind.field-0 c.in_ok-kind.was)
    c.if-sender-from.false c.if-acknowledges.ensures c.if-awaited-from-eq0.true

pub copy_of-copy-requires : goal.copy_of-copy-requires
copy_of-copy-requires c = (held_padded c.requires.0, c.requires.1)

pub slice_bounds-changes-end : goal.slice_bounds-changes-end
slice_bounds-changes-end c =
    (taken _ c.args.bytes.now c.read-read.result (heard_answer_changes c.read-read.ensures) c.in_ok-kind.field-0 c.in_ok-kind.was).share

pub slice_bounds-changes_nothing-end : goal.slice_bounds-changes_nothing-end
slice_bounds-changes_nothing-end c =
    (taken _ c.args.bytes.now c.read-read.result (heard_answer_changes c.read-read.ensures) c.in_ok-kind.field-0 c.in_ok-kind.was).long

pub changes_nothing-requires : goal.changes_nothing-requires
changes_nothing-requires c i l =
    let message =
    taken _ c.args.bytes.now c.read-read.result (heard_answer_changes c.read-read.ensures) c.in_ok-kind.field-0 c.in_ok-kind.was in
    omega (arith, message.units i l, held_high c.requires.0)

pub returns-then-changes_nothing : goal.returns-then-changes_nothing
returns-then-changes_nothing c =
    let args = c.args in
    let message =
    taken _ args.bytes.now c.read-read.result (heard_answer_changes c.read-read.ensures) c.in_ok-kind.field-0 c.in_ok-kind.was in
    refused_idle args.unit args.from args.bytes.now c.requires.0 c.requires.1 c.in_ok-kind.field-0 message c.if-sender-from.false
    (elim c.else-acknowledges.branch [
      | else-acknowledges-via-then-acknowledges+else-awaited-from-eq0 w ↦ inl w.if-awaited-from-eq0.false
      | else-acknowledges-via-else-acknowledges w ↦ inr w.if-acknowledges.ensures
    ])
    c.copy_of-copy.ensures c.changes_nothing.ensures c.if-changes_nothing.true

pub slice_bounds-changes-end-2 : goal.slice_bounds-changes-end-2
slice_bounds-changes-end-2 c =
    (taken _ c.args.bytes.now c.read-read.result (heard_answer_changes c.read-read.ensures) c.in_ok-kind.field-0 c.in_ok-kind.was).share

pub slice_bounds-applied-end : goal.slice_bounds-applied-end
slice_bounds-applied-end c =
    (taken _ c.args.bytes.now c.read-read.result (heard_answer_changes c.read-read.ensures) c.in_ok-kind.field-0 c.in_ok-kind.was).long

pub applied-after-requires : goal.applied-after-requires
applied-after-requires c i l =
    let message =
    taken _ c.args.bytes.now c.read-read.result (heard_answer_changes c.read-read.ensures) c.in_ok-kind.field-0 c.in_ok-kind.was in
    omega (arith, message.units i l, held_high c.requires.0)

pub slice_bounds-after-end : goal.slice_bounds-after-end
slice_bounds-after-end c =
    let long : length c.applied-after.result ≡ unit_limit = search rules in
    omega (arith, held_high c.requires.0)

pub slice_bounds-is_tree-end : goal.slice_bounds-is_tree-end
slice_bounds-is_tree-end c =
    let args = c.args in
    let message =
    taken _ args.bytes.now c.read-read.result (heard_answer_changes c.read-read.ensures) c.in_ok-kind.field-0 c.in_ok-kind.was in
    sym
    (after_length args.unit args.from args.bytes.now c.requires.0 c.requires.1 c.in_ok-kind.field-0 message c.if-sender-from.false
    (elim c.else-acknowledges.branch [
      | else-acknowledges-via-then-acknowledges+else-awaited-from-eq0 w ↦ inl w.if-awaited-from-eq0.false
      | else-acknowledges-via-else-acknowledges w ↦ inr w.if-acknowledges.ensures
    ])
    c.copy_of-copy.ensures c.changes_nothing.ensures c.if-changes_nothing.false c.applied-after.ensures)

pub returns-then-not-is_tree : goal.returns-then-not-is_tree
returns-then-not-is_tree c =
    let args = c.args in
    let message =
    taken _ args.bytes.now c.read-read.result (heard_answer_changes c.read-read.ensures) c.in_ok-kind.field-0 c.in_ok-kind.was in
    refused_tree args.unit args.from args.bytes.now c.requires.0 c.requires.1 c.in_ok-kind.field-0 message c.if-sender-from.false
    (elim c.else-acknowledges.branch [
      | else-acknowledges-via-then-acknowledges+else-awaited-from-eq0 w ↦ inl w.if-awaited-from-eq0.false
      | else-acknowledges-via-else-acknowledges w ↦ inr w.if-acknowledges.ensures
    ])
    c.copy_of-copy.ensures c.changes_nothing.ensures c.if-changes_nothing.false c.applied-after.ensures c.is_tree.ensures
    c.if-not-is_tree.true

pub returns : goal.returns
returns c =
    let args = c.args in
    let message =
    taken _ args.bytes.now c.read-read.result (heard_answer_changes c.read-read.ensures) c.in_ok-kind.field-0 c.in_ok-kind.was in
    refused_none args.unit args.from args.bytes.now c.requires.0 c.requires.1 c.in_ok-kind.field-0 message c.if-sender-from.false
    (elim c.else-acknowledges.branch [
      | else-acknowledges-via-then-acknowledges+else-awaited-from-eq0 w ↦ inl w.if-awaited-from-eq0.false
      | else-acknowledges-via-else-acknowledges w ↦ inr w.if-acknowledges.ensures
    ])
    c.copy_of-copy.ensures c.changes_nothing.ensures c.if-changes_nothing.false c.applied-after.ensures c.is_tree.ensures
    c.if-not-is_tree.false
