-- `message::fields::legal_changes` meets its contract. The invariant: every change passed is legal, and `lowest` is the
-- lowest unit that the next one may have.
use native.Mathlib.Numerals.{add-one}
use native.Mathlib.Omega.{arith}
use mathlib.Core.Path.{◌≡◌, refl, sym, ◌∙◌}
use borrow.Author.Rules.{rules}
use lib.ListN.{length}
use Rattle.rules.specs.Message.{legal_changes}
use Rattle.ground.proofs.Rows.{every_more, every_not}
use Rattle.message.proofs.Rising.{found_at}
use Rattle.message.proofs.fields.legal_changes.Goals as goal

pub loop-change-init : goal.loop-change-init
loop-change-init c = (search rules, refl, refl)

pub returns-then-not-legal_change : goal.returns-then-not-legal_change
unfolding legal_changes
returns-then-not-legal_change c =
    let here = c.loop-change in
    sym
    (every_not _ _ here.change-index c.loop-change-test.true
    (found_at _ _ _ here.change-index here.invariant.2 c.legal_change.ensures ∙ c.if-not-legal_change.true))

pub overflow_add-lowest : goal.overflow_add-lowest
overflow_add-lowest c = omega (arith, c.type_inv.changes c.loop-change.change-index)

pub loop-change-preserved : goal.loop-change-preserved
loop-change-preserved c =
    let here = c.loop-change in
    (search rules, every_more here.change-index _ here.invariant.1 (found_at _ _ _ here.change-index here.invariant.2 c.legal_change.ensures ∙ c.if-not-legal_change.false), rw (add-one here.change-index))

pub returns : goal.returns
unfolding legal_changes
returns c =
    let all : c.loop-change.change-index ≡ length c.args.changes.now = omega arith in
    rw (← all) (sym c.loop-change.invariant.1)
