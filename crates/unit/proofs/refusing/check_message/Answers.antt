-- `unit::refusing::check_message` meets its contract: the refusals of the link, then those of the content.
use mathlib.Core.Bool.{true, false}
use mathlib.Core.Path.{refl, ap, ◌∙◌}
use Rattle.std.proofs.lemmas.Result.{err_from_is_err_and}
use Rattle.rules.specs.Tables.{unit_from}
use Rattle.rules.proofs.Fit.{fit_unit_shaped}
use Rattle.state.specs.Holding.{unit_of}
use Rattle.state.specs.declared.held.Held.{Held}
use Rattle.state.proofs.Tables.{held_fit}
use Rattle.unit.proofs.HeldFit.{fit_held}
use Rattle.state.proofs.Holding.{holds_back}
use Rattle.unit.proofs.MessageCalls.{link_refused, content_refused, table_fit}
use Rattle.unit.proofs.LinkRefusals.{passed}
use Rattle.unit.proofs.refusing.check_message.Goals as goal

pub returns-in_err-check_first : goal.returns-in_err-check_first
returns-in_err-check_first c =
    let told = err_from_is_err_and c.from_residual.result c.from_residual.ensures.1 in
    let args = c.args in
    rw (told.1, told.2)
    (link_refused args.table.now args.room args.from args.bytes.now c.in_err-check_first.field-0.0 c.in_err-check_first.ensures)

-- Where the link has no refusal, the table holds a fit unit.
pub check_content-requires : goal.check_content-requires
check_content-requires c =
    let args = c.args in
    let words = args.table.now in
    let link = passed words args.room args.from true false c.in_ok-check_first.ensures refl in
    let held = c.unit_in.ensures ∙ held_fit words link.ends.fit in (
      rw held (fit_held (unit_from words) (fit_unit_shaped words link.ends.fit) (table_fit words link.ends.fit)),
      rw (ap (λ (h : Held). h.count) held) link.ends.below,
    )

pub returns : goal.returns
returns c =
    let args = c.args in
    let words = args.table.now in
    let fit = (passed words args.room args.from true false c.in_ok-check_first.ensures refl).ends.fit in
    content_refused words args.room args.from args.bytes.now c.in_ok-check_first.ensures c.check_content.ensures
    (ap unit_of (c.unit_in.ensures ∙ held_fit words fit) ∙ holds_back (unit_from words) (fit_unit_shaped words fit))
