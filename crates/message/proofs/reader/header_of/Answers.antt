-- `message::reader::header_of` meets its contract: a number that no kind has is against the layout, and so are fields that are
-- not legal.
use mathlib.Core.Path.{sym, ◌∙◌}
use Rattle.std.proofs.lemmas.Result.{err_from_is_err_and}
use Rattle.message.proofs.Readings.{kind_refused, fields_refused, fields_accepted}
use Rattle.message.proofs.reader.header_of.Goals as goal

pub returns-in_err-kind : goal.returns-in_err-kind
returns-in_err-kind c =
    let passed = err_from_is_err_and c.from_residual.result c.from_residual.ensures.1 in
    let told = c.in_err-kind.ensures in
    rw (passed.1, passed.2) (kind_refused _ _ _ _ c.in_err-kind.field-0.0 told.0 (λ kind e. told.1 kind (e ∙ sym c.from.ensures)))

pub returns-then-not-legal_fields : goal.returns-then-not-legal_fields
returns-then-not-legal_fields c =
    rw (← c.from-sender.ensures) (fields_refused _ _ _ _ c.in_ok-kind.kind (c.in_ok-kind.ensures ∙ c.from.ensures) c.if-not-legal_fields.ensures)

pub returns : goal.returns
returns c =
    rw (← c.from-sender.ensures) (fields_accepted _ _ _ _ c.in_ok-kind.kind (c.in_ok-kind.ensures ∙ c.from.ensures) c.if-not-legal_fields.ensures)
