-- `message::numbers::read` meets its contract: each return is a case of the definition, by the tests that led there.
use native.Mathlib.Omega.{arith}
use mathlib.Core.Path.{◌∙◌}
use Rattle.std.proofs.lemmas.Result.{err_from_is_err_and}
use Rattle.ground.proofs.Clauses.{heard_answer_changes}
use Rattle.message.proofs.Counts.{count_known}
use Rattle.message.proofs.NumberAnswers.{found, few, not_found, bad_count, short_table}
use Rattle.message.proofs.numbers.read.Goals as goal

pub returns-in_err-check_count : goal.returns-in_err-check_count
returns-in_err-check_count c =
    let passed = err_from_is_err_and c.from_residual.result c.from_residual.ensures.1 in
    let told = bad_count _ c.args.bytes.now c.args.fields.now c.in_err-check_count.field-0.0 c.in_err-check_count.ensures in
    rw (passed.1, passed.2) (record { answer = told.0; few = tt; fields = told.1 })

pub returns-then-fields-lt-FIELDS : goal.returns-then-fields-lt-FIELDS
returns-then-fields-lt-FIELDS c =
    let told = short_table _ c.args.bytes.now c.args.fields.now (count_known c.args.count c.in_ok-check_count.ensures) c.if-fields-lt-FIELDS.true in
    record { answer = told.0; few = tt; fields = told.1 }

pub returns-in_default : goal.returns-in_default
returns-in_default c =
    let count = count_known c.args.count c.in_ok-check_count.ensures in
    let told = not_found _ c.args.bytes.now c.args.fields.now count c.read-reading.result c.if-fields-lt-FIELDS.false (heard_answer_changes c.read-reading.ensures) c.in_default.field-0 c.in_default.is in
    rw (c.and.ensures, c.in_default.is) (record { answer = told.0; few = tt; fields = told.1 })

pub overflow_cast-entries : goal.overflow_cast-entries
overflow_cast-entries c =
    let count = count_known c.args.count c.in_ok-check_count.ensures in
    let read = heard_answer_changes c.read-reading.ensures in
    omega
    (arith, few _ c.args.bytes.now c.args.fields.now count c.read-reading.result c.if-fields-lt-FIELDS.false read c.in-Ok.header c.in-Ok.is)

pub returns : goal.returns
returns c =
    let count = count_known c.args.count c.in_ok-check_count.ensures in
    let read = heard_answer_changes c.read-reading.ensures in
    let told = found _ c.args.bytes.now c.args.fields.now count c.read-reading.result c.if-fields-lt-FIELDS.false read c.in-Ok.header c.in-Ok.is in
    record {
      answer = told.0;
      few = few _ c.args.bytes.now c.args.fields.now count c.read-reading.result c.if-fields-lt-FIELDS.false read c.in-Ok.header c.in-Ok.is;
      fields = c.lay_fields.ensures ∙ rw c.number.ensures told.1;
    }
