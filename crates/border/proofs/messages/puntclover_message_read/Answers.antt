-- `border::messages::puntclover_message_read` meets its contract: each return is a case of the definition, by the tests that led there.
use Prim.Native.Nat.{ℕ}
use native.Mathlib.Omega.{arith}
use mathlib.Core.Path.{refl}
use lib.ListN.{length-take, length-replicate}
use Rattle.ground.proofs.Limits.{count_legal, count_low, count_high}
use Rattle.message.specs.Numbers.{field_places}
use Rattle.ground.specs.Rows.{zeros}
use Rattle.border.proofs.MessageBorder.{read_bad, read_short, read_refused, read_laid}
use Rattle.ground.proofs.Answers.{number_below}
use Rattle.ground.proofs.Clauses.{told_answer_fields}
use Rattle.border.proofs.messages.puntclover_message_read.Goals as goal

pub returns-then-count-lt2 : goal.returns-then-count-lt2
returns-then-count-lt2 c =
    let args = c.args in
    rw c.number.ensures
    (told_answer_fields (read_bad _ args.bytes.now args.fields.now (count_low _ c.if-count-lt2.true)))

pub returns-then-count : goal.returns-then-count
returns-then-count c =
    let args = c.args in
    rw c.number-then-count.ensures
    (told_answer_fields (read_bad _ args.bytes.now args.fields.now (count_high _ c.if-count.true)))

pub returns-then-fields-lt-FIELD_BYTES : goal.returns-then-fields-lt-FIELD_BYTES
returns-then-fields-lt-FIELD_BYTES c =
    let args = c.args in
    rw c.number-then-fields-lt-FIELD_BYTES.ensures
    (told_answer_fields (read_short _ args.bytes.now args.fields.now (count_legal _ c.if-count-lt2.false c.if-count.false) c.if-fields-lt-FIELD_BYTES.true))

pub slice_bounds-lay_numbers-end-in-Ok : goal.slice_bounds-lay_numbers-end-in-Ok
slice_bounds-lay_numbers-end-in-Ok c = simp length-take (omega arith)

pub lay_numbers-requires : goal.lay_numbers-requires
lay_numbers-requires c = simp length-take (omega arith)

pub returns-in-Err : goal.returns-in-Err
returns-in-Err c =
    let args = c.args in
    rw c.number-in-Err.ensures
    (told_answer_fields (read_refused _ args.bytes.now args.fields.now (count_legal _ c.if-count-lt2.false c.if-count.false)
    c.if-fields-lt-FIELD_BYTES.false (zeros field_places) (length-replicate {A = ℕ} field_places 0)
    c.in-Err.ensures.answer (number_below c.in-Err.refusal)))

pub returns-in-Ok : goal.returns-in-Ok
returns-in-Ok c =
    let args = c.args in
    told_answer_fields (rw c.lay_numbers.ensures
    (read_laid _ args.bytes.now args.fields.now (count_legal _ c.if-count-lt2.false c.if-count.false)
    c.if-fields-lt-FIELD_BYTES.false (zeros field_places) (length-replicate {A = ℕ} field_places 0) refl
    c.in-Ok.ensures.answer (omega arith) c.in-Ok.ensures.fields))
