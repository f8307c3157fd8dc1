-- `border::networks::puntclover_network_trace` meets its contract: units of another length are unfit; else the trace is over the numbers.
use Prim.Native.Nat.{ℕ}
use mathlib.Core.List.{List}
use Rattle.paths.specs.Tracing.{trace_answer}
use Rattle.border.proofs.Asking.{wrong_asked, right_asked}
use Rattle.border.proofs.NetworkBorder.{wrong_path, right_path}
use Rattle.border.proofs.networks.puntclover_network_trace.Goals as goal

pub returns-then-units-ne-UNITS_BYTES : goal.returns-then-units-ne-UNITS_BYTES
returns-then-units-ne-UNITS_BYTES c =
    let args = c.args in
    let traced : List ℕ → ℕ = λ words. trace_answer words args.queues.now args.start args.destination args.choices.now args.path.now in
    rw c.number.ensures
    (record { answer = wrong_asked args.units.now traced c.if-units-ne-UNITS_BYTES.true; path = wrong_path args.units.now args.queues.now args.start args.destination args.choices.now args.path.now c.if-units-ne-UNITS_BYTES.true })

pub returns : goal.returns
returns c =
    let called = c.trace_number in
    let args = c.args in
    let taken = c.take_numbers.ensures in
    let traced : List ℕ → ℕ = λ words. trace_answer words args.queues.now args.start args.destination args.choices.now args.path.now in record {
      answer = right_asked args.units.now traced c.if-units-ne-UNITS_BYTES.false taken called.ensures.answer;
      path = right_path args.units.now args.queues.now args.start args.destination args.choices.now args.path.now
          c.if-units-ne-UNITS_BYTES.false taken called.ensures.path;
    }
