-- `unit::calls::finish` meets its contract: the reaction's unit is laid over the table, its messages stand in the buffer.
use Rattle.std.specs.Prelude.{unwrap_or}
use Rattle.unit.proofs.FinishedCalls.{all_done}
use Rattle.unit.proofs.calls.finish.Goals as goal

pub returns : goal.returns
returns c =
    let args = c.args in
    let done = c.react-reacted.ensures in
    let told =
    all_done args.table.now c.requires.1 args.unit c.requires.0 args.was (unwrap_or args.new args.unit.count) (unwrap_or args.owed args.unit.count) args.out.now
    done.reacted done.sent c.put_unit.ensures in
    record { answer = told.0; short = done.short; table = told.1.0; sent = told.1.1 }
