-- `unit::refusing::check` meets its contract: a call about a link is refused by its cost and by whether it asks for the link.
use Rattle.unit.proofs.LinkRefusals.{up_refused, cost_refused, down_refused, by_call}
use Rattle.unit.proofs.refusing.check.Goals as goal

pub returns-in-Up : goal.returns-in-Up
returns-in-Up c =
    up_refused c.args.table.now c.args.room c.args.bytes.now
    c.in-Up.is c.is_legal_cost.ensures c.check_first.ensures

pub returns-in-Cost : goal.returns-in-Cost
returns-in-Cost c =
    cost_refused c.args.table.now c.args.room c.args.bytes.now
    c.in-Cost.is c.is_legal_cost-in-Cost.ensures c.check_first-in-Cost.ensures

pub returns-in-Down : goal.returns-in-Down
returns-in-Down c =
    down_refused c.args.table.now c.args.room c.args.bytes.now
    c.in-Down.is c.check_first-in-Down.ensures

pub returns-in-Message : goal.returns-in-Message
returns-in-Message c =
    by_call c.args.table.now c.args.room c.args.bytes.now
    c.in-Message.is c.check_message.ensures
