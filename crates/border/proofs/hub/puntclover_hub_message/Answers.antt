-- `border::hub::puntclover_hub_message` meets its contract: it is the call of its name.
use Rattle.ground.proofs.Clauses.{heard_answer_table_sent, told_answer_table_sent}
use Rattle.border.proofs.hub.puntclover_hub_message.Goals as goal

pub returns : goal.returns
returns c = told_answer_table_sent ((heard_answer_table_sent c.answer.ensures))
