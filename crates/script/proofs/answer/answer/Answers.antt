-- `script::answer::answer` meets its contract: the command that is done is the line's.
use Rattle.script.proofs.Verdicts.{line_done}
use Rattle.ground.proofs.Clauses.{heard_performed, told_performed}
use Rattle.script.proofs.answer.answer.Goals as goal

pub returns : goal.returns
returns c =
    told_performed (line_done _ _ _ _ _ _ c.parse-command.ensures (heard_performed c.perform.ensures))
