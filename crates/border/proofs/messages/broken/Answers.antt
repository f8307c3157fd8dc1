-- `border::messages::broken` meets its contract: 1 and 7 count first.
use mathlib.Core.Path.{refl, sym, ap, ◌∙◌}
use Rattle.ground.specs.Refusal.{◌otherwise◌}
use Rattle.ground.proofs.Answers.{refusal_first}
use Rattle.ground.proofs.Refusal.{rest_counts}
use Rattle.border.proofs.messages.broken.Goals as goal

pub returns-in-Ok : goal.returns-in-Ok
returns-in-Ok c = c.number.ensures ∙ sym (rest_counts 0 9 refl) ∙ ap (λ first. first otherwise 9) c.in-Ok.ensures

pub returns-in-Err : goal.returns-in-Err
returns-in-Err c = c.number-in-Err.ensures ∙ refusal_first c.in-Err.refusal _ 9 c.in-Err.ensures
