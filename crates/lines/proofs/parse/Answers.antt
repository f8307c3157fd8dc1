-- `lines::parse` meets its contract: what is chosen by the first word and what is found behind it.
use native.Mathlib.Omega.{arith}
use lib.ListN.{length-take}
use Rattle.lines.proofs.Choosing.{chosen_lent, no_command}
use Rattle.lines.proofs.parse.Goals as goal

pub slice_bounds-word-end : goal.slice_bounds-word-end
slice_bounds-word-end c = simp length-take (omega arith)

pub returns-in_default : goal.returns-in_default
returns-in_default c = no_command _ _ _ c.word_end-end.ensures.end c.in_default.ensures

pub returns : goal.returns
returns c =
    chosen_lent _ _ _ c.word_end-end.ensures.end c.in-Some.ensures c.others-other.ensures
    c.choose.ensures
