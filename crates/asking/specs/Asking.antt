-- Order: all that is asked of unit i of a network at once, its row or the refusal; and one question about a pair of units,
-- whichever it is. proofs/UnitAnswers.antt shows that they are the rules' answers.
use Rattle.std.specs.Prelude.{ℕ, not, List, ltb, Result, Ok, Err}
use Rattle.std.specs.Prelude.{if◌then◌else◌}
use Rattle.ground.specs.declared.refusals.Refusal.{Refusal}
use Rattle.ground.specs.declared.refusals.Refusal.TheVariants.{Unfit, NoUnit}
use Rattle.rules.specs.Network.{unit_at}
use Rattle.rules.specs.NetworkTable.{distance_between, feasible_between, successors_between, link_between, awaits_between}
use Rattle.rules.specs.Tables.{network_from, fit_tables}
use Rattle.state.specs.Asked.{row_of}
use Rattle.state.specs.declared.questions.Question.{Question}
use Rattle.state.specs.declared.questions.Question.TheVariants.{Distance, Feasible, Successors, Link, Awaits}
use Rattle.state.specs.declared.questions.Row.{Row}

unfoldable pub row_at : (words bytes : List ℕ) (i : ℕ) → Result Row Refusal
row_at words bytes i =
    if not (fit_tables words bytes) then Err Unfit
    else if not (ltb i (network_from words bytes).count) then Err NoUnit
    else Ok (row_of (unit_at (network_from words bytes) i))

abbrev pub asked_between : Question → (words bytes : List ℕ) (i j : ℕ) → ℕ
asked_between Distance words bytes i j = distance_between words bytes i j
asked_between Feasible words bytes i j = feasible_between words bytes i j
asked_between Successors words bytes i j = successors_between words bytes i j
asked_between Link words bytes i j = link_between words bytes i j
asked_between Awaits words bytes i j = awaits_between words bytes i j
