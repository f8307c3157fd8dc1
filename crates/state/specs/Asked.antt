-- Order: the questions of crates/rules/specs/Hub.antt, one by its name or all of a unit at once (proofs/QuestionAnswers.antt).
-- All at once are its state, and for each destination the distance, the feasible distance and the successor set; or a refusal.
-- `listed_answer` is read from a row of the table (proofs/ListedAnswers.antt).
use Rattle.std.specs.Prelude.{ℕ, ◌+◌, List, ◌⊎◌, ◌≡◌, Result, Ok, Err}
use Rattle.std.specs.Prelude.{if◌then◌else◌}
use Rattle.ground.specs.declared.refusals.Refusal.{Refusal}
use Rattle.ground.specs.declared.refusals.Refusal.TheVariants.{Unfit}
use Rattle.ground.specs.Rows.{at, tab}
use Rattle.rules.specs.Hub.{hub_answer, question_refusal, distance_answer, feasible_answer, successors_answer, link_answer, awaits_answer}
use Rattle.rules.specs.Tables.{costs_at, awaited_at, successors_at, laid_row, unit_from, fit_unit_table}
use Rattle.rules.specs.Unit.{Unit, is_active, own_distance, successor_set}
use Rattle.state.specs.declared.questions.Question.{Question}
use Rattle.state.specs.declared.questions.Question.TheVariants.{Distance, Feasible, Successors, Link, Awaits}
use Rattle.state.specs.declared.questions.Row.{Row}

abbrev pub row_of : Unit → Row
row_of u =
    record {
      count = u.count;
      active = is_active u;
      distances = laid_row (tab u.count (own_distance u));
      feasible = laid_row u.feasible;
      successors = laid_row (tab u.count (successor_set u));
    }

unfoldable pub row_answer : (words : List ℕ) → Result Row Refusal
row_answer words = if fit_unit_table words then Ok (row_of (unit_from words)) else Err Unfit

-- The answer to each question about a destination.
abbrev pub asked_of : Question → (words : List ℕ) (to : ℕ) → ℕ
asked_of Distance words to = distance_answer words to
asked_of Feasible words to = feasible_answer words to
asked_of Successors words to = successors_answer words to
asked_of Link words to = link_answer words to
asked_of Awaits words to = awaits_answer words to

-- Successor sets, costs and waits stand in the table as they are answered: the rows that do, and the answer from one.
abbrev pub Listed : (row : ℕ) → Type 0
Listed row = (row ≡ successors_at) ⊎ ((row ≡ costs_at) ⊎ (row ≡ awaited_at))

unfoldable pub listed_answer : (words : List ℕ) (row to : ℕ) → ℕ
listed_answer words row to = hub_answer (question_refusal words to) (at words (row + to))
