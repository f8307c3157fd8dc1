-- Rule: the number that a message's bytes have for its kind: "Byte 2: 1 acknowledgment, 2 update, 3 both."
use Rattle.std.specs.Prelude.{ℕ, ◌+◌, Result, MatchResult, ◌≡◌, ◌≢◌}
use Rattle.ground.specs.declared.refusals.Refusal.{Refusal}
use Rattle.ground.specs.declared.refusals.Refusal.TheVariants.{Message as AgainstTheLayout}
use Rattle.rules.specs.Message.{acknowledgment, update}
use Rattle.message.specs.declared.kind.Kind.{Kind}
use Rattle.message.specs.declared.kind.Kind.TheVariants.{Acknowledgment, Update, Both}

abbrev pub kind_number : Kind → ℕ
kind_number Acknowledgment = acknowledgment
kind_number Update = update
kind_number Both = acknowledgment + update

-- The kind that has the number, or refusal 9 where none has it.
abbrev pub Decodes : (number : ℕ) → Result Kind Refusal → Type 0
Decodes number answer =
    MatchResult answer (λ kind. kind_number kind ≡ number) (λ refusal. (refusal ≡ AgainstTheLayout) × ((kind : Kind) → kind_number kind ≢ number))
