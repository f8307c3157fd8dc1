-- Rule: "The lowest number that applies is given." Refusals are written by rising number, and the first that applies
-- counts.
use Rattle.std.specs.Prelude.{ℕ, Bool, eqb}
use Rattle.std.specs.Prelude.{if◌then◌else◌}

infix 25 ◌gives◌
infixr 12 ◌otherwise◌
-- No refusal.
abbrev pub accepted : ℕ
accepted = 0

-- "An accepted event answers 100 plus the bytes used": what is not refused answers this plus a value, above every refusal.
abbrev pub answer_base : ℕ
answer_base = 100

-- The number, where the condition holds.
abbrev pub ◌gives◌ : (condition : Bool) (number : ℕ) → ℕ
condition gives number = if condition then number else accepted

abbrev pub ◌otherwise◌ : (refusal rest : ℕ) → ℕ
refusal otherwise rest = if eqb refusal accepted then rest else refusal
