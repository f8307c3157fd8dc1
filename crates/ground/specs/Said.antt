-- Rule: what an answer says: "a definition states this paper's number and values for each of its cases". Code answers by enums; for
-- each of them one definition gives the number and the values of every case, and the promises speak of these.
use Rattle.std.specs.Prelude.{ℕ, List, [], eqb}
use Rattle.std.specs.Prelude.{if◌then◌else◌}
use Rattle.ground.specs.Refusal.{accepted}

-- The number is a refusal's or that of none; the values follow it.
pub record Said : Type 0 where
  pub number : ℕ
  pub values : List ℕ

abbrev pub accepted_with : (values : List ℕ) → Said
accepted_with values = record { number = accepted; values = values }

-- "A refusal returns its number alone".
abbrev pub refused_with : (number : ℕ) → Said
refused_with number = record { number = number; values = [] }

-- What is to be said where the rules give a refusal, or none, and values.
unfoldable pub said : (refusal : ℕ) (values : List ℕ) → Said
said refusal values = if eqb refusal accepted then accepted_with values else refused_with refusal
