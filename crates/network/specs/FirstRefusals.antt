-- Order: the refusals of a network's call that come before its queues are looked at. proofs/calls/FirstRefusals.antt
-- shows that `network_refusal` begins with them.
use Rattle.std.specs.Prelude.{ℕ, Bool, not, List}
use Rattle.ground.specs.Refusal.{◌gives◌, ◌otherwise◌}
use Rattle.ground.specs.Rows.{at}
use Rattle.rules.specs.Network.{bad_ends, link_refusal}
use Rattle.rules.specs.Tables.{fit_tables}
use Rattle.fitness.specs.UnitTables.{is_linked}

-- Refusals 2 and 3 of a call about two units.
abbrev pub ends_refusal : (words bytes : List ℕ) (a b : ℕ) → ℕ
ends_refusal words bytes a b =
    not (fit_tables words bytes) gives 2 otherwise bad_ends (at words 0) a b gives 3

-- Refusals 2 to 6 of a call about the link between a and b: whether its costs are legal, and whether it asks for the link.
abbrev pub first_refusal : (words bytes : List ℕ) (a b : ℕ) (legal asks : Bool) → ℕ
first_refusal words bytes a b legal asks =
    not (fit_tables words bytes) gives 2
    otherwise bad_ends (at words 0) a b gives 3
    otherwise not legal gives 4
    otherwise link_refusal (is_linked words a b) asks
