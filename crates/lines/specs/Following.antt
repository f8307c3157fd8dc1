-- Order: what is found of the decimals that follow a word, and the command that a word and they are. proofs/Choosing.antt shows
-- that it is `command_of`.
use Rattle.std.specs.Prelude.{ℕ, ◌≤◌, ◌<◌, Bool, false, ◌&&◌, List, Option, Some, None, ◌≡◌, eqb}
use Rattle.std.specs.Prelude.{if◌then◌else◌}
use Rattle.ground.specs.Rows.{at, same}
use Rattle.lines.specs.Commands.{is_arguments, argument}
use Rattle.lines.specs.Words.{units_name, up_name, cost_name, down_name, deliver_name, show_name}
use Rattle.lines.specs.Words.{enter_name, move_name, drop_name, page_name}
use Rattle.lines.specs.declared.Command.{Command}
use Rattle.lines.specs.declared.Command.TheVariants.{Units, Up, Cost, Down, Deliver, Show, Enter, Move, Drop, Page, Bad}
use Rattle.lines.specs.declared.Found.{Found}

-- The most decimals that a command has.
abbrev pub argument_limit : ℕ
argument_limit = 4

-- Decimals that are found are as many as follow, and have the numbers of those.
pub record Told (rest : List ℕ) (found : Found) : Type 0 where
  pub counted : (k : ℕ) → k ≤ argument_limit → is_arguments k rest ≡ eqb found.count k
  pub listed : (i : ℕ) → i < found.count → found.count ≤ argument_limit → at found.list i ≡ argument i rest

-- Where none are found, what follows is not decimals, or more of them than a command has.
abbrev pub TellsOf : (rest : List ℕ) → Option Found → Type 0
TellsOf rest (Some found) = Told rest found
TellsOf rest None = (k : ℕ) → k ≤ argument_limit → is_arguments k rest ≡ false

-- The first command, where a word is a name that has k decimals and as many are found, and otherwise the second.
unfoldable pub either_of : (word : List ℕ) (count : ℕ) (name : List ℕ) (k : ℕ) (first second : Command) → Command
either_of word count name k first second = if same word name && eqb count k then first else second

-- The command of a meter that a word and the decimals found are; the same where there is a meter.
unfoldable pub meter_chosen : (word : List ℕ) (count a b c : ℕ) → Command
meter_chosen word count a b c =
    either_of word count enter_name 3 (Enter a b c)
    (either_of word count move_name 2 (Move a b)
    (either_of word count drop_name 1 (Drop a) (either_of word count page_name 0 Page Bad)))

unfoldable pub others_chosen : (word : List ℕ) (count a b c : ℕ) (metered : Bool) → Command
others_chosen word count a b c metered = if metered then meter_chosen word count a b c else Bad

-- The command of a word and the decimals found, where there is another that it may be.
unfoldable pub chosen : (word : List ℕ) (count a b c d : ℕ) (other : Command) → Command
chosen word count a b c d other =
    either_of word count units_name 1 (Units a)
    (either_of word count up_name 4 (Up a b c d)
    (either_of word count cost_name 3 (Cost a b c)
    (either_of word count down_name 2 (Down a b)
    (either_of word count deliver_name 2 (Deliver a b) (either_of word count show_name 0 Show other)))))
