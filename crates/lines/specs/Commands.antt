-- Rule: "a command on each line: `units n`, `up a b ca cb`, `cost a b c`, `down a b`, `deliver a b`, `show`; single spaces,
-- decimals of at most 9 digits without leading zeros." Where there is a meter, also `enter s i j`, `move f k`, `drop f`, `page`.
use Rattle.std.specs.Prelude.{ℕ, zero, suc, ◌+◌, ◌*◌, Bool, ◌&&◌, List, eqb, leb, length, drop}
use Rattle.std.specs.Prelude.{if◌then◌else◌}
use Rattle.ground.specs.Rows.{same}
use Rattle.lines.specs.Words.{first_word, after_word, digit_limit, is_decimal, value_of}
use Rattle.lines.specs.Words.{units_name, up_name, cost_name, down_name, deliver_name, show_name}
use Rattle.lines.specs.Words.{enter_name, move_name, drop_name, page_name}
use Rattle.lines.specs.declared.Command.{Command}
use Rattle.lines.specs.declared.Command.TheVariants.{Units, Up, Cost, Down, Deliver, Show, Enter, Move, Drop, Page, Bad}

-- Whether what follows a word is exactly k decimals, each after a space.
unfoldable pub is_arguments : (k : ℕ) (rest : List ℕ) → Bool
is_arguments zero rest = eqb (length rest) 0
is_arguments (suc k) rest =
    leb 1 (length rest) && is_decimal (first_word (drop 1 rest)) && is_arguments k (after_word (drop 1 rest))

-- The argument at place i.
unfoldable pub argument : (i : ℕ) (rest : List ℕ) → ℕ
argument zero rest = value_of (first_word (drop 1 rest))
argument (suc i) rest = argument i (after_word (drop 1 rest))

-- Whether a line is the name and k decimals.
abbrev pub is_spelled : (name : List ℕ) (k : ℕ) (line : List ℕ) → Bool
is_spelled name k line = same (first_word line) name && is_arguments k (after_word line)

-- The bytes of the longest command: `up`, and four decimals, each after a space.
abbrev pub longest_command : ℕ
longest_command = length up_name + 4 * (1 + digit_limit)

-- The command that a line of a meter is.
unfoldable pub meter_command_of : (line : List ℕ) → Command
meter_command_of line =
    let rest = after_word line in
    if is_spelled enter_name 3 line then Enter (argument 0 rest) (argument 1 rest) (argument 2 rest)
    else if is_spelled move_name 2 line then Move (argument 0 rest) (argument 1 rest)
    else if is_spelled drop_name 1 line then Drop (argument 0 rest)
    else if is_spelled page_name 0 line then Page
    else Bad

-- The command that a line is, with a meter or without.
unfoldable pub command_of : (metered : Bool) (line : List ℕ) → Command
command_of metered line =
    let rest = after_word line in
    if is_spelled units_name 1 line then Units (argument 0 rest)
    else if is_spelled up_name 4 line then Up (argument 0 rest) (argument 1 rest) (argument 2 rest) (argument 3 rest)
    else if is_spelled cost_name 3 line then Cost (argument 0 rest) (argument 1 rest) (argument 2 rest)
    else if is_spelled down_name 2 line then Down (argument 0 rest) (argument 1 rest)
    else if is_spelled deliver_name 2 line then Deliver (argument 0 rest) (argument 1 rest)
    else if is_spelled show_name 0 line then Show
    else if metered then meter_command_of line
    else Bad
