-- Rule: "Before a good `units`, which starts afresh each time, other commands answer `refused 2`."
use Rattle.std.specs.Prelude.{ℕ, Bool, true, false, not, ◌&&◌, List, [], ◌∷◌}
use Rattle.ground.specs.Limits.{legal_count}
use Rattle.lines.specs.Commands.{command_of}
use Rattle.lines.specs.declared.Command.{Command}
use Rattle.lines.specs.declared.Command.TheVariants.{Units, Up, Cost, Down, Deliver, Show, Enter, Move, Drop, Page, Bad}
use Rattle.texts.specs.Printed.{refused_line, bad_line}

-- Whether a command is a good `units`, and whether none of some lines is one.
unfoldable pub is_good_units : Command → Bool
is_good_units (Units n) = legal_count n
is_good_units (Up a b ca cb) = false
is_good_units (Cost a b c) = false
is_good_units (Down a b) = false
is_good_units (Deliver a b) = false
is_good_units Show = false
is_good_units (Enter size unit destination) = false
is_good_units (Move place unit) = false
is_good_units (Drop place) = false
is_good_units Page = false
is_good_units Bad = false

unfoldable pub no_good_units : (metered : Bool) (lines : List (List ℕ)) → Bool
no_good_units metered [] = true
no_good_units metered (line ∷ lines) = not (is_good_units (command_of metered line)) && no_good_units metered lines

-- What is printed before one: a count that is not good is refused with 1, and a line that is no command is bad as ever.
unfoldable pub text_before_units : Command → List ℕ
text_before_units (Units n) = refused_line 1
text_before_units (Up a b ca cb) = refused_line 2
text_before_units (Cost a b c) = refused_line 2
text_before_units (Down a b) = refused_line 2
text_before_units (Deliver a b) = refused_line 2
text_before_units Show = refused_line 2
text_before_units (Enter size unit destination) = refused_line 2
text_before_units (Move place unit) = refused_line 2
text_before_units (Drop place) = refused_line 2
text_before_units Page = refused_line 2
text_before_units Bad = bad_line
