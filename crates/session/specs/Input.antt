-- Rule: "The script program reads standard input, a command on each line": the lines of an input, and what it prints; and what it
-- prints in the program that has a meter.
use Rattle.std.specs.Prelude.{ℕ, List, [], ◌∷◌, ◌++◌, eqb}
use Rattle.ground.specs.Bytes.{newline}
use Rattle.std.specs.Prelude.{if◌then◌else◌}
use Rattle.ground.specs.Rows.{zeros}
use Rattle.rules.specs.Tables.{network_words, network_bytes}
use Rattle.frames.specs.MeterTable.{meter_words}
use Rattle.script.specs.Answers.{words_then, bytes_then, meter_then, command_with, answer_text}

-- Some bytes and then the lines of what follows them: they begin the first of those, and are a line if there is none.
unfoldable pub begun : (front : List ℕ) (lines : List (List ℕ)) → List (List ℕ)
begun front [] = front ∷ []
begun front (line ∷ lines) = (front ++ line) ∷ lines

-- A line ends at a newline, which is no part of it; what follows the last newline is a line if it has a byte.
unfoldable pub lines_of : (input : List ℕ) → List (List ℕ)
lines_of [] = []
lines_of (byte ∷ input) = if eqb byte newline then [] ∷ lines_of input else begun (byte ∷ []) (lines_of input)

-- What lines print, each from the tables that those before it left.
unfoldable pub lines_text : (words bytes meter : List ℕ) (lines : List (List ℕ)) → List ℕ
lines_text words bytes meter [] = []
lines_text words bytes meter (line ∷ lines) =
    let command = command_with meter line in
    answer_text words bytes meter line
    ++ lines_text (words_then words bytes command) (bytes_then words bytes command) (meter_then words bytes meter command) lines

-- The tables with which the program begins: zeros.
unfoldable pub start_words : List ℕ
start_words = zeros network_words

unfoldable pub start_bytes : List ℕ
start_bytes = zeros network_bytes

-- What a whole input prints, from the meter that is lent; by the script program, which lends none; and by the program that lends
-- one, of zeros.
abbrev pub output_with : (meter input : List ℕ) → List ℕ
output_with meter input = lines_text start_words start_bytes meter (lines_of input)

abbrev pub output_of : (input : List ℕ) → List ℕ
output_of input = output_with [] input

unfoldable pub start_meter : List ℕ
start_meter = zeros meter_words

abbrev pub metered_output_of : (input : List ℕ) → List ℕ
metered_output_of input = output_with start_meter input
